use Rattle.std.proofs.Common.{◌≡◌, ◌+◌, drop, map}
use Rattle.changes_stats.specs.Largest.{index_of, large_of}
use Rattle.changes_stats.proofs.largest.LargestTransactions.index_of.Given as goal

abbrev pub invariant-loop-index : goal.invariant-loop-index
invariant-loop-index l = index_of l.rows (map large_of (drop l.index l.self.list.items)) + l.index ≡ index_of l.rows (map large_of l.self.list.items)
