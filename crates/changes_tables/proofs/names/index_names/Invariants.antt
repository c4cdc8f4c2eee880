use Rattle.std.proofs.Common.{◌≡◌, map}
use Rattle.std.specs.List.{range_with_len}
use Rattle.changes_tables.specs.NamesOfColumns.{index_name}
use Rattle.changes_tables.proofs.names.index_names.Given as goal

abbrev pub invariant-loop-index : goal.invariant-loop-index
invariant-loop-index l = map (λ n. n.items) l.names.items ≡ map index_name (range_with_len 0 l.index)
