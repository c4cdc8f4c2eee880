use Rattle.std.proofs.Common.{◌≡◌, ◌++◌}
use Rattle.feed_text.specs.Buffers.{text_in}
use Rattle.changes_statements.specs.SqlTexts.{zeros}
use Rattle.changes_statements.proofs.quoting.put_zeros.Given as goal

abbrev pub invariant-loop-index : goal.invariant-loop-index
invariant-loop-index l = text_in l.out ≡ text_in l.initial.out ++ zeros l.index
