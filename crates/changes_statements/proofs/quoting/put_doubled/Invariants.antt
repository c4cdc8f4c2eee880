use Rattle.std.proofs.Common.{◌≡◌, ◌++◌, take}
use Rattle.std.specs.List.{flat_map}
use Rattle.feed_text.specs.Buffers.{text_in}
use Rattle.changes_statements.specs.SqlTexts.{doubled}
use Rattle.changes_statements.proofs.quoting.put_doubled.Given as goal

abbrev pub invariant-loop-byte : goal.invariant-loop-byte
invariant-loop-byte l = text_in l.out ≡ text_in l.initial.out ++ flat_map (doubled l.quote) (take l.byte-index l.bytes)
