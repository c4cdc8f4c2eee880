use Rattle.std.proofs.Common.{◌≡◌, ◌++◌, ◌-◌, map}
use Rattle.std.specs.List.{range_with_len}
use Rattle.feed_text.specs.Buffers.{text_in}
use Rattle.changes_statements.specs.SqlNumbers.{bit_digit}
use Rattle.changes_statements.proofs.numbers.put_bits.Given as goal

abbrev pub invariant-loop-index : goal.invariant-loop-index
invariant-loop-index l = text_in l.out ≡ text_in l.initial.out ++ map (λ k. bit_digit l.number (l.count - 1 - k)) (range_with_len 0 l.index)
