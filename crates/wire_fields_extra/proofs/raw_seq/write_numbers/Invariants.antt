use Rattle.std.proofs.Common.{map, take}
use Rattle.wire_buf.specs.Encoding.{Alone}
use Rattle.wire_fields_extra.proofs.SequenceLemmas.{WritesSequence}
use Rattle.wire_fields_extra.proofs.raw_seq.write_numbers.Given as goal

abbrev pub invariant-loop-number : goal.invariant-loop-number
invariant-loop-number g l =
    WritesSequence g.T.IntRepr.encoded (Alone g.T.IntRepr.encodes) (map g.T.IntRepr.kept (take l.number-index l.numbers)) l.initial.buf.items l.buf.items
