use Rattle.wire_buf.specs.Encoding.{Reads, IsSequence, Alone}
use Rattle.wire_fields_extra.proofs.raw_seq.read_numbers.Given as goal

abbrev pub invariant-loop : goal.invariant-loop
invariant-loop g l =
    Reads (IsSequence l.counter (Alone g.T.IntRepr.encodes)) l.numbers.items l.initial.buf.0.now l.buf.0.now
