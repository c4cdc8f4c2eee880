use Rattle.std.proofs.Common.{map}
use Rattle.wire_buf.specs.Encoding.{Reads, IsSequence}
use Rattle.wire_fields_extra.proofs.items.read_items.Given as goal

abbrev pub invariant-loop : goal.invariant-loop
invariant-loop g l =
    Reads (IsSequence l.counter (g.T.MyDeserialize.encodes tt)) (map g.T.MyDeserialize.view l.items.items) l.initial.buf.0.now l.buf.0.now
