use Rattle.std.proofs.Common.{map, take}
use Rattle.wire_fields_extra.proofs.SequenceLemmas.{WritesSequence}
use Rattle.wire_fields_extra.proofs.items.write_items.Given as goal

abbrev pub invariant-loop-item : goal.invariant-loop-item
invariant-loop-item g l =
    WritesSequence g.T.MySerialize.encoded g.T.MySerialize.encoding (map g.T.MySerialize.view (take l.item-index l.items)) l.initial.buf.items l.buf.items
