use Rattle.std.proofs.Common.{sym, ap}
use Rattle.std.specs.Cow.{cow_slice_items}
use Rattle.wire_buf.proofs.EncodingLemmas.{Reads-is}
use Rattle.wire_fields_extra.proofs.raw_seq.RawSeqMyDeserialize.deserialize.Goals as goal

pub returns-clause-ok : goal.returns-clause-ok
returns-clause-ok g c = Reads-is (ap (λ i. cow_slice_items i) (sym c.new.ensures)) c.in_ok-numbers.ensures.ok
