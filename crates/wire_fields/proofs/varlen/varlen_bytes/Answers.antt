use Rattle.std.proofs.Common.{◌∙◌, arith}
use Rattle.std.proofs.Math.ListN.{length-set}
use Rattle.wire_fields.proofs.SevenLemmas.{room_for_more, sevens_more, sevens_last}
use Rattle.wire_fields.proofs.varlen.varlen_bytes.Goals as goal

pub loop-rest-preserved : goal.loop-rest-preserved
loop-rest-preserved c =
    let i = c.loop-rest.invariant in
    let r = room_for_more c.loop-rest.len c.loop-rest.rest i.room i.fits (omega arith) in
    record { size = length-set c.loop-rest.bytes c.loop-rest.len _ ∙ i.size; room = r.0; fits = r.1; encoding_is = sevens_more _ _ _ _ (omega arith) r.0 i.size i.encoding_is }

pub returns-clause-bytes : goal.returns-clause-bytes
returns-clause-bytes c = let i = c.loop-rest.invariant in sevens_last _ _ _ _ (omega arith) i.room i.size i.encoding_is
