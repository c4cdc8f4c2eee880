use Rattle.std.proofs.Common.{take}
use Rattle.std.proofs.lemmas.Result.{on_ok_weaker}
use Rattle.wire_fields.proofs.TextLemmas.{counted_writes}
use Rattle.wire_fields_extra.proofs.counted_bytes.U32BytesBytesRepr.serialize.Goals as goal

pub returns-clause-ok : goal.returns-clause-ok
returns-clause-ok g c = on_ok_weaker _ (counted_writes 4 (take 4294967295 c.args.text.now) _ _) c.put_u32_str.ensures.ok
