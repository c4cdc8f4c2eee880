use Rattle.wire_fields.proofs.BytewiseLemmas.{bytes_are_read}
use Rattle.wire_fields.proofs.byte.U8IntRepr.from_bytes.Goals as goal

pub returns : goal.returns
returns c = bytes_are_read c.args.bytes.now
