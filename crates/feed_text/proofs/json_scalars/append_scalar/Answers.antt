use Rattle.feed_text.proofs.StringLemmas.{utf8_string}
use Rattle.feed_text.proofs.json_scalars.append_scalar.Goals as goal

pub append_string-requires : goal.append_string-requires
append_string-requires g c = utf8_string c.in-String.string _ c.as_bytes.ensures.value
