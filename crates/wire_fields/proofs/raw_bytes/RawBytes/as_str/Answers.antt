use Rattle.std.proofs.Common.{sym, ◌∙◌, subst}
use Rattle.std.specs.Str.{IsUtf8}
use Rattle.std.proofs.lemmas.Str.{utf8_lossy-IsUtf8}
use Rattle.wire_fields.proofs.raw_bytes.RawBytes.as_str.Goals as goal

pub returns-in-Ok-clause-lossy : goal.returns-in-Ok-clause-lossy
returns-in-Ok-clause-lossy g c =
    let h = c.in-Ok.ensures.cases in
    let same = h.0 ∙ c.as_bytes.ensures in
    same ∙ sym (utf8_lossy-IsUtf8 _ (subst IsUtf8 c.as_bytes.ensures h.1))
