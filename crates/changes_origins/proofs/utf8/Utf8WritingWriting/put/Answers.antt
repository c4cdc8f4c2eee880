use Rattle.std.proofs.Common.{◌≡◌, true, ◌++◌, ap, ◌∙◌}
use Rattle.std.specs.Str.{is_utf8}
use Rattle.changes_writers.specs.Base64Texts.{base64_object}
use Rattle.std.proofs.lemmas.Str.{is_utf8-from_IsUtf8}
use Rattle.changes_origins.proofs.Utf8Lemmas.{not_utf8}
use Rattle.changes_origins.proofs.utf8.Utf8WritingWriting.put.Goals as goal

pub returns-in-Some-clause-text : goal.returns-in-Some-clause-text
returns-in-Some-clause-text c =
    let is : is_utf8 c.args.self.now.0.now ≡ true = is_utf8-from_IsUtf8 c.args.self.now.0.now c.in-Some.ensures.utf8 in
    rw is c.in-Some.ensures.text

pub returns-in-None-clause-text : goal.returns-in-None-clause-text
returns-in-None-clause-text c = rw (not_utf8 c.args.self.now.0.now c.in-None.ensures.utf8) (c.put_base64_object.ensures.text ∙ ap (λ l. l ++ base64_object c.args.self.now.0.now) c.in-None.ensures.none)
