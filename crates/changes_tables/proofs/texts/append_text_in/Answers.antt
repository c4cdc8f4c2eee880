use Rattle.std.proofs.Common.{List, ℕ, ◌++◌, ap, sym, subst, ◌∙◌}
use Rattle.changes_character_sets.specs.Texts.{AppendsText, IsTextOf}
use Rattle.changes_tables.proofs.JsonTextLemmas.{appended_text}
use Rattle.changes_tables.proofs.texts.append_text_in.Goals as goal

pub returns-then-branch : goal.returns-then-branch
returns-then-branch c =
    let a : AppendsText c.args.set c.args.bytes.now c.new-text.result.items c.decode.new.text.items = c.in_ok-decode.ensures.yes c.if-branch.true in
    let same = c.deref.ensures.value ∙ a.appended ∙ ap (λ (start : List ℕ). start ++ a.text) c.new-text.ensures.items in
    appended_text c.append_string.result c.args.set c.args.bytes.now c.args.out.now.items c.append_string.new.out.items c.deref.result.now
    (subst (λ (text : List ℕ). IsTextOf c.args.set c.args.bytes.now text) (sym same) a.is_text) c.append_string.ensures
