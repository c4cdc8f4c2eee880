use Rattle.std.proofs.Common.{arith, ◌≡◌, ◌++◌, subst, take}
use Rattle.std.specs.Char.{encode_utf8}
use Rattle.std.specs.Str.{IsUtf8}
use Rattle.changes_character_sets.proofs.CharacterLemmas.{none_at_end, none_in_few, none_in_others, begins_utf8}
use Rattle.changes_character_sets.proofs.character_set.split_utf8.Goals as goal

pub returns-in_err-character : goal.returns-in_err-character
returns-in_err-character c = rw c.from_residual.ensures (none_in_few c.args.bytes.now _ c.in_err-character.ensures.cases c.utf8_len.ensures.value)

pub returns-in_default : goal.returns-in_default
returns-in_default c = none_at_end c.args.bytes.now (omega arith)

pub returns-in_default-from_utf8 : goal.returns-in_default-from_utf8
returns-in_default-from_utf8 c = let p = c.in_ok-character.ensures.cases in let q = c.in_default-from_utf8.ensures.cases in
    none_in_others c.args.bytes.now c.utf8_len.result (subst (λ x. ¬ (IsUtf8 x)) p.1 q.0) c.utf8_len.ensures.value

pub returns : goal.returns
returns c =
    let h = c.in_ok-next.ensures.steps in
    let i = c.in-Ok.ensures.cases in
    let p = c.in_ok-character.ensures.cases in
    let e : take c.utf8_len.result c.args.bytes.now ≡ encode_utf8 c.in_ok-next.field-0 ++ c.next.new.self.rest.now = cc in
    rw p.2 (begins_utf8 c.args.bytes.now c.next.new.self.rest.now c.utf8_len.result c.in_ok-next.field-0 (subst IsUtf8 p.1 i.1) p.0 c.utf8_len.ensures.some e c.utf8_len.ensures.value)
