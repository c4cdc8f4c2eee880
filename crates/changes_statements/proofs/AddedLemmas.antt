-- Texts of a list that are added one by one.
use Rattle.std.proofs.Common.{◌≡◌, ◌<◌, ℕ, suc, List, [], ◌∷◌, ◌++◌, length, refl, sym, ap, subst, ◌∙◌, append_assoc, arith}
use Rattle.std.specs.Prelude.{reverse}
use Rattle.std.proofs.lemmas.List.{append-nil, length-append, reverse-append}
use Rattle.changes_statements.specs.NewestTexts.{HasTexts}
use Rattle.changes_statements.specs.StatementTexts.{AreLeft}
use Rattle.changes_statements.specs.declared.newest_first.NewestFirst.{NewestFirst}
use Rattle.changes_statements.specs.declared.text_list.Texts.{Texts}

-- the first n texts were added to the older ones, and the others are left
pub record AddedSome (n : ℕ) (texts older : List (List ℕ)) (left : Texts) (now : NewestFirst) : Type 0 where
  pub seen : List (List ℕ)
  pub more : List (List ℕ)
  pub split : texts ≡ seen ++ more
  pub count : length seen ≡ n
  pub remaining : AreLeft left more
  pub has : HasTexts now (reverse seen ++ older)

pub added_none : (texts older : List (List ℕ)) (left : Texts) (now : NewestFirst) → AreLeft left texts → HasTexts now older → AddedSome 0 texts older left now
added_none texts older left now l h = record { seen = []; more = texts; split = refl; count = refl; remaining = l; has = h }

reverse_push : (seen older : List (List ℕ)) (text : List ℕ) → reverse (seen ++ text ∷ []) ++ older ≡ text ∷ (reverse seen ++ older)
reverse_push seen older text = ap (λ (l : List (List ℕ)). l ++ older) (reverse-append seen (text ∷ []))

pub added_more : (n m : ℕ) (texts older : List (List ℕ)) (left left_then : Texts) (now new : NewestFirst) (text : List ℕ) → m ≡ suc n → n < length texts → AddedSome n texts older left now
    → ((first : List ℕ) (more : List (List ℕ)) → AreLeft left (first ∷ more) → (text ≡ first) × AreLeft left_then more)
    → ((before : List (List ℕ)) → HasTexts now before → HasTexts new (text ∷ before))
    → AddedSome m texts older left_then new
added_more n m texts older left left_then now new text is few h took added = of h.more h.split h.remaining
  where
    of : (more : List (List ℕ)) → texts ≡ h.seen ++ more → AreLeft left more → AddedSome m texts older left_then new
    of [] split remaining = absurd (let none = ap length (split ∙ append-nil h.seen) in let c = h.count in omega (arith, few, none, c))
    of (first ∷ more) split remaining =
        let (same, then) = took first more remaining in
        record {
          seen = h.seen ++ first ∷ [];
          more = more;
          split = split ∙ sym (append_assoc h.seen (first ∷ []) more);
          count = let long = length-append h.seen (first ∷ []) in let c = h.count in omega (arith, long, c, is);
          remaining = then;
          has = subst (HasTexts new) (sym (reverse_push h.seen older first)) (subst (λ (t : List ℕ). HasTexts new (t ∷ (reverse h.seen ++ older))) same (added (reverse h.seen ++ older) h.has));
        }

pub added_all : (n : ℕ) (texts older : List (List ℕ)) (left : Texts) (now : NewestFirst) → n ≡ length texts → AddedSome n texts older left now → HasTexts now (reverse texts ++ older)
added_all n texts older left now is h = of h.more h.split
  where
    of : (more : List (List ℕ)) → texts ≡ h.seen ++ more → HasTexts now (reverse texts ++ older)
    of [] split = subst (λ (l : List (List ℕ)). HasTexts now (reverse l ++ older)) (sym (split ∙ append-nil h.seen)) h.has
    of (first ∷ more) split = absurd (let long = ap length split ∙ length-append h.seen (first ∷ more) in let c = h.count in omega (arith, long, c, is))
