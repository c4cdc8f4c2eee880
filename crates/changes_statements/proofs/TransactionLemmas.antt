-- Texts of transactions that are written one after the other.
use Rattle.std.proofs.Common.{◌≡◌, ℕ, Bool, true, false, List, [], ◌∷◌, ◌++◌, Option, refl, sym, ap, subst, ◌∙◌, append_assoc}
use Rattle.std.specs.Prelude.{codes, not, reverse, if◌then◌else◌}
use Rattle.std.specs.Io.KnownBytes.{Appends}
use Rattle.std.proofs.KnownBytes.{Appends-trans}
use Rattle.feed_checks.specs.LogFormat.{joined}
use Rattle.feed_transactions.specs.Waiting.{WritesSome}
use Rattle.changes_statements.specs.NewestTexts.{HasTexts}
use Rattle.changes_statements.specs.TransactionTexts.{session, texts_back, undo_text}
use Rattle.changes_statements.specs.declared.newest_first.NewestFirst.{NewestFirst}
use Rattle.changes_statements.proofs.NewestLemmas.{writes_both}

-- what was added is what takes the transaction back
pub kept_back : (heading : List ℕ) (texts older : List (List ℕ)) (now : NewestFirst) → HasTexts now (heading ∷ codes "BEGIN;\n" ∷ (reverse texts ++ codes "COMMIT;\n" ∷ older)) → HasTexts now (texts_back heading texts ++ older)
kept_back heading texts older now h =
    subst (λ (l : List (List ℕ)). HasTexts now (heading ∷ codes "BEGIN;\n" ∷ l)) (sym (append_assoc (reverse texts) (codes "COMMIT;\n" ∷ []) older)) h

-- the bytes that waited were written too
some_then_all : (a b c : Option (List ℕ)) (w t x : List ℕ) → WritesSome a b w t x → Appends b c x → Appends a c (w ++ t)
some_then_all a b c w t x h k = subst (Appends a c) (sym h.joined) (Appends-trans a b c h.bytes x h.written k)

undo_is : (texts : List (List ℕ)) (empty : Bool) → (texts ≡ [] → empty ≡ true) → ((text : List ℕ) (more : List (List ℕ)) → texts ≡ text ∷ more → empty ≡ false) → undo_text texts ≡ (if not empty then session else []) ++ joined texts
undo_is [] empty none some = rw (none refl) refl
undo_is (text ∷ more) empty none some = rw (some text more refl) refl

pub wrote_undo : (texts : List (List ℕ)) (kept : NewestFirst) (empty : Bool) (a b c d : Option (List ℕ)) (w x y : List ℕ) → HasTexts kept texts → (HasTexts kept [] → empty ≡ true) → ((text : List ℕ) (more : List (List ℕ)) → HasTexts kept (text ∷ more) → empty ≡ false)
    → WritesSome a b w (if not empty then session else []) x → WritesSome b c x (joined texts) y → Appends c d y → Appends a d (w ++ undo_text texts)
wrote_undo texts kept empty a b c d w x y has none some first others last =
    subst (λ (l : List ℕ). Appends a d (w ++ l)) (sym (undo_is texts empty (λ e. none (subst (HasTexts kept) e has)) (λ text more e. some text more (subst (HasTexts kept) e has))))
    (some_then_all a c d w ((if not empty then session else []) ++ joined texts) y (writes_both a b c w x y (if not empty then session else []) (joined texts) first others) last)

-- four texts
pub writes_four : (a b c d e : Option (List ℕ)) (w x y z u : List ℕ) (p q r s t : List ℕ) → r ≡ t → WritesSome a b w p x → WritesSome b c x q y → WritesSome c d y r z → WritesSome d e z s u → WritesSome a e w (p ++ (q ++ (t ++ s))) u
writes_four a b c d e w x y z u p q r s t is one two three four =
    subst (λ (l : List ℕ). WritesSome a e w (p ++ (q ++ (l ++ s))) u) is
    (writes_both a b e w x u p (q ++ (r ++ s)) one (writes_both b c e x y u q (r ++ s) two (writes_both c d e y z u r s three four)))
