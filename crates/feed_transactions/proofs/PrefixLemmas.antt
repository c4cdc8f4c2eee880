-- The transactions of a prefix of a file.
use Rattle.std.proofs.Common.{◌≡◌, ℕ, Bool, true, false, List, [], ◌∷◌, ◌++◌, drop, refl, ap, ◌∙◌, eqb}
use Rattle.std.specs.Prelude.{◌&&◌}
use Rattle.feed_transactions.specs.Rules.{Rules, shown}
use Rattle.feed_transactions.specs.Transactions.{Transaction}
use Rattle.feed_transactions.proofs.RuleLemmas.{shown-append}
use Rattle.feed_checks.specs.LogFormat.{events, has_magic_number}
use Rattle.feed_transactions.specs.Reports.{file_events, file_transactions}
use Rattle.feed_checks.proofs.EventLemmas.{events-append}

-- the magic number stays, and so do the bytes after it
pub with_magic-append : (b c : List ℕ) → has_magic_number b ≡ true → (has_magic_number (b ++ c) ≡ true) × (drop 4 (b ++ c) ≡ drop 4 b ++ c)
with_magic-append [] c h = absurd cc
with_magic-append (p ∷ []) c h = absurd (no_three (eqb 254 p) h)
  where
    no_three : (a : Bool) → (a && false) ≡ true → ⊥
    no_three true h = absurd cc
    no_three false h = absurd cc
with_magic-append (p ∷ q ∷ []) c h = absurd (no_two (eqb 254 p) (eqb 98 q) h)
  where
    no_two : (a b : Bool) → (a && (b && false)) ≡ true → ⊥
    no_two true true h = absurd cc
    no_two true false h = absurd cc
    no_two false b h = absurd cc
with_magic-append (p ∷ q ∷ r ∷ []) c h = absurd (no_one (eqb 254 p) (eqb 98 q) (eqb 105 r) h)
  where
    no_one : (a b d : Bool) → (a && (b && (d && false))) ≡ true → ⊥
    no_one true true true h = absurd cc
    no_one true true false h = absurd cc
    no_one true false d h = absurd cc
    no_one false b d h = absurd cc
with_magic-append (p ∷ q ∷ r ∷ s ∷ b) c h = (h, refl)

either_magic : (xs ys : List Transaction) (t u : Bool) → (t ≡ true → (u ≡ true) × ((more : List Transaction) × (ys ≡ xs ++ more)))
    → (more : List Transaction) × ((elim u [ true ↦ ys | false ↦ [] ]) ≡ (elim t [ true ↦ xs | false ↦ [] ]) ++ more)
either_magic xs ys true u h = let k = h refl in (k.1.0, rw k.0 k.1.1)
either_magic xs ys false u h = ((elim u [ true ↦ ys | false ↦ [] ]), refl)

-- a prefix of a file has a prefix of its transactions
pub file_transactions-append : (r : Rules) (b c : List ℕ) → (more : List Transaction) × (file_transactions r (b ++ c) ≡ file_transactions r b ++ more)
unfolding file_transactions
file_transactions-append r b c =
    either_magic (shown r (file_events b)) (shown r (file_events (b ++ c))) (has_magic_number b) (has_magic_number (b ++ c)) (λ is.
    let k = with_magic-append b c is in
    let e = events-append (drop 4 b) c in
    let s = shown-append r (events (drop 4 b)) e.0 in
    (k.0, (s.0, ap (λ (t : List ℕ). shown r (events t)) k.1 ∙ ap (shown r) e.1 ∙ s.1)))
