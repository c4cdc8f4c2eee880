-- The length of packed decimals.
use Rattle.std.proofs.Common.{◌≡◌, ◌-◌, ◌++◌, Bool, true, false, ℕ, suc, List, [], ◌∷◌, length, inl, inr, arith, refl, ◌∙◌}
use Rattle.std.specs.Ordering.{nat_cmp}
use Rattle.std.specs.declared.cmp.Ordering.TheVariants.{Equal}
use Rattle.std.proofs.lemmas.Bool.Decides.{leb_tells, eqb_tells}
use Rattle.std.proofs.lemmas.List.{length-append, length-map}
use Rattle.rows_values.specs.Digits.{before_bytes, after_bytes, top_flipped, signed}
use Rattle.rows_values.specs.Decimals.{DecimalParts, packed_encoding, packed_size}
use Rattle.rows_values.proofs.UnpackLemmas.{length-before, length-after}

pub self_equal : (x : ℕ) → nat_cmp x x ≡ Equal
self_equal x = elim (leb_tells (suc x) x) [
  | inl t ↦ absurd (omega (arith, t.1))
  | inr t ↦ rw t.0 (elim (eqb_tells x x) [ inl e ↦ rw e.0 refl | inr e ↦ absurd (e.1 refl) ])
]

length-top : (y : List ℕ) → length (top_flipped y) ≡ length y
length-top [] = refl
length-top (b ∷ y) = refl

pub length-packed : (v : DecimalParts) → length (packed_encoding v) ≡ packed_size (length v.before) (length v.after)
length-packed v =
    let y = before_bytes v.before ++ after_bytes v.after in
    let whole : length y ≡ packed_size (length v.before) (length v.after) = omega (arith, length-append (before_bytes v.before) (after_bytes v.after), length-before v.before, length-after v.after) in
    same v.negative (top_flipped y) ∙ length-top y ∙ whole
  where
    same : (n : Bool) (x : List ℕ) → length (signed n x) ≡ length x
    same true x = length-map x (λ b. 255 - b)
    same false x = refl
