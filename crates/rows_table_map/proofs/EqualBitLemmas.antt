-- Bits that are compared one by one.
use Rattle.std.proofs.Common.{◌≡◌, ℕ, zero, suc, ◌+◌, ◌-◌, ◌<◌, ◌≤◌, Bool, true, false, [], ◌∷◌, length, refl, sym, ap, ◌∙◌, arith}
use Rattle.std.specs.Prelude.{◌&&◌}
use Rattle.std.specs.Bool.{beq}
use Rattle.std.specs.Option.{option_eq}
use Rattle.std.specs.Cmp.Lexicographic.{pointwise, unequal}
use Rattle.std.proofs.lemmas.Bool.{lt-ltb}
use mathlib.Core.Bool.{not}
use Rattle.rows_table_map.specs.BitLists.{list_from, bit_of, bit_at, len_of, bit_list}
use Rattle.rows_table_map.specs.declared.bits.Bits.{Bits}

length-list_from : (f : ℕ → Bool) (k n : ℕ) → length (list_from f k n) ≡ n
unfolding list_from
length-list_from f k zero = refl
length-list_from f k (suc n) = ap suc (length-list_from f (k + 1) n)

pub list_from-none : (f : ℕ → Bool) (k n : ℕ) → n ≡ 0 → list_from f k n ≡ []
unfolding list_from
list_from-none f k zero e = refl
list_from-none f k (suc n) e = absurd (omega (arith, e))

first-bit : (f : ℕ → Bool) (k n m : ℕ) → n ≡ suc m → list_from f k n ≡ f k ∷ list_from f (k + 1) m
unfolding list_from
first-bit f k n m e = ap (list_from f k) e

-- whether the bits from k on are the same
abbrev pub same_from : (f g : ℕ → Bool) → ℕ → ℕ → Bool
same_from f g k n = pointwise beq (list_from f k (n - k)) (list_from g k (n - k))

pub same_from-step : (f g : ℕ → Bool) (k n : ℕ) → k < n → same_from f g k n ≡ (beq (f k) (g k) && same_from f g (k + 1) n)
same_from-step f g k n h =
    let e : n - k ≡ suc (n - (k + 1)) = omega (arith, h) in
    rw (first-bit f k (n - k) (n - (k + 1)) e, first-bit g k (n - k) (n - (k + 1)) e) refl

pub same_from-end : (f g : ℕ → Bool) (k n : ℕ) → n ≤ k → same_from f g k n ≡ true
same_from-end f g k n h =
    let e : n - k ≡ 0 = omega (arith, h) in
    rw (list_from-none f k (n - k) e, list_from-none g k (n - k) e) refl

pub other_length : (a b : Bits) → (len_of a ≡ len_of b → ⊥) → pointwise beq (bit_list a) (bit_list b) ≡ false
other_length a b n =
    unequal beq (bit_list a) (bit_list b) (λ e. n (sym (length-list_from (bit_of a) 0 (len_of a)) ∙ e ∙ length-list_from (bit_of b) 0 (len_of b)))

pub bits_at-eq : (a b : Bits) (k : ℕ) → k < len_of a → k < len_of b → option_eq beq (bit_at a k) (bit_at b k) ≡ beq (bit_of a k) (bit_of b k)
bits_at-eq a b k h g = rw (lt-ltb k (len_of a) h, lt-ltb k (len_of b) g) refl

same_bit : (x : Bool) → not x ≡ false → x ≡ true
same_bit true e = refl
same_bit false e = (cc)

other_bit : (x : Bool) → not x ≡ true → x ≡ false
other_bit true e = (cc)
other_bit false e = refl

pub of_all : (a b : Bits) → len_of a ≡ len_of b → pointwise beq (bit_list a) (bit_list b) ≡ same_from (bit_of a) (bit_of b) 0 (len_of a)
of_all a b same =
    let e : len_of a ≡ len_of a - 0 = omega arith in
    let g : len_of b ≡ len_of a - 0 = omega (arith, same) in
    λ i. pointwise beq (list_from (bit_of a) 0 (e i)) (list_from (bit_of b) 0 (g i))

module _ (a b : Bits) (k : ℕ) (h : k < len_of a) (same : len_of a ≡ len_of b) where
  here : option_eq beq (bit_at a k) (bit_at b k) ≡ beq (bit_of a k) (bit_of b k)
  here = bits_at-eq a b k h (omega (arith, h, same))

  pub goes_on : not (option_eq beq (bit_at a k) (bit_at b k)) ≡ false → same_from (bit_of a) (bit_of b) k (len_of a) ≡ same_from (bit_of a) (bit_of b) (k + 1) (len_of a)
  goes_on e =
      let t : beq (bit_of a k) (bit_of b k) ≡ true = sym here ∙ same_bit _ e in
      same_from-step (bit_of a) (bit_of b) k (len_of a) h ∙ ap (λ x. x && same_from (bit_of a) (bit_of b) (k + 1) (len_of a)) t

  pub differs : not (option_eq beq (bit_at a k) (bit_at b k)) ≡ true → same_from (bit_of a) (bit_of b) k (len_of a) ≡ false
  differs e =
      let t : beq (bit_of a k) (bit_of b k) ≡ false = sym here ∙ other_bit _ e in
      same_from-step (bit_of a) (bit_of b) k (len_of a) h ∙ ap (λ x. x && same_from (bit_of a) (bit_of b) (k + 1) (len_of a)) t
