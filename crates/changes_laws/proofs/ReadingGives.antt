-- What holds of all that a reading may give.
use Rattle.std.proofs.Common.{◌≡◌, ℕ, zero, suc, ◌+◌, ◌<◌, ◌≤◌, ◌^◌, ◌*◌, Bool, true, false, ◌-◌, List, [], ◌∷◌, Option, Some, None, refl, subst, arith}
use Rattle.std.specs.Prelude.{ℤ, pos, negsuc, ◌-ℤ◌, if◌then◌else◌, option_map, nat_lt}
use Rattle.std.specs.declared.result.Result.TheVariants.{Ok, Err}
use Rattle.std.proofs.lemmas.Int.{ints}
use lib.Signed.{mag}
use Rattle.byteorder.specs.Endian.{little_number, twos_complement}
use Rattle.byteorder.specs.Numbers.{little_from-lt}
use Rattle.wire_buf.specs.Encoding.{AreBytes}
use Rattle.wire_buf.specs.Numbers.{little_signed}
use Rattle.wire_fields.specs.Sevens.{sevens_split}
use Rattle.rows_errors.specs.Readings.{Reading, ◌>>=◌}
use Rattle.rows_errors.specs.declared.fault.RowsError.{RowsError}

pub record Gives {A : Type 0} (Holds : A → Type 0) (o : Reading A) : Type 0 where
  pub each : (x : A) → o ≡ Ok x → Holds x

pub given : {A : Type 0} (Holds : A → Type 0) (x : A) → Holds x → Gives Holds (Ok x)
given Holds x h = record { each = λ y e. let same : x ≡ y = cc in subst Holds same h }

pub fails : {A : Type 0} (Holds : A → Type 0) (e : RowsError) → Gives Holds (Err e)
fails Holds e = record { each = λ y f. absurd cc }

pub either : {A : Type 0} (Holds : A → Type 0) (b : Bool) (x y : Reading A) → Gives Holds x → Gives Holds y → Gives Holds (if b then x else y)
either Holds true x y h k = h
either Holds false x y h k = k

pub next : {A B : Type 0} (Holds : A → Type 0) (Then : B → Type 0) (o : Reading A) (f : A → Reading B) → Gives Holds o → ((x : A) → Holds x → Gives Then (f x)) → Gives Then (o >>= f)
next Holds Then (Ok x) f h k = k x (h.each x refl)
next Holds Then (Err e) f h k = fails Then e

-- ---- numbers of bytes
pub little_below : (n : ℕ) (b : List ℕ) → AreBytes b → little_number n b < 256 ^ n
little_below n b h = little_from-lt 0 n b h

mag_difference : (x y : ℕ) (z : ℤ) → z ≡ pos x -ℤ pos y → mag z ≤ x + y
mag_difference x y (pos n) e = omega (arith, ints, e)
mag_difference x y (negsuc n) e = omega (arith, ints, e)

pub mag_signed : (n x : ℕ) → mag (twos_complement n x) ≤ x + 2 ^ (8 * n)
mag_signed n x = go (nat_lt x (2 ^ (8 * n - 1)))
  where
    go : (b : Bool) → mag (if b then pos x else pos x -ℤ pos (2 ^ (8 * n))) ≤ x + 2 ^ (8 * n)
    go true = omega arith
    go false = mag_difference x (2 ^ (8 * n)) (pos x -ℤ pos (2 ^ (8 * n))) refl

pub signed_below : (n : ℕ) (b : List ℕ) → AreBytes b → mag (little_signed n b) < 256 ^ n + (2 ^ (8 * n) + 1)
signed_below n b h = omega (arith, little_below n b h, mag_signed n (little_number n b))

-- ---- bytes after a length
abbrev pub RestAreBytes : Option (ℕ × List ℕ) → Type 0
RestAreBytes None = Unit {0}
RestAreBytes (Some p) = AreBytes p.1

rest_mapped : (f : ℕ → ℕ) (o : Option (ℕ × List ℕ)) → RestAreBytes o → RestAreBytes (option_map (λ (p : ℕ × List ℕ). (f p.0, p.1)) o)
rest_mapped f None h = tt
rest_mapped f (Some p) h = h

pub sevens_rest : (k : ℕ) (x : List ℕ) → AreBytes x → RestAreBytes (sevens_split k x)
unfolding sevens_split
sevens_rest zero x h = tt
sevens_rest (suc k) [] h = tt
sevens_rest (suc k) (b ∷ x) h = go (nat_lt b 128) (rest_mapped (λ n. (b - 128) + 128 * n) (sevens_split k x) (sevens_rest k x (λ i. h (suc i))))
  where
    go : (t : Bool) → RestAreBytes (option_map (λ (p : ℕ × List ℕ). ((b - 128) + 128 * p.0, p.1)) (sevens_split k x))
        → RestAreBytes (if t then Some (b, x) else option_map (λ (p : ℕ × List ℕ). ((b - 128) + 128 * p.0, p.1)) (sevens_split k x))
    go true more = λ i. h (suc i)
    go false more = more

pub sevens_after : (k : ℕ) (x : List ℕ) (p : ℕ × List ℕ) → AreBytes x → sevens_split k x ≡ Some p → AreBytes p.1
sevens_after k x p h e = subst RestAreBytes e (sevens_rest k x h)
