-- Bits, one at a time.
use Rattle.std.proofs.Common.{◌≡◌, ◌≤◌, ◌<◌, ℕ, suc, ◌+◌, ◌-◌, Bool, [], ◌∷◌, Option, Some, lt-ltb, refl, ◌∙◌, arith}
use Rattle.std.specs.Iterator.{YieldsFirst}
use Rattle.rows_table_map.specs.BitLists.{bit_of, len_of, bit_at}
use Rattle.rows_table_map.specs.declared.columns_iter.IterSignedness.{IterSignedness}
use Rattle.rows_table_map.specs.MetadataViews.{signs_left}
use Rattle.rows_table_map.specs.MetadataFields.{bits_from}

pub no_bits : (f : ℕ → Bool) (k n : ℕ) → n ≡ 0 → bits_from f k n ≡ []
unfolding bits_from
no_bits f k n h = rw h refl

one_bit : (f : ℕ → Bool) (k n m : ℕ) → n ≡ suc m → bits_from f k n ≡ f k ∷ bits_from f (k + 1) m
unfolding bits_from
one_bit f k n m h = rw h refl

pub bits-none : (f : ℕ → Bool) (k n : ℕ) → n ≤ k → bits_from f k (n - k) ≡ []
bits-none f k n h = no_bits f k (n - k) (omega (arith, h))

pub bits-next : (f : ℕ → Bool) (k n : ℕ) → k < n → bits_from f k (n - k) ≡ f k ∷ bits_from f (k + 1) (n - (k + 1))
bits-next f k n h = one_bit f k (n - k) (n - (k + 1)) (omega (arith, h))

pub sign_given : (it after : IterSignedness) (sign : Option Bool) → it.next < len_of it.bits → sign ≡ bit_at it.bits it.next → after ≡ record { bits = it.bits; next = it.next + 1 } → YieldsFirst signs_left it sign after
sign_given it after sign lt is h =
    let there : sign ≡ Some (bit_of it.bits it.next) = is ∙ rw (lt-ltb it.next (len_of it.bits) lt) refl in
    rw (there, h) (bits-next (bit_of it.bits) it.next (len_of it.bits) lt)
