-- The integer that eight bytes begin with.
use Rattle.std.proofs.Common.{◌≡◌, inr, ℕ, zero, suc, ◌-◌, ◌*◌, ◌/◌, ◌%◌, ◌^◌, ◌<◌, ◌≤◌, Bool, true, false, cond, ℤ, pos, negsuc, ◌-ℤ◌, List, Option, Some, None, length, take, drop, get_or, refl, sym, subst, ap, ◌∙◌, arith, to_z, w64, Ok, Err}
use Rattle.std.specs.Prelude.{nat_lt, if◌then◌else◌}
use Rattle.std.specs.Int.Signed.{shr_z}
use Rattle.std.proofs.lemmas.Bool.{ltb-true, ltb-false, le-leb}
use Rattle.std.proofs.lemmas.Int.{to_z_pos}
use Rattle.std.proofs.Math.Facts.{to_z-neg}
use Rattle.std.proofs.lemmas.List.{take-append-drop, length-take-le}
use Rattle.byteorder.specs.Endian.{little_number, twos_complement}
use Rattle.byteorder.specs.Numbers.{little_from-append}
use Rattle.rows_cells.specs.declared.format.Width.{Width}
use Rattle.rows_cells.specs.declared.format.Width.TheVariants.{One, Two, Three, Four, Eight}
use Rattle.rows_cells.specs.declared.format.CellFormat.{CellFormat}
use Rattle.rows_cells.specs.declared.format.CellFormat.TheVariants.{Signed, Unsigned, Float, Double, Year, NewDate, OldTime, OldDatetime, Timestamp2, Datetime2, Time2, Decimal, Plain, Counted, Json, JsonDiffs, NoMetadata, NoCells}
use Rattle.rows_cells.specs.CellFields.{at_width}
use Rattle.rows_cells.specs.CellSizes.{width_bytes, cell_size}
use Rattle.rows_cells.specs.CellValues.{CellValue, int, uint, json, json_diffs, content_value, decimal_value, unless}
use Rattle.rows_cells.specs.Cells.{cell_at, content_at}
use Rattle.rows_errors.specs.declared.fault.RowsError.{RowsError}
use Rattle.rows_errors.specs.Readings.{Reading, ◌>>=◌}
use Rattle.rows_jsonb.specs.Items.{items_at}
use Rattle.rows_jsonb.specs.JsonDiffs.{diff_at}
use Rattle.rows_jsonb.specs.JsonbValues.{document}
use Rattle.rows_values.specs.Unpacked.{packed_text}
use Rattle.changes_cells.specs.FieldJson.{IsInteger, IsIntegerAt, LacksInteger}

-- the number in the highest bits of a word
pub highest : (w : Width) (b : List ℕ) → ((i : ℕ) → get_or b i 0 < 256) → little_number 8 b * 2 ^ (64 - 8 * width_bytes w) % 2 ^ 64 ≡ little_number (width_bytes w) b * 2 ^ (64 - 8 * width_bytes w)
highest One b h = omega (arith, h 0)
highest Two b h = omega (arith, h 0, h 1)
highest Three b h = omega (arith, h 0, h 1, h 2)
highest Four b h = omega (arith, h 0, h 1, h 2, h 3)
highest Eight b h = omega (arith, h 0, h 1, h 2, h 3, h 4, h 5, h 6, h 7)

-- it has no more bits than its width
pub number_below : (w : Width) (b : List ℕ) → ((i : ℕ) → get_or b i 0 < 256) → little_number (width_bytes w) b < 2 ^ (8 * width_bytes w)
number_below One b h = omega (arith, h 0)
number_below Two b h = omega (arith, h 0, h 1)
number_below Three b h = omega (arith, h 0, h 1, h 2)
number_below Four b h = omega (arith, h 0, h 1, h 2, h 3)
number_below Eight b h = omega (arith, h 0, h 1, h 2, h 3, h 4, h 5, h 6, h 7)

-- a negative number by its size
below_zero : (m full : ℕ) → m < full → negsuc (full - suc m) ≡ pos m -ℤ pos full
below_zero m zero h = absurd (omega (arith, h))
below_zero m (suc f) h = either (nat_lt m (suc f)) refl
  where
    either : (b : Bool) → nat_lt m (suc f) ≡ b → negsuc (suc f - suc m) ≡ cond b (negsuc (suc f - suc m)) (pos (m - suc f))
    either true e = refl
    either false e = absurd (omega (arith, h, ltb-false m (suc f) e))

-- a word n with a number m of `full` values in its highest bits, shifted down with its sign
sign_kept : (n m q half full : ℕ) → n < 2 ^ 64 → m < full → (m < half → n < 2 ^ 63) → (half ≤ m → 2 ^ 63 ≤ n) → n / q ≡ m → (half ≤ m → (2 ^ 64 - suc n) / q ≡ full - suc m)
    → shr_z (to_z w64 n) q ≡ (if nat_lt m half then pos m else pos m -ℤ pos full)
sign_kept n m q half full fits small low high is other = either (nat_lt m half) refl
  where
    either : (b : Bool) → nat_lt m half ≡ b → shr_z (to_z w64 n) q ≡ (if b then pos m else pos m -ℤ pos full)
    either true e = ap (λ z. shr_z z q) (to_z_pos w64 n (low (ltb-true m half e))) ∙ ap pos is
    either false e =
        let l : half ≤ m = ltb-false m half e in
        let j = 2 ^ 64 - suc n in
        let back : n ≡ 2 ^ 64 - suc j = omega (arith, fits) in
        ap (λ k. shr_z (to_z w64 k) q) back ∙ ap (λ z. shr_z z q) (to_z-neg w64 j (omega (arith, high l, fits))) ∙ ap negsuc (other l) ∙ below_zero m full small

pub signed_bits : (w : Width) (m : ℕ) → m < 2 ^ (8 * width_bytes w) → shr_z (to_z w64 (m * 2 ^ (64 - 8 * width_bytes w))) (2 ^ (64 - 8 * width_bytes w)) ≡ twos_complement (width_bytes w) m
signed_bits One m h = sign_kept (m * 2 ^ 56) m (2 ^ 56) (2 ^ 7) (2 ^ 8) (omega (arith, h)) h (λ l. omega (arith, l)) (λ l. omega (arith, l)) (omega arith) (λ l. omega (arith, l, h))
signed_bits Two m h = sign_kept (m * 2 ^ 48) m (2 ^ 48) (2 ^ 15) (2 ^ 16) (omega (arith, h)) h (λ l. omega (arith, l)) (λ l. omega (arith, l)) (omega arith) (λ l. omega (arith, l, h))
signed_bits Three m h = sign_kept (m * 2 ^ 40) m (2 ^ 40) (2 ^ 23) (2 ^ 24) (omega (arith, h)) h (λ l. omega (arith, l)) (λ l. omega (arith, l)) (omega arith) (λ l. omega (arith, l, h))
signed_bits Four m h = sign_kept (m * 2 ^ 32) m (2 ^ 32) (2 ^ 31) (2 ^ 32) (omega (arith, h)) h (λ l. omega (arith, l)) (λ l. omega (arith, l)) (omega arith) (λ l. omega (arith, l, h))
signed_bits Eight m h = sign_kept (m * 2 ^ 0) m (2 ^ 0) (2 ^ 63) (2 ^ 64) (omega (arith, h)) h (λ l. omega (arith, l)) (λ l. omega (arith, l)) (omega arith) (λ l. omega (arith, l, h))

-- the bytes of the cell alone
number_of_content : (n : ℕ) (b : List ℕ) → n ≤ length b → little_number n (take n b) ≡ little_number n b
number_of_content n b h = sym (little_from-append n (take n b) (drop n b) (omega (arith, length-take-le n b h))) ∙ ap (little_number n) (take-append-drop n b)

content_is : (n : ℕ) (b : List ℕ) → n ≤ length b → at_width n b ≡ Ok (take n b, drop n b)
content_is n b h = rw (le-leb n (length b) h) refl

pub signed_cell : (f : CellFormat) (w : Width) (b rest : List ℕ) (z : ℤ) → f ≡ Signed w → width_bytes w ≤ length b → z ≡ twos_complement (width_bytes w) (little_number (width_bytes w) b) → rest ≡ drop (width_bytes w) b → IsIntegerAt f b z rest
unfolding cell_at
signed_cell f w b rest z form h is after = record {
  value = int z;
  read = rw (form, content_is (width_bytes w) b h, number_of_content (width_bytes w) b h, ← is, ← after) refl;
  is = refl;
}

abbrev unsigned_by : (w : Width) (n : ℕ) → CellValue
unsigned_by Eight n = uint n
unsigned_by w n = int (pos n)

content_value_is : (w : Width) (content : List ℕ) → content_value (Unsigned w) content ≡ Ok (unsigned_by w (little_number (width_bytes w) content))
content_value_is One content = refl
content_value_is Two content = refl
content_value_is Three content = refl
content_value_is Four content = refl
content_value_is Eight content = refl

is_integer : (w : Width) (n : ℕ) → IsInteger (pos n) (unsigned_by w n)
is_integer One n = refl
is_integer Two n = refl
is_integer Three n = refl
is_integer Four n = refl
is_integer Eight n = refl

unsigned_read : (f : CellFormat) (w : Width) (b : List ℕ) → f ≡ Unsigned w → width_bytes w ≤ length b → cell_at f b ≡ Ok (unsigned_by w (little_number (width_bytes w) b), drop (width_bytes w) b)
unfolding cell_at
unsigned_read f w b form h = rw (form, content_is (width_bytes w) b h, content_value_is w (take (width_bytes w) b), number_of_content (width_bytes w) b h) refl

pub unsigned_cell : (f : CellFormat) (w : Width) (b rest : List ℕ) (n : ℕ) (z : ℤ) → f ≡ Unsigned w → width_bytes w ≤ length b → n ≡ little_number (width_bytes w) b → z ≡ pos n → rest ≡ drop (width_bytes w) b → IsIntegerAt f b z rest
unsigned_cell f w b rest n z form h is number after = record {
  value = unsigned_by w n;
  read = unsigned_read f w b form h ∙ rw (← is, ← after) refl;
  is = rw number (is_integer w n);
}

-- the cell is this integer
abbrev GivesInteger : ℤ → Reading (CellValue × List ℕ) → Type 0
GivesInteger z (Ok cell) = IsInteger z cell.0
GivesInteger z (Err e) = ⊥

integer_given : (f : CellFormat) (b rest : List ℕ) (z : ℤ) → IsIntegerAt f b z rest → GivesInteger z (cell_at f b)
integer_given f b rest z h = subst (GivesInteger z) (sym h.read) h.is

is_number : (w : Width) (n : ℕ) (z : ℤ) → IsInteger z (unsigned_by w n) → z ≡ pos n
is_number One n z h = sym h
is_number Two n z h = sym h
is_number Three n z h = sym h
is_number Four n z h = sym h
is_number Eight n z h = sym h

at_least : (n m : ℕ) → (n < m → ⊥) → m ≤ n
at_least n m not = either (nat_lt n m) refl
  where
    either : (b : Bool) → nat_lt n m ≡ b → m ≤ n
    either true e = absurd (not (ltb-true n m e))
    either false e = ltb-false n m e

-- an unsigned integer of 2^63 or more
pub large_number : (f : CellFormat) (w : Width) (b : List ℕ) (n : ℕ) → f ≡ Unsigned w → width_bytes w ≤ length b → n ≡ little_number (width_bytes w) b → (n < 2 ^ 63 → ⊥) → LacksInteger f b
large_number f w b n form h is not = λ z rest given.
    let value : GivesInteger z (Ok (unsigned_by w (little_number (width_bytes w) b), drop (width_bytes w) b)) = subst (GivesInteger z) (unsigned_read f w b form h) (integer_given f b rest z given) in
    inr (n, is_number w (little_number (width_bytes w) b) z value ∙ ap pos (sym is), at_least n (2 ^ 63) not)

decimal_given : (z : ℤ) (after : List ℕ) (text : Option (List ℕ)) → GivesInteger z (decimal_value text >>= λ v. Ok (v, after)) → ⊥
decimal_given z after None h = h
decimal_given z after (Some text) h = h

document_given : {A : Type 0} (z : ℤ) (content after : List ℕ) (read : Reading A) → GivesInteger z ((read >>= λ v. Ok (json content)) >>= λ v. Ok (v, after)) → ⊥
document_given z content after (Ok v) h = h
document_given z content after (Err e) h = h

diffs_given : (z : ℤ) (content after : List ℕ) (fault : Option RowsError) → GivesInteger z (unless fault (json_diffs content) >>= λ v. Ok (v, after)) → ⊥
diffs_given z content after None h = h
diffs_given z content after (Some e) h = h

value_given : (f : CellFormat) (z : ℤ) (content after : List ℕ) → ((w : Width) → f ≡ Signed w → ⊥) → ((w : Width) → f ≡ Unsigned w → ⊥) → GivesInteger z (content_value f content >>= λ v. Ok (v, after)) → ⊥
value_given (Signed w) z content after s u h = s w refl
value_given (Unsigned w) z content after s u h = u w refl
value_given Float z content after s u h = h
value_given Double z content after s u h = h
value_given Year z content after s u h = h
value_given NewDate z content after s u h = h
value_given OldTime z content after s u h = h
value_given OldDatetime z content after s u h = h
value_given (Timestamp2 d) z content after s u h = h
value_given (Datetime2 d) z content after s u h = h
value_given (Time2 d) z content after s u h = h
value_given (Decimal p d) z content after s u h = decimal_given z after (packed_text p d content) h
value_given (Plain n) z content after s u h = h
value_given (Counted w) z content after s u h = h
value_given Json z content after s u h = document_given z content after (document content) h
value_given JsonDiffs z content after s u h = diffs_given z content after (items_at diff_at content).fault h
value_given NoMetadata z content after s u h = h
value_given NoCells z content after s u h = h

content_given : (f : CellFormat) (z : ℤ) (content : Reading (List ℕ × List ℕ)) → ((w : Width) → f ≡ Signed w → ⊥) → ((w : Width) → f ≡ Unsigned w → ⊥) → GivesInteger z (content >>= λ c. content_value f c.0 >>= λ v. Ok (v, c.1)) → ⊥
content_given f z (Ok c) s u h = value_given f z c.0 c.1 s u h
content_given f z (Err e) s u h = h

-- a cell of another format
pub other_format : (f : CellFormat) (b : List ℕ) → ((w : Width) → f ≡ Signed w → ⊥) → ((w : Width) → f ≡ Unsigned w → ⊥) → LacksInteger f b
unfolding cell_at
other_format f b s u = λ z rest given. absurd (content_given f z (content_at (cell_size f) b) s u (integer_given f b rest z given))
