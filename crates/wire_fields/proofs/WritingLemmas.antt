-- Writing integers and length-prefixed strings appends their shortest encodings.
use Rattle.std.proofs.Common.{◌≡◌, ◌≤◌, ◌<◌, ◌^◌, ◌++◌, inl, inr, ℕ, suc, List, [], ◌∷◌, length, ◌%◌, arith, refl, ap, subst, Some}
use Rattle.std.proofs.lemmas.List.{length-append, get_or_past}
use Rattle.std.proofs.lemmas.Bool.Decides.{leb_tells}
use Rattle.std.proofs.Math.ListN.{get_or-append}
use Rattle.byteorder.specs.Endian.{little_bytes}
use Rattle.wire_buf.specs.Encoding.{AreBytes, IsShortest}
use Rattle.wire_buf.specs.Numbers.{IsLenenc, IsLittle, IsCounted, IsLenencString, lenenc_encoded}
use Rattle.wire_buf.specs.Writing.{Writes}
use Rattle.wire_buf.proofs.LenencLemmas.{lenenc_least, little_bytes-sound}
use Rattle.wire_fields.specs.Strings.{lenenc_string_encoded, counted_bytes, counted_encoded}

pub lenenc_writes : (n : ℕ) (old new : List ℕ) → n < 2 ^ 64 → new ≡ old ++ lenenc_encoded n → Writes (λ v. Some (lenenc_encoded v)) IsLenenc n old new
lenenc_writes n old new fits e = record { bytes = lenenc_encoded n; is = refl; appended = e; least = lenenc_least n fits }

-- the first of two lists of bytes
AreBytes-prefix : (a b : List ℕ) → AreBytes (a ++ b) → AreBytes a
AreBytes-prefix a b h k = elim (leb_tells (length a) k) [
  | inl t ↦ rw (get_or_past a k 0 t.1) (omega arith)
  | inr t ↦ subst (λ (n : ℕ). n < 256) (get_or-append a b 0 k (omega (arith, t.1))) (h k)
]

-- a string's encoding is as short as that of its length
pub counted_least : (count : ℕ → List ℕ → Type 0) (s prefix : List ℕ) → IsShortest count (length s) prefix → IsShortest (IsCounted count) s (prefix ++ s)
counted_least count s prefix h = record {
  is = record { prefix = prefix; prefix_is = h.is; joined = refl };
  least = λ other t bytes.
      let whole = t.joined in
      let less = h.least t.prefix t.prefix_is (AreBytes-prefix t.prefix s (subst AreBytes t.joined bytes)) in
      omega (arith, ap length whole, length-append prefix s, length-append t.prefix s);
}

-- the length in n bytes
pub counted_count : (n k : ℕ) → k < 256 ^ n → IsShortest (IsLittle n) k (little_bytes n k)
counted_count n k fits = let is = little_bytes-sound n k fits in record {
  is = is;
  least = λ other h _. let size = is.size in let e = h.size in omega (arith, size, e);
}

pub lenenc_string_writes : (s old new : List ℕ) → length s < 2 ^ 64 → new ≡ old ++ lenenc_string_encoded s
    → Writes (λ v. Some (lenenc_string_encoded v)) IsLenencString s old new
lenenc_string_writes s old new fits appended = record {
  bytes = lenenc_string_encoded s;
  is = refl;
  appended = appended;
  least = counted_least IsLenenc s (lenenc_encoded (length s)) (lenenc_least (length s) fits);
}

pub counted_writes : (n : ℕ) (s t old new : List ℕ) → s ≡ t → length s < 256 ^ n → new ≡ old ++ counted_bytes n s
    → Writes (counted_encoded n) (IsCounted (IsLittle n)) t old new
counted_writes n s t old new same fits appended = subst (λ (x : List ℕ). Writes (counted_encoded n) (IsCounted (IsLittle n)) x old new) same (elim (leb_tells (suc (length s)) (256 ^ n)) [
  | inl u ↦ record {
    bytes = counted_bytes n s;
    is = rw u.0 refl;
    appended = appended;
    least = counted_least (IsLittle n) s (little_bytes n (length s)) (counted_count n (length s) fits);
  }
  | inr u ↦ absurd (omega (arith, u.1, fits))
])

-- a length in one byte
pub byte_counted : (k : ℕ) → k ≤ 255 → k ∷ [] ≡ little_bytes 1 k
byte_counted k small = let same : k ≡ k % 256 = omega (arith, small) in ap (λ n. n ∷ []) same
