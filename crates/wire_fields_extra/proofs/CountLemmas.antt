-- Counts of n bytes at the start of bytes, and the largest of them.
use Rattle.std.proofs.Common.{◌≡◌, ◌++◌, ◌<◌, ◌≤◌, ◌^◌, ℕ, suc, List, [], length, drop, ◌-◌, arith, refl, sym, ap, ◌∙◌, inl, inr, Some}
use Rattle.std.proofs.Math.Nat.{pow-le-pow_right, one-le-pow}
use Rattle.std.proofs.lemmas.Bool.Decides.{leb_tells}
use Rattle.std.proofs.lemmas.List.{append-nil}
use Rattle.wire_buf.specs.Encoding.{Reads, Alone}
use Rattle.wire_buf.proofs.EncodingLemmas.{Reads-fixed}
use Rattle.wire_fields_extra.specs.Counts.{IsCount, max_count_of}
use Rattle.wire_buf.specs.Writing.{WritesField}
use Rattle.std.specs.Bool.{⊤}

module _ (number : List ℕ → ℕ) (n : ℕ) where
  pub count_reads : (v : ℕ) (x y : List ℕ) → ((a b : List ℕ) → n ≤ length a → number (a ++ b) ≡ number a) → n ≤ length x → v ≡ number x → y ≡ drop n x → v < 2 ^ 64
      → Reads (Alone (IsCount number n)) v x y
  count_reads v x y local room is rest small =
      let p = Reads-fixed number n v x y local room is rest in
      record {
        begins = record { bytes = p.begins.bytes; joined = p.begins.joined; is = (p.begins.is, small) };
        only = λ w r t. p.only w r (record { bytes = t.bytes; joined = t.joined; is = t.is.0 });
      }

  pub count_writes : (encoding_is : ℕ → List ℕ) (count : ℕ) (old new : List ℕ) → length (encoding_is count) ≡ n → number (encoding_is count ++ []) ≡ count → count < 2 ^ 64
      → new ≡ old ++ encoding_is count → WritesField (λ k. Some (encoding_is k)) (Alone (IsCount number n)) (λ rest. ⊤) count old new
  count_writes encoding_is count old new size back small appended = record {
    bytes = encoding_is count;
    is = refl;
    appended = appended;
    encodes = λ rest _. (record { size = size; value_is = sym back ∙ ap number (append-nil (encoding_is count)) }, small);
    least = λ other rest h _. let e = h.0.size in omega (arith, size, e);
  }

-- a count up to the largest fits in its bytes, and in a length
pub greatest_fits : (n c : ℕ) → c ≤ max_count_of n → (c < 256 ^ n) × (c < 2 ^ 64)
greatest_fits n c h = elim (leb_tells (suc n) 8) [
  | inl t ↦
      let below = t.1 in
      let g : c ≤ 256 ^ n - 1 = rw t.0 at h in
      let some = one-le-pow n 256 (omega arith) in
      let top : 256 ^ n ≤ 256 ^ 8 = pow-le-pow_right {n = 256} (omega arith) {i = n} {j = 8} (omega arith) in
      (omega arith, omega arith)
  | inr t ↦
      let above = t.1 in
      let g : c ≤ 2 ^ 64 - 1 = rw t.0 at h in
      let top : 256 ^ 8 ≤ 256 ^ n = pow-le-pow_right {n = 256} (omega arith) {i = 8} {j = n} (omega arith) in
      (omega arith, omega arith)
]
