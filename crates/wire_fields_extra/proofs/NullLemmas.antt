-- Null-terminated byte strings.
use Rattle.std.proofs.Common.{◌≡◌, ◌≢◌, ◌<◌, ◌++◌, ℕ, List, [], ◌∷◌, length, take, drop, ◌+◌, ◌-◌, slice_index, get_or, zero, suc, drop-cons, arith, refl, sym, ap, ◌∙◌, inl, inr, Some}
use Rattle.std.specs.Bool.{⊤}
use Rattle.std.proofs.lemmas.List.{take-append-drop, length-take-le, append_assoc}
use Rattle.std.proofs.Math.ListN.{get_or-append}
use Rattle.std.proofs.Math.Seq.{get_or-append_seam}
use Rattle.std.proofs.lemmas.List.Sums.{take_while-cons}
use Rattle.std.proofs.lemmas.Bool.{cases_order}
use Rattle.std.proofs.lemmas.Bool.Decides.{Decides-eqb, eqb_tells}
use Rattle.memchr.specs.Find.{NoneBefore, Passes, is_byte}
use Rattle.wire_buf.specs.Encoding.{Reads, Alone}
use Rattle.wire_buf.specs.Writing.{WritesField}
use Rattle.wire_buf.proofs.EncodingLemmas.{split_prefix}
use Rattle.wire_fields.specs.ByteStrings.{IsNullTerminated, before_zero}

-- the bytes before the first zero
pub null_reads : (x : List ℕ) (k : ℕ) (v m r : List ℕ) → NoneBefore (Passes (is_byte 0) x) 0 (length x) k × Passes (is_byte 0) x k
    → v ≡ take k x → m ≡ drop k x → r ≡ drop 1 m → Reads (Alone IsNullTerminated) v x r
null_reads x k v m r first is middle rest =
    let inside : k < length x = first.0.high in
    let zero_at : slice_index x k ≡ 0 = (Decides-eqb (slice_index x k) 0).0 first.1 in
    let cut : drop k x ≡ 0 ∷ drop (suc k) x = drop-cons x k 0 inside ∙ ap (λ n. n ∷ drop (suc k) x) zero_at in
    let after : r ≡ drop (suc k) x = rest ∙ ap (drop 1) (middle ∙ cut) in
    let size : length v ≡ k = ap length is ∙ length-take-le k x (omega (arith, inside)) in
    let whole : x ≡ v ++ (0 ∷ r) = rw (is, after) (sym (take-append-drop k x) ∙ ap (λ l. take k x ++ l) cut) in
    record {
      begins = record {
        bytes = v ++ (0 ∷ []);
        joined = whole ∙ sym (append_assoc v (0 ∷ []) r);
        is = record {
          joined = refl;
          no_zero = λ j below zero.
              let same : get_or x j 0 ≡ get_or v j 0 = ap (λ l. get_or l j 0) whole ∙ get_or-append v (0 ∷ r) 0 j below in
              first.0.before j (omega arith) (omega (arith, size)) ((Decides-eqb (slice_index x j) 0).1 (same ∙ zero));
        };
      };
      only = λ w s t.
          let joined : x ≡ w ++ (0 ∷ s) = t.joined ∙ ap (λ l. l ++ s) t.is.joined ∙ append_assoc w (0 ∷ []) s in
          let end : get_or x (length w) 0 ≡ 0 = ap (λ l. get_or l (length w) 0) joined ∙ get_or-append_seam w 0 s 0 in
          let long : length w ≡ k = elim (cases_order (length w) k) [
            | inl e ↦ e
            | inr far ↦ elim far [
              | inl early ↦ absurd (first.0.before (length w) (omega arith) early ((Decides-eqb (slice_index x (length w)) 0).1 end))
              | inr late ↦ absurd (t.is.no_zero k late (sym (ap (λ l. get_or l k 0) joined ∙ get_or-append w (0 ∷ s) 0 k late) ∙ zero_at))
            ]
          ] in
          let p = split_prefix k x w (0 ∷ s) long joined in
          let tails : 0 ∷ s ≡ 0 ∷ drop (suc k) x = sym p.1 ∙ cut in
          let tail : s ≡ drop (suc k) x = cc in
          ((tail ∙ sym after), (is ∙ p.0));
    }

abbrev Clear : List ℕ → Type 0
Clear l = (k : ℕ) → k < length l → slice_index l k ≢ 0

clear_more : (b : ℕ) (l : List ℕ) → b ≢ 0 → Clear l → Clear (b ∷ l)
clear_more b l first rest zero h = first
clear_more b l first rest (suc k) h = rest k (omega (arith, h))

-- none of them is zero
before_zero-clear : (x : List ℕ) → Clear (before_zero x)
before_zero-clear [] = λ k h. absurd (omega (arith, h))
before_zero-clear (b ∷ x) = elim (eqb_tells b 0) [
  | inl t ↦ rw take_while-cons (rw t.0 (λ k h. absurd (omega (arith, h))))
  | inr f ↦ rw take_while-cons (rw f.0 (clear_more b (before_zero x) f.1 (before_zero-clear x)))
]

pub null_writes : (text b old mid new : List ℕ) → b ≡ before_zero text → mid ≡ old ++ b → new ≡ mid ++ (0 ∷ [])
    → WritesField (λ v. Some (v ++ (0 ∷ []))) (Alone IsNullTerminated) (λ rest. ⊤) (before_zero text) old new
null_writes text b old mid new e first last = record {
  bytes = before_zero text ++ (0 ∷ []);
  is = refl;
  appended = last ∙ ap (λ (l : List ℕ). l ++ (0 ∷ [])) (first ∙ ap (λ (l : List ℕ). old ++ l) e) ∙ append_assoc old (before_zero text) (0 ∷ []);
  encodes = λ rest s. record { joined = refl; no_zero = before_zero-clear text };
  least = λ other rest h are. let size = ap length h.joined in omega (arith, size);
}
