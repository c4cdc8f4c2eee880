-- The bytes before a zero, strings of fixed length, and strings after a length.
use Rattle.std.proofs.Common.{◌≡◌, ◌≢◌, ◌≤◌, ◌<◌, ◌++◌, ℕ, List, [], ◌∷◌, length, take, replicate, min, ◌+◌, ◌-◌, get_or, zero, suc, arith, refl, ap, ◌∙◌, ◌^◌, inl, inr, Some, None, Result, Bool, true, false, nat_lt, if◌then◌else◌, IsErr, IsErrAnd, IfErr}
use Rattle.std.specs.Bool.{⊤}
use Rattle.std.proofs.lemmas.List.{length-take, length-append, length-replicate, take_all, take_min, append_assoc}
use Rattle.std.proofs.lemmas.Result.{err_from_is_err_and}
use Rattle.std.proofs.lemmas.List.Sums.{take_while-cons}
use Rattle.std.proofs.lemmas.Bool.Decides.{eqb_tells}
use Rattle.wire_buf.specs.Encoding.{Reads, Lacks, Alone, IsBytes, IsShortest}
use Rattle.wire_buf.proofs.WritingLemmas.{bytes_written, all_written}
use Rattle.wire_buf.specs.Numbers.{IsCounted, IsLittle}
use Rattle.wire_buf.specs.Writing.{Writes, WritesField}
use Rattle.wire_buf.specs.declared.fault.WireFault.{WireFault}
use Rattle.wire_buf.specs.declared.fault.WireFault.TheVariants.{Eof}
use Rattle.wire_buf.proofs.StringLemmas.{Lacks-count, Lacks-counted}
use Rattle.wire_fields.specs.Strings.{counted_bytes, counted_encoded}
use Rattle.wire_fields.proofs.WritingLemmas.{counted_least}
use Rattle.wire_fields.specs.ByteStrings.{before_zero, padded_bytes, CountedFails}

-- the bytes before the first zero, by its index
pub before_zero-at : (x : List ℕ) (k : ℕ) → k ≤ length x → ((j : ℕ) → j < k → get_or x j 0 ≢ 0) → (k < length x → get_or x k 0 ≡ 0) → before_zero x ≡ take k x
before_zero-at [] k room before at = let e : k ≡ 0 = omega (arith, room) in rw e refl
before_zero-at (b ∷ x) zero room before at = let e : b ≡ 0 = at (omega arith) in rw e refl
before_zero-at (b ∷ x) (suc k) room before at = elim (eqb_tells b 0) [
  | inl t ↦ absurd (before 0 (omega arith) t.1)
  | inr f ↦
      let tail = before_zero-at x k (omega (arith, room)) (λ j h. before (suc j) (omega (arith, h))) (λ h. at (omega (arith, h))) in
      rw take_while-cons (rw f.0 (ap (λ l. b ∷ l) tail))
]

-- a string that is cut or padded with zeros is written
pub padded_writes : (n k start size : ℕ) (text old base mid new : List ℕ) → k ≡ min (length text) n → base ≡ old → mid ≡ base ++ take k text → size ≡ length mid → start ≡ length base
    → new ≡ take (start + n) mid ++ replicate ((start + n) - size) 0 → WritesField (λ (v : List ℕ). Some v) (Alone (IsBytes n)) (λ rest. ⊤) (padded_bytes n text) old new
padded_writes n k start size text old base mid new least same first room begin last =
    let cut : take k text ≡ take n text = ap (λ j. take j text) (omega (arith, least)) ∙ take_min n text in
    let prefix = first ∙ ap (λ l. base ++ l) cut in
    let few = length-take n text in
    let long = ap length prefix ∙ length-append base (take n text) in
    let zeros : (start + n) - size ≡ n - length text = omega (arith, room, begin, few, long) in
    let whole = take_all (start + n) mid (omega (arith, begin, few, long)) in
    let part = length-append (take n text) (replicate (n - length text) 0) in
    let more = length-replicate {A = ℕ} (n - length text) 0 in
    bytes_written n (padded_bytes n text) old new (omega (arith, part, few, more))
    (last ∙ ap (λ l. l ++ replicate ((start + n) - size) 0) (whole ∙ prefix ∙ ap (λ l. l ++ take n text) same) ∙ ap (λ j. (old ++ take n text) ++ replicate j 0) zeros
    ∙ append_assoc old (take n text) (replicate (n - length text) 0))

pub cut_writes : (n k : ℕ) (text old new : List ℕ) → k ≡ min (length text) n → new ≡ old ++ take k text → WritesField (λ (v : List ℕ). Some v) (λ v. Alone (IsBytes (length v)) v) (λ rest. ⊤) (take n text) old new
cut_writes n k text old new least last = all_written (take n text) old new (last ∙ ap (λ l. old ++ l) (ap (λ j. take j text) (omega (arith, least)) ∙ take_min n text))

-- a string after the shortest encoding of its length is written
pub string_writes : (counts : ℕ → List ℕ → Type 0) (encoded : List ℕ → List ℕ) (s t count old new : List ℕ) → s ≡ t → IsShortest counts (length s) count → encoded s ≡ count ++ s
    → new ≡ old ++ (count ++ s) → WritesField (λ v. Some (encoded v)) (Alone (IsCounted counts)) (λ rest. ⊤) t old new
string_writes counts encoded s t count old new same shortest encoding_is appended =
    let least = counted_least counts s count shortest in
    rw (← same) (record {
      bytes = count ++ s;
      is = ap Some encoding_is;
      appended = appended;
      encodes = λ rest h. least.is;
      least = λ other rest h are. least.least other h are;
    })

some_if : {A : Type 0} (b : Bool) (x y : A) → (if b then Some x else None) ≡ Some y → x ≡ y
some_if true x y e = cc e
some_if false x y e = absurd (cc e)

-- a string that fits its length prefix is written
pub counted_writes : (n : ℕ) (t old new : List ℕ) → Writes (counted_encoded n) (IsCounted (IsLittle n)) t old new
    → WritesField (λ v. Some (counted_bytes n v)) (Alone (IsCounted (IsLittle n))) (λ rest. ⊤) t old new
counted_writes n t old new w =
    let e = some_if (nat_lt (length t) (256 ^ n)) (counted_bytes n t) w.bytes w.is in
    record {
      bytes = w.bytes;
      is = ap Some e;
      appended = w.appended;
      encodes = λ rest h. w.least.is;
      least = λ other rest h are. w.least.least other h are;
    }

module _ (counts : ℕ → List ℕ → Type 0) (fault_at : List ℕ → WireFault) where
  -- the error of a length that isn't there
  pub count_failed : {T : Type 0} (x : List ℕ) (r : Result T WireFault) (e : WireFault) → IsErr r × IsErrAnd r (λ y. y ≡ e)
      → Lacks (Alone counts) x × (e ≡ fault_at x) → IfErr r (λ y. Lacks (Alone (IsCounted counts)) x × CountedFails counts fault_at x y)
  count_failed x r e h l =
      let p = err_from_is_err_and r h.1 in
      rw (p.1, p.2) (Lacks-count counts x l.0, inl l)

  -- the bytes begin with a length, and fewer bytes follow it
  pub count_short : (n : ℕ) (x m : List ℕ) → Reads (Alone counts) n x m → length m < n
      → Lacks (Alone (IsCounted counts)) x × CountedFails counts fault_at x Eof
  count_short n x m p short = (Lacks-counted counts n x m p short, inr (record { value = n; after = m; begins = p.begins }, refl))
