-- A VarLen as a computable function.
use Rattle.std.proofs.Common.{◌≡◌, ◌≤◌, ◌<◌, ◌^◌, inl, inr, ℕ, suc, List, ◌+◌, ◌-◌, ◌++◌, length, length-append, take, drop, sym, arith, refl, ap, ◌∙◌, Option, Some, None}
use Rattle.std.proofs.Math.Seq.{drop-append-add}
use Rattle.std.proofs.lemmas.Bool.Decides.{leb_tells}
use Rattle.std.specs.declared.result.Result.TheVariants.{Ok, Err}
use Rattle.wire_buf.specs.Encoding.{Reads, Lacks, Alone}
use Rattle.wire_fields.specs.Sevens.{IsVarLen, sevens_split}
use Rattle.wire_fields.proofs.SevenLemmas.{sevens_split-complete, sevens_split-sound}
use Rattle.rows_jsonb.specs.JsonbViews.{IsConsumed}
use Rattle.rows_jsonb.specs.JsonbValues.{counted_string, counted_at, counted_size, string_size, malformed}

pub varlen_read : (v : ℕ) (x r : List ℕ) → Reads (Alone IsVarLen) v x r → (sevens_split 5 x ≡ Some (v, r)) × (v < 2 ^ 32)
varlen_read v x r h =
    (ap (sevens_split 5) h.begins.joined ∙ sevens_split-complete 5 v h.begins.bytes r h.begins.is.sevens, h.begins.is.fits)

none_counted : (x : List ℕ) → Lacks (Alone IsVarLen) x → (o : Option (ℕ × List ℕ)) → sevens_split 5 x ≡ o → counted_string o ≡ Err malformed
none_counted x h None e = refl
none_counted x h (Some (v, r)) e = elim (leb_tells (suc v) (2 ^ 32)) [
  | inl t ↦ let b = sevens_split-sound 5 v x r e in absurd (h v r (record { bytes = b.bytes; joined = b.joined; is = record { sevens = b.is; fits = t.1 } }))
  | inr t ↦ rw t.0 refl
]

pub varlen_lacking : (x : List ℕ) → Lacks (Alone IsVarLen) x → counted_at x ≡ Err malformed
varlen_lacking x h = none_counted x h (sevens_split 5 x) refl

pub counted_whole : (x r : List ℕ) (v : ℕ) → Reads (Alone IsVarLen) v x r → v ≤ length r → counted_at x ≡ Ok (take v r)
counted_whole x r v h room =
    let e = varlen_read v x r h in
    ap counted_string e.0 ∙ (elim (leb_tells (suc v) (2 ^ 32)) [
      | inl t ↦ (elim (leb_tells v (length r)) [ inl u ↦ rw (t.0, u.0) refl | inr u ↦ absurd (omega (arith, u.1)) ])
      | inr t ↦ absurd (omega (arith, t.1, e.1))
    ])

pub counted_short : (x r : List ℕ) (v : ℕ) → Reads (Alone IsVarLen) v x r → length r < v → counted_at x ≡ Err malformed
counted_short x r v h room =
    let e = varlen_read v x r h in
    ap counted_string e.0 ∙ (elim (leb_tells (suc v) (2 ^ 32)) [
      | inl t ↦ (elim (leb_tells v (length r)) [ inl u ↦ absurd (omega (arith, u.1)) | inr u ↦ rw (t.0, u.0) refl ])
      | inr t ↦ absurd (omega (arith, t.1, e.1))
    ])

drop_after : (b r : List ℕ) (n : ℕ) → drop (length (b ++ r) - length r + n) (b ++ r) ≡ drop n r
drop_after b r n =
    let e : length (b ++ r) - length r + n ≡ length b + n = omega (arith, length-append b r) in
    rw e (drop-append-add b r n)

-- the string and its length are consumed
pub counted_eaten : (x r after : List ℕ) (v : ℕ) → Reads (Alone IsVarLen) v x r → v ≤ length r → after ≡ drop v r → IsConsumed (counted_size x) x after
counted_eaten x r after v h room e =
    let split_diff = varlen_read v x r h in
    let bytes = h.begins.bytes in
    let whole = h.begins.joined in
    let size : counted_size x ≡ length x - length r + v = ap (string_size x) split_diff.0 in
    record {
      room = rw size (omega (arith, simp length-append at (ap length whole)));
      rest = rw (e, size, whole) (sym (drop_after bytes r v));
    }
