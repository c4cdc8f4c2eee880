-- Two parts that a writer takes in sequence, and an error that is passed on.
use Rattle.std.proofs.Common.{◌≡◌, ◌++◌, ℕ, List, length, take, drop, append_assoc, sym, ap, subst, ◌∙◌, Option, Result, IsErr, IsErrAnd, IfErr}
use Rattle.std.proofs.lemmas.List.{take-append-drop}
use Rattle.std.proofs.lemmas.Result.{err_from_is_err_and}
use Rattle.std.proofs.Math.Seq.{take-append_seam}
use Rattle.wire_buf.specs.declared.fault.WireFault.{WireFault}
use Rattle.wire_buf.specs.Transfers.{WritesPrefix}
use Rattle.std.proofs.KnownBytes.{Appends-trans}
use Rattle.std.specs.Io.KnownBytes.{Appends}

-- a `?` whose error is passed on
pub IfErr-same : {T : Type 0} (r : Result T WireFault) (e : WireFault) (P : WireFault → Type 0) → IsErr r × IsErrAnd r (λ y. y ≡ e) → P e → IfErr r P
IfErr-same r e P h p = let f = err_from_is_err_and r h.1 in rw f.1 (subst P (sym f.2) p)

-- a prefix of the first of two parts, and a prefix of the second after the first
pub some_first : (a b : List ℕ) (old new : Option (List ℕ)) → WritesPrefix a old new → WritesPrefix (a ++ b) old new
some_first a b old new w = record {
  count = length (take w.count a);
  appended = subst (Appends old new) (prefix a b w.count) w.appended;
}
  where
    prefix : (a b : List ℕ) (n : ℕ) → take n a ≡ take (length (take n a)) (a ++ b)
    prefix a b n = sym (ap (take (length (take n a))) (ap (λ l. l ++ b) (sym (take-append-drop n a)) ∙ append_assoc (take n a) (drop n a) b) ∙ take-append_seam (take n a) (drop n a ++ b))

pub some_second : (a b : List ℕ) (old mid new : Option (List ℕ)) → Appends old mid a → WritesPrefix b mid new → WritesPrefix (a ++ b) old new
some_second a b old mid new first w = record {
  count = length (a ++ take w.count b);
  appended = subst (Appends old new) (sym (ap (take (length (a ++ take w.count b))) whole ∙ take-append_seam (a ++ take w.count b) (drop w.count b))) (Appends-trans old mid new a (take w.count b) first w.appended);
}
  where
    whole : a ++ b ≡ (a ++ take w.count b) ++ drop w.count b
    whole = ap (λ l. a ++ l) (sym (take-append-drop w.count b)) ∙ sym (append_assoc a (take w.count b) (drop w.count b))
