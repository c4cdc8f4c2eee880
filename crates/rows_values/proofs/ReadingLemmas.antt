-- Decimals from a reader.
use Rattle.std.proofs.Common.{◌≡◌, inl, inr, ℕ, Bool, List, [], ◌∷◌, length, get_or, arith, refl, sym, subst, ap, ◌∙◌, Option, Some, None, Result, IsErr, IsErrAnd, IfOk, IfErr}
use Rattle.std.proofs.lemmas.Result.{err_from_is_err_and, IfOk-weaker, IfErr-weaker}
use Rattle.std.specs.Io.KnownBytes.{Consumes}
use Rattle.wire_buf.specs.declared.fault.WireFault.{WireFault}
use Rattle.wire_buf.specs.Transfers.{FallsShort}
use Rattle.rows_errors.specs.declared.fault.RowsError.{RowsError}
use Rattle.rows_errors.specs.ConvertedFaults.{rows_error}
use Rattle.rows_values.specs.declared.fields.Decimal.{Decimal}
use Rattle.rows_values.specs.Decimals.{decimal_parts, ReadsDecimal, ReadsPacked, FailsDecimal, FailsPacked, early, following}

-- a `?` whose error becomes this one
pub exit_same : {T E : Type 0} (r : Result T E) (e : E) (P : E → Type 0) → IsErr r × IsErrAnd r (λ y. y ≡ e) → P e → IfErr r P
exit_same r e P h p = let f = err_from_is_err_and r h.1 in rw f.1 (subst P (sym f.2) p)

pub consumes_none : (a : Option (List ℕ)) → Consumes a a []
consumes_none None = tt
consumes_none (Some xs) = refl

pub packed_cut : (fault : WireFault) (n : ℕ) (old new : Option (List ℕ)) → n ≡ 2 → FallsShort fault n old new → FailsPacked (rows_error fault) old new
packed_cut fault n old new two cut =
    let within = cut.within in
    early cut.taken cut.consumed (omega (arith, two, within)) (elim cut.cause [
      | inl q ↦ inl (ap rows_error q.0, q.1, omega (arith, two, q.2))
      | inr r ↦ inr (ap rows_error r)
    ])

pair_of : (xs : List ℕ) → length xs ≡ 2 → xs ≡ get_or xs 0 0 ∷ get_or xs 1 0 ∷ []
pair_of [] e = absurd (omega (arith, e))
pair_of (x ∷ []) e = absurd (omega (arith, e))
pair_of (x ∷ y ∷ []) e = refl
pair_of (x ∷ y ∷ z ∷ xs) e = absurd (omega (arith, e))

-- the two bytes that were taken
pub two_taken : (sizes : List ℕ) (p s : ℕ) (old middle : Option (List ℕ)) → length sizes ≡ 2 → p ≡ get_or sizes 0 0 → s ≡ get_or sizes 1 0 → Consumes old middle sizes → Consumes old middle (p ∷ s ∷ [])
two_taken sizes p s old middle two first second taken =
    subst (Consumes old middle) (pair_of sizes two ∙ ap (λ k. k ∷ get_or sizes 1 0 ∷ []) (sym first) ∙ ap (λ k. p ∷ k ∷ []) (sym second)) taken

pub packed_err : (precision scale p s : ℕ) (old middle new : Option (List ℕ)) (r : Result Decimal RowsError) → p ≡ precision → s ≡ scale → Consumes old middle (p ∷ s ∷ [])
    → IfErr r (λ e. FailsDecimal precision scale e middle new) → IfErr r (λ e. FailsPacked e old new)
packed_err precision scale p s old middle new r a b taken h =
    let two : Consumes old middle (precision ∷ scale ∷ []) = subst (Consumes old middle) (ap (λ k. k ∷ s ∷ []) a ∙ ap (λ k. precision ∷ k ∷ []) b) taken in
    IfErr-weaker r (λ e. FailsDecimal precision scale e middle new) (λ e. FailsPacked e old new) (λ e fails. following {middle = middle} precision scale two fails) h

pub packed_ok : (keep : Bool) (precision scale : ℕ) (old middle new : Option (List ℕ)) (r : Result Decimal RowsError) → Consumes old middle (precision ∷ scale ∷ [])
    → IfOk r (λ d. ReadsDecimal keep precision scale (decimal_parts d) middle new) → IfOk r (λ d. ReadsPacked keep (decimal_parts d) old new)
packed_ok keep precision scale old middle new r taken h =
    IfOk-weaker r (λ d. ReadsDecimal keep precision scale (decimal_parts d) middle new) (λ d. ReadsPacked keep (decimal_parts d) old new)
    (λ d reads. record { precision = precision; scale = scale; middle = middle; consumed = taken; reads = reads }) h
