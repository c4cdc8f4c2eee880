-- A decimal at the start of bytes, after its precision and its scale.
use Rattle.std.proofs.Common.{◌≡◌, ◌≤◌, ◌<◌, ◌-◌, Bool, true, false, ℕ, suc, List, length, take, drop, Some, None, Result, IfOk, IfErr, ◌⊎◌, inl, inr, arith, refl, sym, ap, subst, ◌∙◌}
use Rattle.std.specs.Prelude.{nat_lt, slice_index}
use Rattle.std.proofs.lemmas.Bool.Decides.{leb_tells}
use Rattle.std.proofs.lemmas.List.{length-take}
use Rattle.std.proofs.lemmas.Result.{IfOk-weaker, IfErr-weaker}
use Rattle.rows_errors.specs.declared.fault.RowsError.{RowsError}
use Rattle.rows_errors.specs.declared.fault.RowsError.TheVariants.{EndOfBody, Decimal as BadDecimal, Memory}
use Rattle.rows_values.specs.declared.fields.Decimal.{Decimal}
use Rattle.rows_values.specs.Decimals.{packed_size, decimal_parts}
use Rattle.rows_values.specs.Unpacked.{unpacked, normalized_of, packed_value, packed_fault}
use Rattle.rows_values.proofs.UnpackedLemmas.{unpacked_past, unpacked_other}

less : (m n : ℕ) → m < n → nat_lt m n ≡ true
less m n h = elim (leb_tells (suc m) n) [ inl t ↦ t.0 | inr t ↦ absurd (omega (arith, t.1, h)) ]

not_less : (m n : ℕ) → n ≤ m → nat_lt m n ≡ false
not_less m n h = elim (leb_tells (suc m) n) [ inl t ↦ absurd (omega (arith, t.1, h)) | inr t ↦ t.0 ]

pub prefix_short : (bytes : List ℕ) → length bytes < 2 → (EndOfBody ≡ packed_fault bytes) × (packed_value bytes ≡ None)
unfolding packed_fault packed_value
prefix_short bytes h = rw (less (length bytes) 2 h) (refl, refl)

value_long : (bytes : List ℕ) → 2 ≤ length bytes
    → packed_value bytes ≡ unpacked (slice_index bytes 0) (slice_index bytes 1) (take (packed_size (slice_index bytes 0 - slice_index bytes 1) (slice_index bytes 1)) (drop 2 bytes))
unfolding packed_value
value_long bytes h = rw (not_less (length bytes) 2 h) refl

pub prefix_past : (bytes : List ℕ) (p s : ℕ) → 2 ≤ length bytes → p ≡ slice_index bytes 0 → s ≡ slice_index bytes 1 → p < s → (BadDecimal ≡ packed_fault bytes) × (packed_value bytes ≡ None)
unfolding packed_fault
prefix_past bytes p s some a b past =
    let over : slice_index bytes 0 < slice_index bytes 1 = omega (arith, a, b, past) in
    (rw (not_less (length bytes) 2 some, less (slice_index bytes 0) (slice_index bytes 1) over) refl, value_long bytes some ∙ unpacked_past (slice_index bytes 0) (slice_index bytes 1) _ over)

pub prefix_cut : (bytes : List ℕ) (p s size : ℕ) → 2 ≤ length bytes → p ≡ slice_index bytes 0 → s ≡ slice_index bytes 1 → s ≤ p → size ≡ packed_size (p - s) s → length (drop 2 bytes) < size
    → (EndOfBody ≡ packed_fault bytes) × (packed_value bytes ≡ None)
unfolding packed_fault
prefix_cut bytes p s size some a b le is cut =
    let x = slice_index bytes 0 in
    let y = slice_index bytes 1 in
    let under : y ≤ x = omega (arith, a, b, le) in
    let all : size ≡ packed_size (x - y) y = is ∙ ap (λ k. packed_size (k - s) s) a ∙ ap (λ k. packed_size (x - k) k) b in
    let short : length (drop 2 bytes) < packed_size (x - y) y = subst (λ k. length (drop 2 bytes) < k) all cut in (
      rw (not_less (length bytes) 2 some, not_less x y under, less (length (drop 2 bytes)) (packed_size (x - y) y) short) refl,
      value_long bytes some ∙ unpacked_other x y (take (packed_size (x - y) y) (drop 2 bytes)) (λ e. omega (arith, e, short, length-take (packed_size (x - y) y) (drop 2 bytes))),
    )

prefix_fault : (bytes : List ℕ) (p s size : ℕ) → 2 ≤ length bytes → p ≡ slice_index bytes 0 → s ≡ slice_index bytes 1 → s ≤ p → size ≡ packed_size (p - s) s → size ≤ length (drop 2 bytes) → BadDecimal ≡ packed_fault bytes
unfolding packed_fault
prefix_fault bytes p s size some a b le is room =
    let x = slice_index bytes 0 in
    let y = slice_index bytes 1 in
    let under : y ≤ x = omega (arith, a, b, le) in
    let all : size ≡ packed_size (x - y) y = is ∙ ap (λ k. packed_size (k - s) s) a ∙ ap (λ k. packed_size (x - k) k) b in
    let long : packed_size (x - y) y ≤ length (drop 2 bytes) = subst (λ k. k ≤ length (drop 2 bytes)) all room in
    rw (not_less (length bytes) 2 some, not_less x y under, not_less (length (drop 2 bytes)) (packed_size (x - y) y) long) refl

prefix_is : (bytes part : List ℕ) (p s size : ℕ) → 2 ≤ length bytes → p ≡ slice_index bytes 0 → s ≡ slice_index bytes 1 → size ≡ packed_size (p - s) s → part ≡ take size (drop 2 bytes) → packed_value bytes ≡ unpacked p s part
prefix_is bytes part p s size some a b is e =
    value_long bytes some ∙ ap (λ k. unpacked k (slice_index bytes 1) (take (packed_size (k - slice_index bytes 1) (slice_index bytes 1)) (drop 2 bytes))) (sym a)
    ∙ ap (λ k. unpacked p k (take (packed_size (p - k) k) (drop 2 bytes))) (sym b) ∙ ap (λ k. unpacked p s (take k (drop 2 bytes))) (sym is) ∙ ap (unpacked p s) (sym e)

pub prefix_ok : (keep : Bool) (bytes part : List ℕ) (p s size : ℕ) (r : Result Decimal RowsError) → 2 ≤ length bytes → p ≡ slice_index bytes 0 → s ≡ slice_index bytes 1 → size ≡ packed_size (p - s) s → part ≡ take size (drop 2 bytes)
    → IfOk r (λ d. normalized_of keep (unpacked p s part) ≡ Some (decimal_parts d)) → IfOk r (λ d. normalized_of keep (packed_value bytes) ≡ Some (decimal_parts d))
prefix_ok keep bytes part p s size r some a b is e h =
    IfOk-weaker r (λ d. normalized_of keep (unpacked p s part) ≡ Some (decimal_parts d)) (λ d. normalized_of keep (packed_value bytes) ≡ Some (decimal_parts d)) (λ d q. ap (normalized_of keep) (prefix_is bytes part p s size some a b is e) ∙ q) h

pub prefix_err : (bytes part : List ℕ) (p s size : ℕ) (r : Result Decimal RowsError) → 2 ≤ length bytes → p ≡ slice_index bytes 0 → s ≡ slice_index bytes 1 → s ≤ p → size ≡ packed_size (p - s) s → size ≤ length (drop 2 bytes)
    → part ≡ take size (drop 2 bytes) → IfErr r (λ e. e ≡ Memory ⊎ ((e ≡ BadDecimal) × (unpacked p s part ≡ None))) → IfErr r (λ e. e ≡ Memory ⊎ ((e ≡ packed_fault bytes) × (packed_value bytes ≡ None)))
prefix_err bytes part p s size r some a b le is room e h =
    IfErr-weaker r (λ e. e ≡ Memory ⊎ ((e ≡ BadDecimal) × (unpacked p s part ≡ None))) (λ e. e ≡ Memory ⊎ ((e ≡ packed_fault bytes) × (packed_value bytes ≡ None)))
    (λ f why. elim why [ inl m ↦ inl m | inr q ↦ inr (q.0 ∙ prefix_fault bytes p s size some a b le is room, prefix_is bytes part p s size some a b is e ∙ q.1) ]) h
