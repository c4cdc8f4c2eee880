-- Events that are given as they are by their types alone.
use Rattle.std.proofs.Common.{◌≡◌, ℕ, ◌≤◌, ◌-◌, Bool, true, false, not, List, [], ◌∷◌, length, suc, zero, refl, ap, ◌∙◌, arith}
use Rattle.std.specs.Prelude.{◌==◌, ◌&&◌, nat_le, take, if◌then◌else◌}
use Rattle.events_frames.specs.HeaderFields.{header_field}
use Rattle.events_replaced.specs.XaRoles.{is_indifferent, is_part, role_by}
use Rattle.events_replaced.specs.XaStates.{XaState, is_open}
use Rattle.events_replaced.specs.XaSteps.{before_sum, passed, passes, role_in}
use Rattle.events_replaced.specs.XaTransactionStates.{state_of}
use Rattle.events_replaced.specs.declared.xa_role.XaRole.{XaRole}
use Rattle.events_replaced.specs.declared.xa_role.XaRole.TheVariants as roles
use Rattle.events_replaced.specs.declared.xa_transactions.XaTransactions.{XaTransactions}

-- the type is before the checksum
same_type : (k : ℕ) (e : List ℕ) → 5 ≤ k → 5 ≤ length e → header_field 4 1 (take k e) ≡ header_field 4 1 e
same_type k [] h l = absurd (omega (arith, l))
same_type k (a ∷ []) h l = absurd (omega (arith, l))
same_type k (a ∷ b ∷ []) h l = absurd (omega (arith, l))
same_type k (a ∷ b ∷ c ∷ []) h l = absurd (omega (arith, l))
same_type k (a ∷ b ∷ c ∷ d ∷ []) h l = absurd (omega (arith, l))
same_type zero (a ∷ b ∷ c ∷ d ∷ x ∷ rest) h l = absurd (omega (arith, h))
same_type (suc zero) (a ∷ b ∷ c ∷ d ∷ x ∷ rest) h l = absurd (omega (arith, h))
same_type (suc (suc zero)) (a ∷ b ∷ c ∷ d ∷ x ∷ rest) h l = absurd (omega (arith, h))
same_type (suc (suc (suc zero))) (a ∷ b ∷ c ∷ d ∷ x ∷ rest) h l = absurd (omega (arith, h))
same_type (suc (suc (suc (suc zero)))) (a ∷ b ∷ c ∷ d ∷ x ∷ rest) h l = absurd (omega (arith, h))
same_type (suc (suc (suc (suc (suc k))))) (a ∷ b ∷ c ∷ d ∷ x ∷ rest) h l = refl

pub type_before_sum : (has_checksum : Bool) (e : List ℕ) → 19 ≤ length e → header_field 4 1 (before_sum has_checksum e) ≡ header_field 4 1 e
type_before_sum false e l = refl
type_before_sum true e l = by (nat_le 23 (length e)) refl
  where
    by : (b : Bool) → nat_le 23 (length e) ≡ b → header_field 4 1 (if b then take (length e - 4) e else e) ≡ header_field 4 1 e
    by true h = same_type (length e - 4) e (omega (arith, l)) (omega (arith, l))
    by false h = refl

-- by the number of its type it is a part of the open transaction, or none
by_number : (n : ℕ) (e : List ℕ) → (n == 2) ≡ false → (n == 38) ≡ false → (n == 15) ≡ false → role_by n e ≡ (if is_part n then roles.Part else roles.None)
by_number n e h k j = rw (h, k, j) refl

pub parts : (s : XaState) (event : List ℕ) → is_open s ≡ false → (b : Bool) (role : XaRole) → role ≡ (if b then roles.Part else roles.None) → (passes s role ≡ true) × (passed s role event ≡ s)
parts s event closed b role is = rw is (either b s.has_failed refl)
  where
    either : (b failed : Bool) → s.has_failed ≡ failed → (passes s (if b then roles.Part else roles.None) ≡ true) × (passed s (if b then roles.Part else roles.None) event ≡ s)
    either b true h = rw h (refl, refl)
    either true false h = rw (h, closed) (refl, refl)
    either false false h = rw h (refl, refl)

three : (a b c : Bool) → (not a && not b && not c) ≡ true → (a ≡ false) × (b ≡ false) × (c ≡ false)
three true b c h = absurd cc
three false true c h = absurd cc
three false false true h = absurd cc
three false false false h = (refl, refl, refl)

pub passes_at_once : (s : XaState) (event : List ℕ) → 19 ≤ length event → is_open s ≡ false → is_indifferent event ≡ true → (passes s (role_in s event) ≡ true) × (passed s (role_in s event) event ≡ s)
passes_at_once s event long closed h =
    let n : ℕ = header_field 4 1 event in
    let t = three (n == 2) (n == 38) (n == 15) h in
    parts s event closed (is_part n) (role_in s event)
    (ap (λ (m : ℕ). role_by m (before_sum s.has_checksum event)) (type_before_sum s.has_checksum event long) ∙ by_number n (before_sum s.has_checksum event) t.0 t.1 t.2)

pub closed_by : (t : XaTransactions) → t.is_open ≡ false → is_open (state_of t) ≡ false
closed_by t h = rw h refl
