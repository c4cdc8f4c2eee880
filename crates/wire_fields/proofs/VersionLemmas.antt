-- Digits at the start of a text.
use Rattle.std.proofs.Common.{◌≡◌, ◌≤◌, ◌<◌, ◌+◌, ◌*◌, ◌-◌, ◌++◌, ◌&&◌, inl, inr, ℕ, zero, suc, List, [], ◌∷◌, length, take, drop, get_or, min, arith, refl, sym, ap, subst, ◌∙◌, Bool, true, false, Option, Some, None}
use Rattle.std.specs.Prelude.{take_while, option_and_then}
use Rattle.std.specs.Char.{is_ascii_digit}
use Rattle.std.specs.List.{list_all}
use Rattle.std.proofs.lemmas.Bool.{cases_Bool}
use Rattle.std.proofs.lemmas.Bool.Decides.{leb_tells, eqb_tells}
use Rattle.std.proofs.Math.Seq.{drop-append_seam}
use mathlib.Core.Bool.{true≢false}
use Rattle.std.proofs.lemmas.List.Sums.{take_while-cons, fold_push}
use Rattle.wire_fields.specs.Version.{version_digits_number, leading_digits, number_at, after_point, numbers_at, IsVersionNumber, IsVersion, VersionsAreTheirNumbers}

-- the elements before the first that fails, by its index
pub take_while-at : (p : ℕ → Bool) (x : List ℕ) (k : ℕ) → k ≤ length x → ((j : ℕ) → j < k → p (get_or x j 0) ≡ true) → (k < length x → p (get_or x k 0) ≡ false) → take_while p x ≡ take k x
take_while-at p [] k room before at = let e : k ≡ 0 = omega (arith, room) in rw e refl
take_while-at p (b ∷ x) zero room before at = let e : p b ≡ false = at (omega arith) in rw take_while-cons (rw e refl)
take_while-at p (b ∷ x) (suc k) room before at =
    let e : p b ≡ true = before 0 (omega arith) in
    let tail = take_while-at p x k (omega (arith, room)) (λ j h. before (suc j) (omega (arith, h))) (λ h. at (omega (arith, h))) in
    rw take_while-cons (rw e (ap (λ l. b ∷ l) tail))

-- one more digit
pub decimal_push : (ds : List ℕ) (d : ℕ) → version_digits_number (ds ++ (d ∷ [])) ≡ 10 * version_digits_number ds + (d - 48)
decimal_push ds d = fold_push (λ n e. 10 * n + (e - 48)) 0 ds d

pub capped_more : (v d : ℕ) (ds : List ℕ) → v ≡ min (version_digits_number ds) 256 → min (10 * v + (d - 48)) 256 ≡ min (version_digits_number (ds ++ (d ∷ []))) 256
capped_more v d ds e = rw (decimal_push ds d) (omega (arith, e))

-- the elements before the first that fails, and the others, are the list
lead_split : (p : ℕ → Bool) (x : List ℕ) → x ≡ take_while p x ++ drop (length (take_while p x)) x
lead_split p [] = refl
lead_split p (b ∷ x) = elim (cases_Bool (p b)) [
  | inl on ↦ rw (take_while-cons, on) (ap (λ l. b ∷ l) (lead_split p x))
  | inr off ↦ rw (take_while-cons, off) refl
]

lead_all : (p : ℕ → Bool) (x : List ℕ) → list_all p (take_while p x) ≡ true
lead_all p [] = refl
lead_all p (b ∷ x) = elim (cases_Bool (p b)) [
  | inl on ↦ rw (take_while-cons, on, on) (lead_all p x)
  | inr off ↦ rw (take_while-cons, off) refl
]

-- after them, the next element fails
lead_stop : (p : ℕ → Bool) (x : List ℕ) → take_while p (drop (length (take_while p x)) x) ≡ []
lead_stop p [] = refl
lead_stop p (b ∷ x) = elim (cases_Bool (p b)) [
  | inl on ↦ rw (take_while-cons, on) (lead_stop p x)
  | inr off ↦ rw (take_while-cons, off) (rw (take_while-cons, off) refl)
]

lead_append : (p : ℕ → Bool) (ds r : List ℕ) → list_all p ds ≡ true → take_while p r ≡ [] → take_while p (ds ++ r) ≡ ds
lead_append p [] r all none = none
lead_append p (d ∷ ds) r all none = elim (cases_Bool (p d)) [
  | inl on ↦ rw (take_while-cons, on) (ap (λ l. d ∷ l) (lead_append p ds r (subst (λ b. (b && list_all p ds) ≡ true) on all) none))
  | inr off ↦ absurd (true≢false (sym all ∙ ap (λ b. b && list_all p ds) off))
]

same_pair : {A B : Type 0} (p q : A × B) → Some p ≡ Some q → (p.0 ≡ q.0) × (p.1 ≡ q.1)
same_pair p q h = let e : p ≡ q = cc h in (ap (λ r. r.0) e, ap (λ r. r.1) e)

same_three : (p q : ℕ × ℕ × ℕ) → Some p ≡ Some q → (p.0 ≡ q.0) × (p.1 ≡ q.1) × (p.2 ≡ q.2)
same_three p q h = let all : p ≡ q = cc h in (ap (λ r. r.0) all, ap (λ r. r.1) all, ap (λ r. r.2) all)

-- a number at the start is that of the digits there
number_at-sound : (n : ℕ) (x r : List ℕ) → number_at x ≡ Some (n, r) → IsVersionNumber n (leading_digits x) × (x ≡ leading_digits x ++ r) × (leading_digits r ≡ [])
unfolding number_at
number_at-sound n x r = elim (leb_tells 1 (length (leading_digits x))) [
  | inl some ↦ rw some.0 (elim (leb_tells (suc (version_digits_number (leading_digits x))) 256) [
    | inl few ↦ rw few.0 (λ h.
        let parts = same_pair (version_digits_number (leading_digits x), drop (length (leading_digits x)) x) (n, r) h in
        let value = parts.0 in
        let rest = parts.1 in (
          record { all_digits = lead_all is_ascii_digit x; some = some.1; value_is = value; fits = subst (λ k. k < 256) value few.1 },
          subst (λ l. x ≡ leading_digits x ++ l) rest (lead_split is_ascii_digit x),
          subst (λ l. leading_digits l ≡ []) rest (lead_stop is_ascii_digit x),
        ))
    | inr many ↦ rw many.0 (λ h. absurd (cc h))
  ])
  | inr none ↦ rw none.0 (λ h. absurd (cc h))
]

number_at-complete : (n : ℕ) (ds r : List ℕ) → IsVersionNumber n ds → leading_digits r ≡ [] → number_at (ds ++ r) ≡ Some (n, r)
unfolding number_at
number_at-complete n ds r is stop =
    let few : version_digits_number ds < 256 = subst (λ k. k < 256) (sym is.value_is) is.fits in
    rw (lead_append is_ascii_digit ds r is.all_digits stop)
    (elim (leb_tells 1 (length ds)) [
      | inl some ↦ rw some.0 (elim (leb_tells (suc (version_digits_number ds)) 256) [
        | inl t ↦ rw (t.0, is.value_is, drop-append_seam ds r) refl
        | inr t ↦ absurd (omega (arith, t.1, few))
      ])
      | inr t ↦ let some = is.some in absurd (omega (arith, t.1, some))
    ])

after_point-sound : (x r : List ℕ) → after_point x ≡ Some r → x ≡ 46 ∷ r
unfolding after_point
after_point-sound [] r = λ h. absurd (cc h)
after_point-sound (c ∷ x) r = elim (eqb_tells c 46) [
  | inl e ↦ rw e.0 (λ h. let rest : x ≡ r = cc h in ap (λ k. k ∷ x) e.1 ∙ ap (λ l. 46 ∷ l) rest)
  | inr e ↦ rw e.0 (λ h. absurd (cc h))
]

and_then_some : {T U : Type 0} (f : T → Option U) (o : Option T) (u : U) → option_and_then f o ≡ Some u → (t : T) × (o ≡ Some t) × (f t ≡ Some u)
and_then_some f None u h = absurd (cc h)
and_then_some f (Some t) u h = (t, refl, h)

numbers_at-sound : (major minor patch : ℕ) (text : List ℕ) → numbers_at text ≡ Some (major, minor, patch) → IsVersion major minor patch text
unfolding numbers_at
numbers_at-sound major minor patch text h =
    let a = and_then_some _ (number_at text) _ h in
    let b = and_then_some _ (after_point a.0.1) _ a.2 in
    let c = and_then_some _ (number_at b.0) _ b.2 in
    let d = and_then_some _ (after_point c.0.1) _ c.2 in
    let e = and_then_some _ (number_at d.0) _ d.2 in
    let p = number_at-sound a.0.0 text a.0.1 a.1 in
    let q = number_at-sound c.0.0 b.0 c.0.1 c.1 in
    let s = number_at-sound e.0.0 d.0 e.0.1 e.1 in
    let values = same_three (a.0.0, c.0.0, e.0.0) (major, minor, patch) e.2 in
    record {
      first = leading_digits text;
      second = leading_digits b.0;
      third = leading_digits d.0;
      rest = e.0.1;
      joined = p.1 ∙ ap (λ l. leading_digits text ++ l) (after_point-sound a.0.1 b.0 b.1 ∙ ap (λ l. 46 ∷ l)
          (q.1 ∙ ap (λ l. leading_digits b.0 ++ l) (after_point-sound c.0.1 d.0 d.1 ∙ ap (λ l. 46 ∷ l) s.1)));
      first_is = subst (λ k. IsVersionNumber k (leading_digits text)) values.0 p.0;
      second_is = subst (λ k. IsVersionNumber k (leading_digits b.0)) values.1 q.0;
      third_is = subst (λ k. IsVersionNumber k (leading_digits d.0)) values.2 s.0;
      ends = s.2;
    }

numbers_at-complete : (major minor patch : ℕ) (text : List ℕ) → IsVersion major minor patch text → numbers_at text ≡ Some (major, minor, patch)
unfolding numbers_at after_point
numbers_at-complete major minor patch text v =
    rw (v.joined, number_at-complete major v.first _ v.first_is refl, number_at-complete minor v.second _ v.second_is refl, number_at-complete patch v.third v.rest v.third_is v.ends) refl

pub version_numbers : VersionsAreTheirNumbers
version_numbers major minor patch text = (numbers_at-sound major minor patch text, numbers_at-complete major minor patch text)
