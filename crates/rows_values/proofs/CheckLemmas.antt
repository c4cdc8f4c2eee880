-- Whether bytes hold digits: both lists, each group, a group after the others.
use Rattle.std.proofs.Common.{◌≡◌, ◌^◌, ◌*◌, ◌+◌, ℕ, suc, Bool, true, false, List, Option, Some, None, take, drop, refl, sym, ap, ◌∙◌, arith, [], ◌++◌, add-one, inl, inr}
use Rattle.std.specs.Option.{is_some}
use Rattle.rows_values.specs.Decimals.{DecimalParts}
use Rattle.rows_values.specs.Unpacked.{concat_digits, valued, optional_text, group_digits, nines_digits}
use Rattle.std.specs.Prelude.{nat_lt}
use Rattle.std.proofs.lemmas.Bool.Decides.{leb_tells}
use Rattle.rows_values.proofs.FlipBackLemmas.{num}
use Rattle.rows_values.proofs.WriteLemmas.{none_left, none_follows, joined_to, group_fits, group_past}

-- the digits of the groups so far
pub record AreNines (i : ℕ) (x : List ℕ) : Type 0 where
  pub digits : List ℕ
  pub are : nines_digits i x ≡ Some digits

pub no_nines : (x : List ℕ) → AreNines 0 x
unfolding nines_digits
no_nines x = record { digits = []; are = refl }

pub nines_more : (i : ℕ) (x ds : List ℕ) → AreNines i x → group_digits 9 (take 4 (drop (4 * i) x)) ≡ Some ds → AreNines (i + 1) x
unfolding nines_digits
nines_more i x ds h e = record { digits = h.digits ++ ds; are = ap (λ k. nines_digits k x) (add-one i) ∙ joined_to _ _ h.digits ds h.are e }

pub left_missing : (a b : Option (List ℕ)) → a ≡ None → false ≡ is_some (concat_digits a b)
left_missing a b e = ap is_some (sym (none_left a b e))

pub right_decides : (a b : Option (List ℕ)) (ds : List ℕ) → a ≡ Some ds → is_some b ≡ is_some (concat_digits a b)
right_decides a None ds e = ap is_some (sym (none_follows a None refl))
right_decides a (Some es) ds e = ap is_some (sym (joined_to a (Some es) ds es e refl))

-- a list that is there
pub there : (a : Option (List ℕ)) → true ≡ is_some a → (ds : List ℕ) × (a ≡ Some ds)
there None h = absurd cc
there (Some ds) h = (ds, refl)

pub missing : (a : Option (List ℕ)) → false ≡ is_some a → a ≡ None
missing None h = refl
missing (Some ds) h = absurd cc

-- both sides of the point
pub whole_missing : (o : Option DecimalParts) (n : Bool) (a b : Option (List ℕ)) → o ≡ valued n a b → a ≡ None → false ≡ is_some (optional_text o)
whole_missing o n a b is e = rw (is, e) refl

pub fraction_decides : (o : Option DecimalParts) (n : Bool) (a b : Option (List ℕ)) (ds : List ℕ) → o ≡ valued n a b → a ≡ Some ds → is_some b ≡ is_some (optional_text o)
fraction_decides o n a None ds is e = rw (is, e) refl
fraction_decides o n a (Some es) ds is e = rw (is, e) refl

-- all groups were there
pub all_nines : (i n : ℕ) (x : List ℕ) → AreNines i x → i ≡ n → true ≡ is_some (nines_digits n x)
all_nines i n x h e = ap is_some (sym h.are) ∙ ap (λ k. is_some (nines_digits k x)) e

-- one group is there exactly if its number is small enough
pub group_decides : (k n power : ℕ) (xs : List ℕ) → n ≡ num xs → power ≡ 10 ^ k → nat_lt n power ≡ is_some (group_digits k xs)
group_decides k n power xs is e = elim (leb_tells (suc n) power) [
  | inl t ↦ rw t.0 (ap is_some (sym (group_fits k n xs is (omega (arith, t.1, e)))))
  | inr t ↦ rw t.0 (ap is_some (sym (group_past k n xs is (omega (arith, t.1, e)))))
]
