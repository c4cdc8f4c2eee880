-- What a filter's positions select where the positions of a log ascend.
use Rattle.std.proofs.Common.{◌≡◌, ℕ, suc, ◌+◌, ◌<◌, ◌≤◌, Bool, true, false, List, [], ◌∷◌, drop, map, Option, Some, None, inl, inr, ◌-◌, refl, sym, true≢false, ap, subst, ◌∙◌, arith}
use Rattle.std.specs.Prelude.{nat_lt, nat_le, ◌&&◌, cond, get_or}
use Rattle.std.specs.List.{filter}
use Rattle.std.proofs.lemmas.Bool.{cases_lt, cases_order}
use Rattle.std.proofs.lemmas.Bool.Decides.{nat_tests}
use Rattle.feed_transactions.specs.Changes.{EventChange, Committed}
use Rattle.feed_change_log.specs.Filters.{is_above, is_up_to, takes_change, takes_transaction}
use Rattle.feed_change_log.specs.declared.filter.Filter.{Filter}
use Rattle.changes_walks.specs.Selections.{Selected, up_to, has_start, between, selected_of, selected}
use Rattle.changes_walks.specs.AscendingPositions.{HasAscendingPositions, with_positions}
use Rattle.changes_walks.proofs.SelectionLemmas.{is_below, up_to_before, up_to_at, up_to_after, start_before, start_after, between_before, between_at}

-- ---- ascending positions

-- the first of these transactions ends after a position, and each other after the one before it
abbrev Follow : ℕ → List Committed → Type 0
Follow n [] = Unit {0}
Follow n (t ∷ ts) = (n < t.commit.log_pos) × Follow t.commit.log_pos ts

-- each transaction ends after the one before it
abbrev Ascend : List Committed → Type 0
Ascend [] = Unit {0}
Ascend (t ∷ ts) = Follow t.commit.log_pos ts

ascends_after : (n : ℕ) (ts : List Committed) → Follow n ts → Ascend ts
ascends_after n [] h = tt
ascends_after n (t ∷ ts) h = h.1

follows : (t : Committed) (ts : List Committed) → HasAscendingPositions (t ∷ ts) → Follow t.commit.log_pos ts
follows t [] h = tt
follows t (u ∷ ts) h =
    (h 0 (omega arith), follows u ts (λ k within. let e : suc k + 1 ≡ suc (k + 1) = omega arith in subst (λ (n : ℕ). get_or (map (λ t. t.commit.log_pos) (u ∷ ts)) k 0 < get_or (map (λ t. t.commit.log_pos) (t ∷ u ∷ ts)) n 0) e (h (suc k) (omega arith))))

ascends : (ts : List Committed) → HasAscendingPositions ts → Ascend ts
ascends [] h = tt
ascends (t ∷ ts) h = follows t ts h

-- ---- tests of positions

-- whether a filter with these positions takes a transaction
abbrev is_in : Option ℕ → Option ℕ → Committed → Bool
is_in start stop t = is_above start t.commit.log_pos && is_up_to stop t.commit.log_pos

isnt_up_to : (n p : ℕ) → p < n → nat_le n p ≡ false
isnt_up_to n p h = grind (arith, nat_tests)

is_at_most : (n p : ℕ) → n ≤ p → nat_le n p ≡ true
is_at_most n p h = grind (arith, nat_tests)

isnt_above : (n p : ℕ) → n ≤ p → nat_lt p n ≡ false
isnt_above n p h = grind (arith, nat_tests)

and_false : (b : Bool) → (b && false) ≡ false
and_false true = refl
and_false false = refl

true_false : (b : Bool) → b ≡ true → b ≡ false → ⊥
true_false b h k = true≢false (sym h ∙ k)

-- ---- what the positions take

none_in : (start : Option ℕ) (p n : ℕ) (ts : List Committed) → p ≤ n → Follow n ts → filter (is_in start (Some p)) ts ≡ []
none_in start p n [] h follow = refl
none_in start p n (t ∷ ts) h follow =
    let low : p < t.commit.log_pos = omega (arith, follow.0) in
    rw (isnt_up_to t.commit.log_pos p low, and_false (is_above start t.commit.log_pos)) (none_in start p t.commit.log_pos ts (omega arith) follow.1)

all_in : (ts : List Committed) → filter (is_in None None) ts ≡ ts
all_in [] = refl
all_in (t ∷ ts) = ap (λ (l : List Committed). t ∷ l) (all_in ts)

module _ (p : ℕ) (t : Committed) (ts : List Committed) where
  here_in : t.commit.log_pos ≤ p → filter (is_in None (Some p)) (t ∷ ts) ≡ t ∷ filter (is_in None (Some p)) ts
  here_in h = rw (is_at_most t.commit.log_pos p h) refl

  not_in : p < t.commit.log_pos → Follow t.commit.log_pos ts → filter (is_in None (Some p)) (t ∷ ts) ≡ []
  not_in h follow = none_in None p (t.commit.log_pos - 1) (t ∷ ts) (omega arith) (omega arith, follow)

up_to_in : (stop : Option ℕ) (ts : List Committed) → Ascend ts → up_to stop ts ≡ filter (is_in None stop) ts
unfolding up_to
up_to_in None ts h = sym (all_in ts)
up_to_in (Some p) [] h = refl
up_to_in (Some p) (t ∷ ts) h =
    elim (cases_order t.commit.log_pos p) [
      | inl e ↦ up_to_at p t ts e ∙ ap (λ (l : List Committed). t ∷ l) (sym (none_in None p t.commit.log_pos ts (omega arith) h)) ∙ sym (here_in p t ts (omega arith))
      | inr (inl before) ↦ up_to_before p t ts before ∙ ap (λ (l : List Committed). t ∷ l) (up_to_in (Some p) ts (ascends_after t.commit.log_pos ts h)) ∙ sym (here_in p t ts (omega arith))
      | inr (inr after) ↦ up_to_after p t ts after ∙ sym (not_in p t ts after h)
    ]

-- after the start position each transaction is above it
past_in : (p n : ℕ) (stop : Option ℕ) (ts : List Committed) → p ≤ n → Follow n ts → filter (is_in (Some p) stop) ts ≡ filter (is_in None stop) ts
past_in p n stop [] h follow = refl
past_in p n stop (t ∷ ts) h follow =
    let low : p < t.commit.log_pos = omega (arith, follow.0) in
    rw (is_below p t.commit.log_pos low) (ap (λ (l : List Committed). cond (is_up_to stop t.commit.log_pos) (t ∷ l) l) (past_in p t.commit.log_pos stop ts (omega arith) follow.1))

drop_in : (stop : Option ℕ) (t : Committed) (ts : List Committed) → Follow t.commit.log_pos ts → drop 1 (filter (is_in None stop) (t ∷ ts)) ≡ filter (is_in None stop) ts
drop_in None t ts follow = refl
drop_in (Some q) t ts follow =
    elim (cases_lt q t.commit.log_pos) [
      | inl low ↦ ap (drop 1) (not_in q t ts low follow) ∙ sym (none_in None q t.commit.log_pos ts (omega arith) follow)
      | inr high ↦ ap (drop 1) (here_in q t ts high)
    ]

starts_nowhere : (p : ℕ) → has_start (Some p) [] ≡ false
unfolding has_start
starts_nowhere p = refl

between_in : (p : ℕ) (stop : Option ℕ) (ts : List Committed) → Ascend ts → has_start (Some p) ts ≡ true → between (Some p) stop ts ≡ filter (is_in (Some p) stop) ts
between_in p stop [] h starts = absurd (true_false (has_start (Some p) []) starts (starts_nowhere p))
between_in p stop (t ∷ ts) h starts =
    elim (cases_order t.commit.log_pos p) [
      | inl e ↦ between_at p t ts stop e ∙ ap (drop 1) (up_to_in stop (t ∷ ts) h) ∙ drop_in stop t ts h ∙ sym (past_in p t.commit.log_pos stop ts (omega arith) h) ∙ sym (dropped (omega arith))
      | inr (inl before) ↦ between_before p t ts stop before ∙ between_in p stop ts (ascends_after t.commit.log_pos ts h) (sym (start_before p t ts before) ∙ starts) ∙ sym (dropped (omega arith))
      | inr (inr after) ↦ absurd (true_false (has_start (Some p) (t ∷ ts)) starts (start_after p t ts after))
    ]
  where
    dropped : t.commit.log_pos ≤ p → filter (is_in (Some p) stop) (t ∷ ts) ≡ filter (is_in (Some p) stop) ts
    dropped low = rw (isnt_above t.commit.log_pos p low) refl

range_in : (start stop : Option ℕ) (ts : List Committed) → Ascend ts → has_start start ts ≡ true → between start stop ts ≡ filter (is_in start stop) ts
unfolding between
range_in None stop ts h starts = up_to_in stop ts h
range_in (Some p) stop ts h starts = between_in p stop ts h starts

-- ---- what a filter selects

filter_both : {X : Type 0} (p q both : X → Bool) → ((x : X) → both x ≡ (p x && q x)) → (xs : List X) → filter both xs ≡ filter q (filter p xs)
filter_both p q both e [] = refl
filter_both {X = X} p q both e (x ∷ xs) = rw (e x) (one (filter_both p q both e xs) (p x))
  where
    one : filter both xs ≡ filter q (filter p xs) → (b : Bool) → cond (b && q x) (x ∷ filter both xs) (filter both xs) ≡ filter q (cond b (x ∷ filter p xs) (filter p xs))
    one rest true = ap (λ (l : List X). cond (q x) (x ∷ l) l) rest
    one rest false = rest

filter_alike : {X : Type 0} (p q : X → Bool) → ((x : X) → p x ≡ q x) → (xs : List X) → filter p xs ≡ filter q xs
filter_alike p q e [] = refl
filter_alike {X = X} p q e (x ∷ xs) = rw (e x) (ap (λ (l : List X). cond (q x) (x ∷ l) l) (filter_alike p q e xs))

map_alike : {X Y : Type 0} (f g : X → Y) → ((x : X) → f x ≡ g x) → (xs : List X) → map f xs ≡ map g xs
map_alike f g e [] = refl
map_alike {Y = Y} f g e (x ∷ xs) = rw (e x) (ap (λ (l : List Y). g x ∷ l) (map_alike f g e xs))

module _ (f : Filter) (start stop : Option ℕ) where
  takes_alike : (c : EventChange) → takes_change (with_positions f start stop) c ≡ takes_change f c
  takes_alike c = refl

  selects_alike : (t : Committed) → selected_of (with_positions f start stop) t ≡ selected_of f t
  selects_alike t = ap (λ (cs : List EventChange). selected_with t cs) (filter_alike (takes_change (with_positions f start stop)) (takes_change f) takes_alike t.changes)
    where
      selected_with : Committed → List EventChange → Selected
      selected_with t cs = record { transaction = t; changes = cs }

  pub selects_the_same : (ts : List Committed) → f.after ≡ None → f.up_to ≡ None → HasAscendingPositions ts → has_start start ts ≡ true → selected (with_positions f start stop) ts ≡ selected f (between start stop ts)
  unfolding selected
  selects_the_same ts none_after none_up_to rises starts =
      map_alike (selected_of (with_positions f start stop)) (selected_of f) selects_alike (filter (takes_transaction (with_positions f start stop)) ts)
      ∙ ap (map (selected_of f)) (filter_both (is_in start stop) (takes_transaction f) (takes_transaction (with_positions f start stop)) (λ t. rw (none_after, none_up_to) refl) ts
      ∙ ap (filter (takes_transaction f)) (sym (range_in start stop ts (ascends ts rises) starts)))
