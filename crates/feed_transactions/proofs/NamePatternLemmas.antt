-- A name that is matched with a pattern, and its ends.
use Rattle.std.proofs.Common.{◌≡◌, ◌⊎◌, inl, inr, ℕ, ◌+◌, Bool, true, false, List, [], ◌∷◌, drop, suc, zero, refl, ap, ◌∙◌, arith}
use Rattle.std.specs.Prelude.{◌==◌, ◌&&◌, ◌||◌}
use Rattle.std.proofs.lemmas.List.{drop-drop}
use Rattle.feed_transactions.specs.NamePatterns.{IsMatch, IsMatchOfEnds, begins, has_end, is_like}
use Rattle.feed_transactions.specs.declared.name_pattern.Match.{Match}
use Rattle.feed_transactions.specs.declared.name_pattern.Match.TheVariants as matches

and_false : (a b : Bool) → b ≡ false → (a && b) ≡ false
and_false true b h = h
and_false false b h = refl

or_true : (a b : Bool) → b ≡ true → (a || b) ≡ true
or_true true b h = refl
or_true false b h = h

-- the whole is an end
pub whole_is_end : (Has : List ℕ → Bool) (l : List ℕ) → Has l ≡ true → has_end Has l ≡ true
whole_is_end Has [] h = h
whole_is_end Has (x ∷ l) h = rw h refl

-- no end has a property that none of them has
no_end : (Has : List ℕ → Bool) (l : List ℕ) → ((k : ℕ) → Has (drop k l) ≡ false) → has_end Has l ≡ false
no_end Has [] h = h 0
no_end Has (x ∷ l) h = rw (h 0) (no_end Has l (λ k. h (suc k)))

-- after the whole name, which isn't like the pattern, its shorter ends
pub shorter_ends : (pattern after : List ℕ) (x : ℕ) (m : Match) → is_like pattern (x ∷ after) ≡ false → IsMatchOfEnds pattern after m → IsMatchOfEnds pattern (x ∷ after) m
shorter_ends pattern after x matches.Yes none h = or_true (is_like pattern (x ∷ after)) (has_end (is_like pattern) after) h
shorter_ends pattern after x matches.No none h = absurd h
shorter_ends pattern after x matches.NoEnd none h = ends
  where
    ends : (k : ℕ) → is_like pattern (drop k (x ∷ after)) ≡ false
    ends zero = none
    ends (suc k) = h k

-- `*`, and then a pattern
pub any_bytes : (pattern name : List ℕ) (m : Match) → IsMatchOfEnds pattern name m → IsMatch (42 ∷ pattern) name m
any_bytes pattern name matches.Yes h = h
any_bytes pattern name matches.No h = absurd h
any_bytes pattern name matches.NoEnd h = λ k. no_end (is_like pattern) (drop k name) (λ j. ap (is_like pattern) (drop-drop j k name) ∙ h (k + j))

-- another byte, and then a pattern
one_byte : (c : ℕ) (pattern name : List ℕ) → (c == 42) ≡ false → is_like (c ∷ pattern) name ≡ begins c (is_like pattern) name
one_byte c pattern name other = rw other refl

begins_none : (c : ℕ) (Has : List ℕ → Bool) (l : List ℕ) → Has (drop 1 l) ≡ false → begins c Has l ≡ false
begins_none c Has [] h = refl
begins_none c Has (x ∷ l) h = and_false (c == x) (Has l) h

pub same_byte : (c x : ℕ) (pattern after : List ℕ) (m : Match) → (c == 42) ≡ false → (c == x) ≡ true → IsMatch pattern after m → IsMatch (c ∷ pattern) (x ∷ after) m
same_byte c x pattern after matches.Yes other same h = one_byte c pattern (x ∷ after) other ∙ rw (same, h) refl
same_byte c x pattern after matches.No other same h = one_byte c pattern (x ∷ after) other ∙ begins_none c (is_like pattern) (x ∷ after) h
same_byte c x pattern after matches.NoEnd other same h = ends
  where
    ends : (k : ℕ) → is_like (c ∷ pattern) (drop k (x ∷ after)) ≡ false
    ends zero = one_byte c pattern (x ∷ after) other ∙ begins_none c (is_like pattern) (x ∷ after) (h 0)
    ends (suc k) = one_byte c pattern (drop k after) other ∙ begins_none c (is_like pattern) (drop k after) (ap (is_like pattern) (drop-drop 1 k after) ∙ h (k + 1))

-- a name that isn't like the pattern
pub not_like : (pattern name : List ℕ) (m : Match) → IsMatch pattern name m → (m ≡ matches.No) ⊎ (m ≡ matches.NoEnd) → is_like pattern name ≡ false
not_like pattern name matches.Yes h (inl e) = absurd (cc)
not_like pattern name matches.Yes h (inr e) = absurd (cc)
not_like pattern name matches.No h e = h
not_like pattern name matches.NoEnd h e = h 0
