-- Patterns of names, in which `*` (42) stands for any bytes, none included.
use Rattle.std.specs.Prelude.{◌≡◌, ◌==◌, ◌&&◌, ◌||◌, ℕ, Bool, true, false, List, [], ◌∷◌, drop, if◌then◌else◌}
use Rattle.feed_transactions.specs.declared.name_pattern.Match.{Match}
use Rattle.feed_transactions.specs.declared.name_pattern.Match.TheVariants as matches

-- whether a list begins with a number, and what follows has a property
abbrev pub begins : ℕ → (List ℕ → Bool) → List ℕ → Bool
begins c Has [] = false
begins c Has (x ∷ l) = (c == x) && Has l

-- whether an end of a list, which may be the whole, has a property
abbrev pub has_end : (List ℕ → Bool) → List ℕ → Bool
has_end Has [] = Has []
has_end Has (x ∷ l) = Has (x ∷ l) || has_end Has l

-- whether a list has nothing
abbrev pub is_empty : List ℕ → Bool
is_empty [] = true
is_empty (x ∷ l) = false

-- whether a name is like a pattern
abbrev pub is_like : List ℕ → List ℕ → Bool
is_like [] name = is_empty name
is_like (c ∷ pattern) name = if c == 42 then has_end (is_like pattern) name else begins c (is_like pattern) name

-- no end of a name is like a pattern
abbrev pub HasNoEndLike : List ℕ → List ℕ → Type 0
HasNoEndLike pattern name = (k : ℕ) → is_like pattern (drop k name) ≡ false

-- what is known of a name after it was matched with a pattern
abbrev pub IsMatch : List ℕ → List ℕ → Match → Type 0
IsMatch pattern name matches.Yes = is_like pattern name ≡ true
IsMatch pattern name matches.No = is_like pattern name ≡ false
IsMatch pattern name matches.NoEnd = HasNoEndLike pattern name

-- and after its ends were
abbrev pub IsMatchOfEnds : List ℕ → List ℕ → Match → Type 0
IsMatchOfEnds pattern name matches.Yes = has_end (is_like pattern) name ≡ true
IsMatchOfEnds pattern name matches.No = ⊥
IsMatchOfEnds pattern name matches.NoEnd = HasNoEndLike pattern name
