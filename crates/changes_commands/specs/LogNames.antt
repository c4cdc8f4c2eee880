-- The names of logs: MySQL's page "The Binary Log", where a server gives each log the base name, a point and the next number. A compressed log has the ending of its program after it.
use Rattle.std.specs.Prelude.{◌≡◌, ◌⊎◌, ◌<◌, ◌+◌, ◌^◌, ◌==◌, ℕ, Bool, true, false, List, [], ◌∷◌, ◌++◌, codes, nat_lt, Option, Some, None, option_map, SomeIff, unwrap_or, if◌then◌else◌}
use Rattle.std.specs.Borrow.{Bor}
use Rattle.std.specs.Path.{rsplit_once}
use Rattle.std.specs.Str.{bytes_eq}
use Rattle.std.specs.Str.Parse.{IsNumeral, digits_value, without_leading_plus}
use Rattle.changes_commands.specs.declared.logs.LogOrder.{LogOrder}
use Rattle.changes_commands.specs.declared.logs.LogOrder.TheVariants.{Before, Same, After, Unknown}

-- a text without an ending, if it has that
abbrev pub IsWithout : List ℕ → List ℕ → Option (List ℕ) → Type 0
IsWithout ending text None = (front : List ℕ) → text ≡ front ++ ending → ⊥
IsWithout ending text (Some front) = text ≡ front ++ ending

-- what a path is after its last slash
abbrev pub last_part : List ℕ → List ℕ
last_part path = elim (rsplit_once 47 path) [ None ↦ path | Some parts ↦ parts.1 ]

-- the name that a server gave a log: the last part of its path, without the ending of a compressed log
abbrev pub IsFileName : List ℕ → List ℕ → Type 0
IsFileName path name =
    IsWithout (codes ".gz") (last_part path) (Some name)
    ⊎ (IsWithout (codes ".gz") (last_part path) None × (IsWithout (codes ".zst") (last_part path) (Some name) ⊎ (IsWithout (codes ".zst") (last_part path) None × (name ≡ last_part path))))

-- what a name is before its last point, and after it; without one all is after it
abbrev pub name_parts : List ℕ → List ℕ × List ℕ
name_parts file = unwrap_or (rsplit_once 46 file) ([], file)

-- a number of 64 bits, in decimal
abbrev pub IsLogNumber : List ℕ → Option ℕ → Type 0
IsLogNumber text r = SomeIff r (IsNumeral 10 (without_leading_plus text) × (digits_value 10 (without_leading_plus text) < 2 ^ 64)) (digits_value 10 (without_leading_plus text))

-- the base name and the number of a log, if its name has one
pub record IsNumbered (path : List ℕ) (r : Option (List ℕ × ℕ)) : Type 0 where
  pub file : List ℕ
  pub file_is : IsFileName path file
  pub number : Option ℕ
  pub number_is : IsLogNumber (name_parts file).1 number
  pub is : r ≡ option_map (λ n. ((name_parts file).0, n)) number

-- the same as the program has it
abbrev pub name_view : Option (Bor (List ℕ) × ℕ) → Option (List ℕ × ℕ)
name_view r = option_map (λ p. (p.0.now, p.1)) r

-- whether a log may follow another: numbered logs of one base name are consecutive, up to 2^64 - 1
abbrev pub follows_by : Option (List ℕ × ℕ) → Option (List ℕ × ℕ) → Bool
follows_by (Some a) (Some b) = if bytes_eq a.0 b.0 then b.1 == a.1 + 1 else true
follows_by a b = true

pub record MayFollow (path before : List ℕ) (r : Bool) : Type 0 where
  pub a : Option (List ℕ × ℕ)
  pub a_is : IsNumbered before a
  pub b : Option (List ℕ × ℕ)
  pub b_is : IsNumbered path b
  pub is : r ≡ follows_by a b

-- how the numbers of two logs order them
abbrev pub order_by : Option (List ℕ × ℕ) → Option (List ℕ × ℕ) → LogOrder
order_by (Some a) (Some b) = if bytes_eq a.0 b.0 then (if a.1 == b.1 then Same else (if nat_lt a.1 b.1 then Before else After)) else Unknown
order_by a b = Unknown

-- how the names of two logs order them: equal names, or those with numbers
pub record IsOrder (path other : List ℕ) (r : LogOrder) : Type 0 where
  pub file : List ℕ
  pub file_is : IsFileName path file
  pub other_file : List ℕ
  pub other_is : IsFileName other other_file
  pub by_names : file ≡ other_file → r ≡ Same
  pub by_numbers : (file ≡ other_file → ⊥) → (a : Option (List ℕ × ℕ)) × (b : Option (List ℕ × ℕ)) × IsNumbered path a × IsNumbered other b × (r ≡ order_by a b)
