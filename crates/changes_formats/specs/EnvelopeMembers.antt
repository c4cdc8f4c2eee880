-- Values of ENUM and SET columns in the lines of Maxwell, Debezium and Canal (MySQL Reference Manual, "The ENUM Type", "The SET Type").
-- A member is a JSON text: a string, or an object where its bytes aren't text.
use Rattle.std.specs.Prelude.{ℕ, ◌+◌, ◌-◌, ◌/◌, ◌%◌, ◌^◌, ◌==◌, Bool, List, [], ◌∷◌, ◌++◌, length, take, drop, map, slice_get, unwrap_or, option_map, slice_index, if◌then◌else◌}
use Rattle.std.specs.List.{filter, flat_map, range_with_len}
use Rattle.std.specs.Fmt.{decimal}
use Rattle.changes_commands.specs.declared.format_options.Format.{Format}
use Rattle.changes_commands.specs.declared.format_options.Format.TheVariants.{Maxwell, Debezium, Canal}

-- a number as a string
abbrev pub number_string : ℕ → List ℕ
number_string n = 34 ∷ decimal n ++ 34 ∷ []

-- the member of an ENUM with a number, from 1; an empty string for 0, and the number of a member that the column doesn't have
abbrev pub enum_text : List (List ℕ) → ℕ → List ℕ
enum_text members n = if n == 0 then 34 ∷ 34 ∷ [] else unwrap_or (slice_get members (n - 1)) (number_string n)

-- the members of a SET that a number has, by their indexes: those whose bits are set
abbrev pub has_bit : ℕ → ℕ → Bool
has_bit number bit = number / 2 ^ bit % 2 == 1

abbrev pub members_of : ℕ → List ℕ
members_of number = filter (has_bit number) (range_with_len 0 64)

-- the content of a member that is a string; none of an object
abbrev pub content_of : List ℕ → List ℕ
content_of member = if slice_index member 0 == 34 then take (length member - 2) (drop 1 member) else []

-- a member of a SET as an item of a list, and as a part of a string; its number, from 1, if the column doesn't have it
abbrev pub item_in : Format → List (List ℕ) → ℕ → List ℕ
item_in Maxwell members bit = unwrap_or (slice_get members bit) (number_string (bit + 1))
item_in Debezium members bit = unwrap_or (option_map content_of (slice_get members bit)) (decimal (bit + 1))
item_in Canal members bit = unwrap_or (option_map content_of (slice_get members bit)) (decimal (bit + 1))

-- texts in sequence with commas between them
abbrev pub with_commas : List (List ℕ) → List ℕ
with_commas texts = drop 1 (flat_map (λ text. 44 ∷ text) texts)

-- the members that a number has
abbrev pub items_in : Format → List (List ℕ) → ℕ → List ℕ
items_in format members number = with_commas (map (item_in format members) (members_of number))

-- Maxwell has a list of the members, the others a string with commas between them
abbrev pub set_text : Format → List (List ℕ) → ℕ → List ℕ
set_text Maxwell members number = 91 ∷ items_in Maxwell members number ++ 93 ∷ []
set_text Debezium members number = 34 ∷ items_in Debezium members number ++ 34 ∷ []
set_text Canal members number = 34 ∷ items_in Canal members number ++ 34 ∷ []
