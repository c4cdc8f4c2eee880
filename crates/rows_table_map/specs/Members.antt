-- The members of ENUM and SET columns (MySQL Internals: Table_map_event, SET_STR_VALUE and ENUM_STR_VALUE).
use Rattle.std.specs.Prelude.{◌≡◌, ◌++◌, ℕ, zero, suc, List, [], ◌∷◌, length}
use Rattle.std.specs.declared.result.Result.TheVariants.{Ok}
use Rattle.wire_buf.specs.Encoding.{Encoding, Alone}
use Rattle.wire_buf.specs.Numbers.{IsLenenc, IsLenencString}
use Rattle.rows_errors.specs.Readings.{Reading, ◌>>=◌}
use Rattle.rows_table_map.specs.Entries.{lenenc_at, string_at}
use Rattle.rows_table_map.specs.Lists.{items_of}

-- consecutive strings
abbrev pub AreStrings : List (List ℕ) → List ℕ → Type 0
AreStrings [] bytes = bytes ≡ []
AreStrings (v ∷ vs) bytes = (own : List ℕ) × (more : List ℕ) × (bytes ≡ own ++ more) × IsLenencString v own × AreStrings vs more

-- the encoding of a column's members: their count, and that many strings
pub record AreMembers (members : List (List ℕ)) (bytes : List ℕ) : Type 0 where
  pub count : List ℕ
  pub strings : List ℕ
  pub joined : bytes ≡ count ++ strings
  pub count_is : IsLenenc (length members) count
  pub strings_are : AreStrings members strings

abbrev pub MembersEncoding : Encoding (List (List ℕ))
MembersEncoding = Alone AreMembers

-- The rest of this file computes what `MembersEncoding` states, as the law `entries_are_read` says.

-- n consecutive strings, and the bytes after them
unfoldable pub strings_in : ℕ → List ℕ → Reading (List (List ℕ) × List ℕ)
strings_in zero bytes = Ok ([], bytes)
strings_in (suc n) bytes = do
  first ← string_at bytes
  more ← strings_in n first.1
  Ok (first.0 ∷ more.0, more.1)

-- the members of one column, and the bytes after them
abbrev pub members_at : List ℕ → Reading (List (List ℕ) × List ℕ)
members_at bytes = lenenc_at bytes >>= λ count. strings_in count.0 count.1

-- the members of each column
abbrev pub members : List ℕ → List (Reading (List (List ℕ)))
members = items_of members_at
