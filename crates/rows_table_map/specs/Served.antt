-- What the optional metadata's lists give for each column of a table, in order (the crate, table_map_event.rs, OptionalMetaExtractor).
use Rattle.std.specs.Prelude.{ℕ, zero, suc, ◌+◌, ◌%◌, ◌^◌, ◌==◌, Bool, List, [], ◌∷◌, map, Option, Some, None, option_map, if◌then◌else◌}
use Rattle.std.specs.declared.result.Result.TheVariants.{Ok, Err}
use Rattle.rows_errors.specs.Readings.{Reading, map_reading}
use Rattle.rows_table_map.specs.Lists.{numbers, pairs}

-- one list after the other; no item follows an error
abbrev pub chained : {A : Type 0} → List (Reading A) → List (Reading A) → List (Reading A)
chained [] others = others
chained (Ok x ∷ items) others = Ok x ∷ chained items others
chained (Err e ∷ items) others = Err e ∷ []

-- the bytes of a list; none if the field is missing
abbrev pub bytes_or_none : Option (List ℕ) → List ℕ
bytes_or_none None = []
bytes_or_none (Some bytes) = bytes

-- the signedness bits; none if the field is missing
abbrev pub signs_or_none : Option (List Bool) → List Bool
signs_or_none None = []
signs_or_none (Some signs) = signs

-- the first item, if there is one
abbrev pub first_item : {A : Type 0} → List A → Option A
first_item [] = None
first_item (x ∷ items) = Some x

-- the columns of the primary key: those of the simple key before those of the key with prefixes
abbrev pub key_indexes : Option (List ℕ) → Option (List ℕ) → List (Reading ℕ)
key_indexes simple prefixed = chained (numbers (bytes_or_none simple)) (map (map_reading (λ (key : ℕ × ℕ). key.0)) (pairs (bytes_or_none prefixed)))

-- an entry with a charset: for the column with an index, or for the next column
pub data CharsetEntry : Type 0 where
  of_column : ℕ → ℕ → CharsetEntry
  plain : ℕ → CharsetEntry

-- the character set of the column with this index, in 16 bits
abbrev pub pair_entry : ℕ × ℕ → CharsetEntry
pair_entry p = of_column p.0 (p.1 % 65536)

-- the character set of the next column, in 16 bits
abbrev pub number_entry : ℕ → CharsetEntry
number_entry n = plain (n % 65536)

-- the bytes of the pairs after a default charset
abbrev pub pair_bytes : Option (ℕ × List ℕ) → List ℕ
pair_bytes None = []
pair_bytes (Some d) = d.1

-- all entries: those with an index first
abbrev pub charset_entries : Option (ℕ × List ℕ) → Option (List ℕ) → List (Reading CharsetEntry)
charset_entries with_default each =
    chained (map (map_reading pair_entry) (pairs (pair_bytes with_default))) (map (map_reading number_entry) (numbers (bytes_or_none each)))

-- the default character set
abbrev pub default_of : Option (ℕ × List ℕ) → Option ℕ
default_of with_default = option_map (λ (d : ℕ × List ℕ). d.0 % 65536) with_default

-- the default, as an entry that can be read
abbrev pub default_item : Option ℕ → Option (Reading ℕ)
default_item default = option_map (λ (n : ℕ). Ok n) default

-- the next index, as the code counts it, in 64 bits
abbrev pub next_index : ℕ → ℕ
next_index i = (i + 1) % 2 ^ 64

-- the character set of column i + k, counted among the columns of its kind, if these entries remain when column i is next; the column that meets an unreadable entry has its error, later ones None
unfoldable pub charset_after : Option ℕ → List (Reading CharsetEntry) → ℕ → ℕ → Option (Reading ℕ)
charset_after default [] i k = default_item default
charset_after default (Err e ∷ entries) i zero = Some (Err e)
charset_after default (Err e ∷ entries) i (suc k) = None
charset_after default (Ok (plain c) ∷ entries) i zero = Some (Ok c)
charset_after default (Ok (plain c) ∷ entries) i (suc k) = charset_after default entries (next_index i) k
charset_after default (Ok (of_column j c) ∷ entries) i zero = if j == i then Some (Ok c) else default_item default
charset_after default (Ok (of_column j c) ∷ entries) i (suc k) =
    if j == i then charset_after default entries (next_index i) k
    else charset_after default (Ok (of_column j c) ∷ entries) (next_index i) k

-- the charset of column k among the columns of its kind
abbrev pub charset_item : Option (ℕ × List ℕ) → Option (List ℕ) → ℕ → Option (Reading ℕ)
charset_item with_default each k = charset_after (default_of with_default) (charset_entries with_default each) 0 k
