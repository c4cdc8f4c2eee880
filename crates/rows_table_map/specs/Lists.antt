-- Lists of entries up to the end of the bytes.
use Rattle.std.specs.Prelude.{◌≡◌, ◌≢◌, ◌<◌, ℕ, zero, suc, List, [], ◌∷◌, length}
use Rattle.std.specs.declared.result.Result.TheVariants.{Ok, Err}
use Rattle.wire_buf.specs.Encoding.{Encoding, Begins, Lacks}
use Rattle.rows_errors.specs.declared.fault.RowsError.{RowsError}
use Rattle.rows_errors.specs.Readings.{Reading}
use Rattle.rows_table_map.specs.Entries.{lenenc_at, string_at, pair_at}

-- The items of a list: its entries in order, and, if bytes remain that don't begin with an entry, the error last. No item follows an error.
abbrev pub AreListItems : {A : Type 0} → Encoding A → (List ℕ → RowsError → Type 0) → List ℕ → List (Reading A) → Type 0
AreListItems encodes fails bytes [] = bytes ≡ []
AreListItems encodes fails bytes (Ok v ∷ items) = (rest : List ℕ) × Begins (encodes v) bytes rest × AreListItems encodes fails rest items
AreListItems encodes fails bytes (Err e ∷ []) = (bytes ≢ []) × Lacks encodes bytes × fails bytes e
AreListItems encodes fails bytes (Err e ∷ (i ∷ items)) = ⊥

-- The rest of this file computes what `AreListItems` states, as the law `lists_are_read` says.

-- what was read first, and then the items of the bytes after it
abbrev pub prepend_read : {A : Type 0} → (List ℕ → List (Reading A)) → Reading (A × List ℕ) → List (Reading A)
prepend_read items (Ok x) = Ok x.0 ∷ items x.1
prepend_read items (Err e) = Err e ∷ []

-- at most n items
unfoldable pub items_in : {A : Type 0} → (List ℕ → Reading (A × List ℕ)) → ℕ → List ℕ → List (Reading A)
items_in read zero bytes = []
items_in read (suc n) [] = []
items_in read (suc n) (b ∷ bytes) = prepend_read (items_in read n) (read (b ∷ bytes))

-- all entries, in order; after the first that can't be read, its error and no more
unfoldable pub items_of : {A : Type 0} → (List ℕ → Reading (A × List ℕ)) → List ℕ → List (Reading A)
items_of read bytes = items_in read (length bytes) bytes

-- each value takes at least one byte
abbrev pub TakesBytes : {A : Type 0} → (List ℕ → Reading (A × List ℕ)) → Type 0
TakesBytes {A} read = (bytes : List ℕ) (x : A × List ℕ) → read bytes ≡ Ok x → length x.1 < length bytes

-- the length-encoded integers up to the end of the bytes
abbrev pub numbers : List ℕ → List (Reading ℕ)
numbers = items_of lenenc_at

-- the length-encoded strings up to the end of the bytes
abbrev pub strings : List ℕ → List (Reading (List ℕ))
strings = items_of string_at

-- the pairs of length-encoded integers up to the end of the bytes
abbrev pub pairs : List ℕ → List (Reading (ℕ × ℕ))
pairs = items_of pair_at
