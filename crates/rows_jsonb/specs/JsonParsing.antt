-- The result of a call that builds a part of a JSON tree, and the budget that it leaves.
use Rattle.std.specs.Prelude.{◌≡◌, ◌⊎◌, ◌<◌, ◌+◌, ℕ, Some, None}
use Rattle.std.specs.declared.result.Result.{Result}
use Rattle.std.specs.declared.result.Result.TheVariants.{Ok, Err}
use Rattle.rows_errors.specs.declared.fault.RowsError.{RowsError}
use Rattle.rows_errors.specs.declared.fault.RowsError.TheVariants.{Jsonb, Memory}
use Rattle.rows_errors.specs.Readings.{Reading}
use Rattle.rows_jsonb.specs.JsonbValues.{JsonbValue, malformed}
use Rattle.rows_jsonb.specs.DocumentTrees.{Counted, tree_in, container_len, max_depth, values_read}

-- the error is the one found, unless it is out of memory
abbrev pub ReturnsError : {B : Type 0} → RowsError → Reading B → Type 0
ReturnsError Memory found = Unit {0}
ReturnsError e found = found ≡ Err e

-- exactly what was found, unless out of memory
abbrev pub ReturnsFound : {A B : Type 0} → (A → B) → Result A RowsError → Reading B → Type 0
ReturnsFound view (Ok x) found = found ≡ Ok (view x)
ReturnsFound view (Err e) found = ReturnsError e found

-- The error is the one found, or out of memory. An error without a name may also mean that more values were read, up to the first fault, than the budget had left.
abbrev pub Fails : {B : Type 0} → ℕ → ℕ → RowsError → Reading (Counted B) → Type 0
Fails left read Memory found = Unit {0}
Fails left read (Jsonb None) found = (found ≡ Err malformed) ⊎ (left < read)
Fails left read e found = found ≡ Err e

-- what was found; its count is subtracted from the budget
pub record TakesBudget {B : Type 0} (old new : ℕ) (x : B) (found : Result (B × ℕ) RowsError) : Type 0 where
  pub count : ℕ
  pub found_is : found ≡ Ok (x, count)
  pub taken : count + new ≡ old

-- what was found, and the budget without the values read
abbrev pub Meets : {A B : Type 0} → (A → B) → ℕ → ℕ → Result A RowsError → ℕ → Reading (Counted B) → Type 0
Meets view old new (Ok x) read found = TakesBudget old new (view x) found
Meets view old new (Err e) read found = Fails old read e found

-- no tree
abbrev pub IsNone : {B : Type 0} → Reading B → Type 0
IsNone (Ok x) = ⊥
IsNone (Err e) = Unit {0}

-- The result for a document: its tree exactly if it has one. An error about pointers or sizes is one that the document has; any other error is `Jsonb(None)` or `Memory`.
abbrev pub Parses : {A B : Type 0} → (A → B) → Result A RowsError → Reading B → Type 0
Parses view (Ok x) found = found ≡ Ok (view x)
Parses view (Err Memory) found = Unit {0}
Parses view (Err (Jsonb None)) found = IsNone found
Parses view (Err (Jsonb (Some e))) found = found ≡ Err (Jsonb (Some e))
Parses view (Err e) found = ⊥

-- The document has a fault without a name before any other, too many levels of containers, or too many values; they are counted up to its first fault.
abbrev pub HasNamelessFault : JsonbValue → Type 0
HasNamelessFault s = (tree_in s ≡ Err malformed) ⊎ (1 + container_len s < values_read max_depth s)
