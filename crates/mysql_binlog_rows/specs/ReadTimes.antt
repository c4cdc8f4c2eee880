-- Values of n bytes, read from a reader whose bytes may be known.
use Rattle.std.specs.Prelude.{◌≡◌, ◌≤◌, ◌<◌, ◌⊎◌, ℕ, List, length, Option}
use Rattle.std.specs.Io.KnownBytes.{Consumes, IsAtEnd}
use Rattle.rows_errors.specs.declared.fault.RowsError.{RowsError}
use Rattle.rows_errors.specs.declared.fault.RowsError.TheVariants.{EndOfBody, Read}

-- the next n bytes were taken, and v is their value
pub record ReadsValue {A : Type 0} (n : ℕ) (value : List ℕ → A) (v : A) (old new : Option (List ℕ)) : Type 0 where
  pub bytes : List ℕ
  pub consumed : Consumes old new bytes
  pub size : length bytes ≡ n
  pub value_is : v ≡ value bytes

-- at most n bytes were taken: the reader ended before n, or it failed
pub record ReadFallsShort (fault : RowsError) (n : ℕ) (old new : Option (List ℕ)) : Type 0 where
  pub taken : List ℕ
  pub consumed : Consumes old new taken
  pub within : length taken ≤ n
  pub cause : ((fault ≡ EndOfBody) × IsAtEnd new × (length taken < n)) ⊎ (fault ≡ Read)
