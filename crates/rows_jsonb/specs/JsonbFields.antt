-- The encodings of documents and containers that are read as fields: which bytes they are, given the bytes that follow.
use Rattle.std.specs.Prelude.{◌≡◌, ◌++◌, ℕ, List, length}
use Rattle.std.specs.declared.result.Result.TheVariants.{Ok}
use Rattle.rows_jsonb.specs.JsonbLayout.{ContainerFormat}
use Rattle.rows_jsonb.specs.JsonbValues.{JsonbValue, document, document_size, container_at, container_size}
use Rattle.rows_errors.specs.Readings.{Reading}

-- v is what `bytes` followed by `rest` begins with, and it takes exactly `bytes`
pub record IsFieldOf {A : Type 0} (found : List ℕ → Reading A) (taken : List ℕ → ℕ) (v : A) (bytes rest : List ℕ) : Type 0 where
  pub is : found (bytes ++ rest) ≡ Ok v
  pub whole : length bytes ≡ taken (bytes ++ rest)

-- the bytes are the document of this value
abbrev pub IsDocument : JsonbValue → List ℕ → List ℕ → Type 0
IsDocument = IsFieldOf document document_size

-- the bytes are the container of this value, in format f
abbrev pub IsContainer : ContainerFormat → JsonbValue → List ℕ → List ℕ → Type 0
IsContainer f = IsFieldOf (container_at f) (container_size f.is_large)
