-- Rows (MySQL Internals: Rows_event): the images of a row (before the change, after it, or both), and consecutive rows up to the end of the rows data.
use Rattle.std.specs.Prelude.{◌≡◌, ◌<◌, ℕ, List, [], ◌∷◌, ◌++◌, length, nat_lt, if◌then◌else◌}
use Rattle.std.specs.declared.result.Result.TheVariants.{Ok, Err}
use Rattle.rows_errors.specs.declared.fault.RowsError.TheVariants.{EmptyPair}
use Rattle.rows_errors.specs.Readings.{Reading, ◌>>=◌}
use Rattle.rows_cells.specs.Images.{ColumnValue, ImageShape, IsImage, image_at}

-- consecutive images of these shapes
abbrev pub AreImages : List ImageShape → List (List ColumnValue) → List ℕ → Type 0
AreImages [] [] bytes = bytes ≡ []
AreImages (s ∷ ss) (image ∷ images) bytes = (own : List ℕ) × (more : List ℕ) × (bytes ≡ own ++ more) × IsImage s image own × AreImages ss images more
AreImages [] (image ∷ images) bytes = ⊥
AreImages (s ∷ ss) [] bytes = ⊥

-- a row: its images, which take at least one byte
pub record IsEventRow (shapes : List ImageShape) (row : List (List ColumnValue)) (bytes : List ℕ) : Type 0 where
  pub images_are : AreImages shapes row bytes
  pub some : 0 < length bytes

-- The rest of this file computes what `IsEventRow` states, as the law `rows_are_read` says.

-- the images of these shapes, one after the other, and the bytes after them
unfoldable pub images_at : List ImageShape → List ℕ → Reading (List (List ColumnValue) × List ℕ)
images_at [] bytes = Ok ([], bytes)
images_at (s ∷ ss) bytes = do
  first ← image_at s bytes
  more ← images_at ss first.1
  Ok (first.0 ∷ more.0, more.1)

-- `EmptyPair` if none of the n bytes was taken
abbrev pub takes_some : {A : Type 0} → ℕ → A × List ℕ → Reading (A × List ℕ)
takes_some n x = if nat_lt (length x.1) n then Ok x else Err EmptyPair

-- the row that bytes begin with, and the bytes after it; a row takes at least one byte
unfoldable pub row_at : List ImageShape → List ℕ → Reading (List (List ColumnValue) × List ℕ)
row_at shapes bytes = images_at shapes bytes >>= takes_some (length bytes)
