-- The cells of an image, one at a time.
use Rattle.std.proofs.Common.{◌≡◌, ◌≤◌, ◌<◌, ◌+◌, ℕ, Bool, List, [], ◌∷◌, length, get_or, drop, Ok, Err, refl}
use Rattle.std.proofs.lemmas.List.{drop_more, drop_all}
use Rattle.rows_errors.specs.declared.fault.RowsError.{RowsError}
use Rattle.rows_errors.specs.Readings.{◌>>=◌}
use Rattle.rows_cells.specs.declared.format.CellFormat.{CellFormat}
use Rattle.rows_cells.specs.declared.image.ImageColumn.{ImageColumn}
use Rattle.rows_cells.specs.CellValues.{CellValue}
use Rattle.rows_cells.specs.ImageViews.{no_column}
use Rattle.rows_cells.specs.Images.{bit, format_in, field_at, cells_at}

pub all_given : (bits nulls : List ℕ) (columns : List ImageColumn) (bytes : List ℕ) (k : ℕ) → length columns ≤ k → cells_at bits nulls k (drop k columns) bytes ≡ Ok ([], bytes)
unfolding cells_at
all_given bits nulls columns bytes k le = rw (drop_all k columns le) refl

module _ (bits nulls : List ℕ) (columns : List ImageColumn) (bytes : List ℕ) (k : ℕ) (b : Bool) (f : CellFormat) (lt : k < length columns) (null : b ≡ bit nulls k) (format : f ≡ format_in bits (get_or columns k no_column)) where
  pub one_failed : (e : RowsError) → field_at b f bytes ≡ Err e → cells_at bits nulls k (drop k columns) bytes ≡ Err e
  unfolding cells_at
  one_failed e h = rw (drop_more columns k no_column lt, ← null, ← format, h) refl

  pub one_given : (v : CellValue) (after : List ℕ) → field_at b f bytes ≡ Ok (v, after)
      → cells_at bits nulls k (drop k columns) bytes ≡ (cells_at bits nulls (k + 1) (drop (k + 1) columns) after >>= λ x. Ok (record { column = (get_or columns k no_column).column; value = v } ∷ x.0, x.1))
  unfolding cells_at
  one_given v after h = rw (drop_more columns k no_column lt, ← null, ← format, h) refl
