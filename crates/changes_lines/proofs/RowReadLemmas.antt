-- The images of rows that were written as JSON have texts in the feed.
use Rattle.std.proofs.Common.{ℕ, List, [], ◌∷◌, Result, Ok, Err, refl}
use Rattle.std.specs.Prelude.{IfErr}
use Rattle.std.specs.Borrow.{Bor}
use Rattle.rows_errors.specs.declared.fault.RowsError.{RowsError}
use Rattle.rows_cells.specs.Images.{ImageShape}
use Rattle.feed_transactions.specs.RowLines.{row_verdict, IsRowError, image_text_at, images_texts_at}
use Rattle.feed_transactions.proofs.RowLineLemmas.{first_failed, second_failed}
use Rattle.feed_transactions.specs.CheckedRows.{HasImageText}
use Rattle.changes_tables.specs.ShownColumns.{ColumnView}
use Rattle.changes_lines.specs.ReadCells.{ReadsImage}
use Rattle.changes_lines.proofs.ReadCellLemmas.{cells_have_text}

-- an image that was read has a text
pub reads_text : (t : List ColumnView) (s : ImageShape) (bytes rest : List ℕ) → ReadsImage t s bytes rest → HasImageText s bytes rest
reads_text t s bytes rest h =
    let text = cells_have_text t s.columns h.values h.json h.are in
    (text.0, record { cells = h.values; text = text.0; read = h.read; is = text.1; appended = refl })

pub first_fails : (s : ImageShape) (more : List ImageShape) (bytes : List ℕ) (e : RowsError) → IsRowError (image_text_at s bytes) (row_verdict e) → IsRowError (images_texts_at (s ∷ more) bytes) (row_verdict e)
first_fails s more bytes e h = first_failed s more bytes (row_verdict e) h

pub one_fails : (s : ImageShape) (bytes : List ℕ) (r : Result (Bor (List ℕ)) RowsError) → IfErr r (λ e. IsRowError (image_text_at s bytes) (row_verdict e)) → IfErr r (λ e. IsRowError (images_texts_at (s ∷ []) bytes) (row_verdict e))
one_fails s bytes (Ok x) h = tt
one_fails s bytes (Err e) h = first_fails s [] bytes e h

pub second_fails_too : (t : List ColumnView) (s1 s2 : ImageShape) (bytes middle : List ℕ) (e : RowsError) → ReadsImage t s1 bytes middle → IsRowError (image_text_at s2 middle) (row_verdict e) → IsRowError (images_texts_at (s1 ∷ s2 ∷ []) bytes) (row_verdict e)
second_fails_too t s1 s2 bytes middle e h k = let first = reads_text t s1 bytes middle h in second_failed s1 s2 bytes middle [] first.0 (row_verdict e) first.1 k
