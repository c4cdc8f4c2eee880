-- How the code prints rows: image after image, row after row.
use Rattle.std.specs.Prelude.{◌≡◌, ◌⊎◌, ◌<◌, ◌≤◌, ℕ, List, ◌++◌, length, option_map, Option, Some, None, Ok}
use Rattle.std.specs.List.{flat_map}
use Rattle.rows_cells.specs.Images.{ColumnValue, ImageShape, image_at}
use Rattle.rows_cells.specs.EventRows.{images_at, row_at}
use Rattle.rows_jsonb.specs.Items.{walk, items_at}
use Rattle.rows_jsonb.specs.JsonParsing.{IsNone}
use Rattle.rows_errors.specs.Readings.{Reading, ◌>>=◌}
use Rattle.rows_errors.specs.declared.fault.RowsError.{RowsError}
use Rattle.rows_errors.specs.declared.fault.RowsError.TheVariants as fault
use Rattle.rows_event_body.specs.ImageShapes.{TablePlan}
use Rattle.rows_event_body.specs.RowsEvents.{RowsBody}
use Rattle.feed_text.specs.ImageText.{cells_text}
use Rattle.feed_checks.specs.declared.verdict.Verdict.{Verdict}
use Rattle.feed_checks.specs.declared.verdict.Verdict.TheVariants as verdicts
use Rattle.feed_transactions.specs.MappedRows.{image_texts, walked_texts, event_texts}
use Rattle.feed_resume.specs.CommitLines.{with_line_feed}
use Rattle.feed_transactions.specs.RowTexts.{images_text}

-- the feed's verdict for an error of the rows reader
abbrev pub row_verdict : RowsError → Verdict
row_verdict fault.Memory = verdicts.Memory
row_verdict e = verdicts.Row

-- why nothing is printed: a row has no text, or out of memory
abbrev pub IsRowError : {A : Type 0} → Reading A → Verdict → Type 0
IsRowError reading v = ((v ≡ verdicts.Row) × IsNone reading) ⊎ (v ≡ verdicts.Memory)

-- the text of an image's cells, and the bytes after the image
abbrev pub with_text : List ColumnValue × List ℕ → Reading (List ℕ × List ℕ)
with_text x = cells_text x.0 >>= λ t. Ok (t, x.1)

abbrev pub image_text_at : ImageShape → List ℕ → Reading (List ℕ × List ℕ)
image_text_at s bytes = image_at s bytes >>= with_text

-- the texts of images' cells, and the bytes after the images
abbrev pub with_texts : List (List ColumnValue) × List ℕ → Reading (List (List ℕ) × List ℕ)
with_texts x = image_texts x.0 >>= λ ts. Ok (ts, x.1)

abbrev pub images_texts_at : List ImageShape → List ℕ → Reading (List (List ℕ) × List ℕ)
images_texts_at shapes bytes = images_at shapes bytes >>= with_texts

abbrev pub row_texts_at : List ImageShape → List ℕ → Reading (List (List ℕ) × List ℕ)
row_texts_at shapes bytes = row_at shapes bytes >>= with_texts

-- the texts of all rows, if all rows have one
abbrev pub rows_texts_at : List ImageShape → List ℕ → Option (List (List (List ℕ)))
rows_texts_at shapes bytes = walked_texts (items_at (row_at shapes) bytes)

-- an image at the start of the bytes was read and its text appended; `rest` are the bytes after it
pub record PutsImage (s : ImageShape) (bytes rest before after : List ℕ) : Type 0 where
  pub cells : List ColumnValue
  pub text : List ℕ
  pub read : image_at s bytes ≡ Ok (cells, rest)
  pub is : cells_text cells ≡ Ok text
  pub appended : after ≡ before ++ text

-- the same for images in sequence
pub record PutsImages (shapes : List ImageShape) (bytes rest before after : List ℕ) : Type 0 where
  pub images : List (List ColumnValue)
  pub texts : List (List ℕ)
  pub read : images_at shapes bytes ≡ Ok (images, rest)
  pub is : image_texts images ≡ Ok texts
  pub appended : after ≡ before ++ images_text texts

-- the same for a row, which takes at least one byte
pub record PutsRow (shapes : List ImageShape) (bytes rest before after : List ℕ) : Type 0 where
  pub images : List (List ColumnValue)
  pub texts : List (List ℕ)
  pub read : row_at shapes bytes ≡ Ok (images, rest)
  pub is : image_texts images ≡ Ok texts
  pub appended : after ≡ before ++ images_text texts
  pub shorter : length rest < length bytes

-- a row's line: its start, the texts of its images, a line feed
abbrev pub line_of : List ℕ → List (List ℕ) → List ℕ
line_of start texts = with_line_feed (start ++ images_text texts)

-- the lines of all rows were appended
pub record PutsLines (shapes : List ImageShape) (start bytes before after : List ℕ) : Type 0 where
  pub texts : List (List (List ℕ))
  pub are : rows_texts_at shapes bytes ≡ Some texts
  pub appended : after ≡ before ++ flat_map (line_of start) texts

-- the lines of the first rows were appended, and `rest` are the bytes after these rows
pub record IsAppendedSoFar (shapes : List ImageShape) (start bytes rest before now : List ℕ) : Type 0 where
  pub texts : List (List (List ℕ))
  pub steps : ℕ
  pub enough : length rest ≤ steps
  pub are : walked_texts (walk (row_at shapes) (length bytes) bytes) ≡ option_map (λ m. texts ++ m) (walked_texts (walk (row_at shapes) steps rest))
  pub appended : now ≡ before ++ flat_map (line_of start) texts

abbrev pub IsRowsError : Option (List (List (List ℕ))) → Verdict → Type 0
IsRowsError texts v = ((v ≡ verdicts.Row) × (texts ≡ None)) ⊎ (v ≡ verdicts.Memory)

-- the lines of an event's rows were appended, by the plan of its table
pub record PutsRows (r : RowsBody) (p : TablePlan) (start before after : List ℕ) : Type 0 where
  pub texts : List (List (List ℕ))
  pub are : event_texts r p ≡ Some texts
  pub appended : after ≡ before ++ flat_map (line_of start) texts
