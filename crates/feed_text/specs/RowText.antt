-- The lines of rows of one image.
use Rattle.std.specs.Prelude.{◌≡◌, ◌≤◌, ◌<◌, ℕ, List, [], ◌∷◌, ◌++◌, length, take, Option, Some, None}
use Rattle.std.specs.Borrow.{Bor}
use Rattle.std.specs.List.{flat_map}
use Rattle.std.specs.declared.result.Result.TheVariants.{Ok}
use Rattle.rows_cells.specs.Images.{ColumnValue, ImageShape, image_at}
use Rattle.feed_text.specs.ImageText.{cells_text}

-- the row at the start of the bytes has this text, and `rest` are the bytes after it
pub record IsRowText (s : ImageShape) (bytes rest text : List ℕ) : Type 0 where
  pub cells : List ColumnValue
  pub read : image_at s bytes ≡ Ok (cells, rest)
  pub is : cells_text cells ≡ Ok text
  pub shorter : length rest < length bytes

-- the same for consecutive rows
abbrev pub AreRowTexts : ImageShape → List (List ℕ) → List ℕ → List ℕ → Type 0
AreRowTexts s [] bytes rest = bytes ≡ rest
AreRowTexts s (text ∷ texts) bytes rest = (after : List ℕ) × IsRowText s bytes after text × AreRowTexts s texts after rest

-- a line: its start, the text of a row, a line feed
abbrev pub row_line : List ℕ → List ℕ → List ℕ
row_line start text = start ++ (text ++ 10 ∷ [])

-- the line of the row at the start of the bytes was written, up to the offset `end`
pub record WritesRow (s : ImageShape) (start bytes rest : List ℕ) (at : ℕ) (before after : List ℕ) (end : ℕ) : Type 0 where
  pub text : List ℕ
  pub row : IsRowText s bytes rest text
  pub within : end ≤ length after
  pub written : take end after ≡ take at before ++ row_line start text

-- the same; or the text before `at` is unchanged, and nothing more is stated
abbrev pub WritesRowOrNone : ImageShape → List ℕ → List ℕ → ℕ → List ℕ → List ℕ → Option (ℕ × Bor (List ℕ)) → Type 0
WritesRowOrNone s start bytes at before after (Some r) = WritesRow s start bytes r.1.now at before after r.0
WritesRowOrNone s start bytes at before after None = take at after ≡ take at before

-- the lines of the first rows were appended, and `rest` are the bytes after these rows
pub record AppendsRows (s : ImageShape) (start bytes rest before after : List ℕ) : Type 0 where
  pub texts : List (List ℕ)
  pub are : AreRowTexts s texts bytes rest
  pub appended : after ≡ before ++ flat_map (row_line start) texts
