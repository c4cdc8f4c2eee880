-- Rows, part by part.
use Rattle.std.proofs.Common.{◌≡◌, ◌≤◌, ◌<◌, ℕ, zero, suc, ◌+◌, ◌*◌, ◌-◌, List, [], ◌∷◌, length, Ok, Err, refl, arith, inl, inr}
use Rattle.std.proofs.lemmas.Bool.{lt-ltb, le-ltb}
use Rattle.std.proofs.lemmas.Bool.Decides.{leb_tells}
use Rattle.rows_errors.specs.declared.fault.RowsError.{RowsError}
use Rattle.rows_errors.specs.declared.fault.RowsError.TheVariants.{EmptyPair}
use Rattle.rows_errors.specs.Readings.{Reading, ◌>>=◌}
use Rattle.rows_cells.specs.Images.{ColumnValue, ImageShape, image_at}
use Rattle.rows_cells.specs.EventRows.{images_at, takes_some, row_at}
use Rattle.rows_cells.specs.RowViews.{RowAndRest, before_images, with_cell}

-- cells, and the bytes after them
abbrev pub Cells : Type 0
Cells = List ColumnValue × List ℕ

-- a row is its first image and then the others
pub row_begun : (s : ImageShape) (ss : List ImageShape) (bytes : List ℕ) (o : Reading Cells) → o ≡ image_at s bytes → ((o >>= before_images ss) >>= takes_some (length bytes)) ≡ row_at (s ∷ ss) bytes
unfolding row_at images_at
row_begun s ss bytes o e = rw e refl

pub row_not_begun : (s : ImageShape) (ss : List ImageShape) (bytes : List ℕ) (e : RowsError) → image_at s bytes ≡ Err e → row_at (s ∷ ss) bytes ≡ Err e
unfolding row_at images_at
row_not_begun s ss bytes e h = rw h refl

-- changing the images doesn't change how many bytes were consumed
taken_after : (f : List (List ColumnValue) → List (List ColumnValue)) (n : ℕ) (x : RowAndRest) → takes_some n (f x.0, x.1) ≡ (takes_some n x >>= λ y. Ok (f y.0, y.1))
taken_after f n x = elim (leb_tells (suc (length x.1)) n) [
  | inl t ↦ rw t.0 refl
  | inr t ↦ rw t.0 refl
]

-- a cell of an image is returned
pub cell_given : (ss : List ImageShape) (n : ℕ) (v : ColumnValue) (old new : Reading Cells) → old ≡ (new >>= λ left. Ok (v ∷ left.0, left.1))
    → ((old >>= before_images ss) >>= takes_some n) ≡ (((new >>= before_images ss) >>= takes_some n) >>= λ x. Ok (with_cell v x.0, x.1))
cell_given ss n v old (Err e) h = rw h refl
cell_given ss n v old (Ok x) h = rw h (images_after (images_at ss x.1))
  where
    images_after : (o : Reading RowAndRest)
        → ((o >>= λ more. Ok ((v ∷ x.0) ∷ more.0, more.1)) >>= takes_some n) ≡ (((o >>= λ more. Ok (x.0 ∷ more.0, more.1)) >>= takes_some n) >>= λ y. Ok (with_cell v y.0, y.1))
    images_after (Err e) = refl
    images_after (Ok y) = taken_after (with_cell v) n (x.0 ∷ y.0, y.1)

-- an image before those of a row
abbrev with_image : List ColumnValue → RowAndRest → Reading RowAndRest
with_image cells x = Ok (cells ∷ x.0, x.1)

-- the next image begins
pub image_given : (s : ImageShape) (n : ℕ) (rest : List ℕ) (old new : Reading Cells) → old ≡ Ok ([], rest) → new ≡ image_at s rest
    → ((old >>= before_images (s ∷ [])) >>= takes_some n) ≡ (((new >>= before_images []) >>= takes_some n) >>= λ x. Ok ([] ∷ x.0, x.1))
unfolding images_at
image_given s n rest old new h e = rw (h, e) (image_after (image_at s rest))
  where
    image_after : (o : Reading Cells) → (((o >>= before_images []) >>= with_image []) >>= takes_some n) ≡ (((o >>= before_images []) >>= takes_some n) >>= with_image [])
    image_after (Err e) = refl
    image_after (Ok y) = taken_after (λ images. [] ∷ images) n (y.0 ∷ [], y.1)

pub no_next_image : (s : ImageShape) (n : ℕ) (rest : List ℕ) (old : Reading Cells) (e : RowsError) → old ≡ Ok ([], rest) → image_at s rest ≡ Err e → ((old >>= before_images (s ∷ [])) >>= takes_some n) ≡ Err e
unfolding images_at
no_next_image s n rest old e h f = rw (h, f) refl

-- a cell that can't be read
pub cell_failed : (ss : List ImageShape) (n : ℕ) (old : Reading Cells) (e : RowsError) → old ≡ Err e → ((old >>= before_images ss) >>= takes_some n) ≡ Err e
cell_failed ss n old e h = rw h refl

-- the end of a row, which took at least one byte or none
pub row_ended : (n : ℕ) (rest : List ℕ) (old : Reading Cells) → old ≡ Ok ([], rest) → length rest < n → ((old >>= before_images []) >>= takes_some n) ≡ Ok ([] ∷ [], rest)
unfolding images_at
row_ended n rest old h lt = rw (h, lt-ltb (length rest) n lt) refl

pub row_empty : (n : ℕ) (rest : List ℕ) (old : Reading Cells) → old ≡ Ok ([], rest) → n ≤ length rest → ((old >>= before_images []) >>= takes_some n) ≡ Err EmptyPair
unfolding images_at
row_empty n rest old h le = rw (h, le-ltb (length rest) n le) refl

-- an upper bound on the number of parts
pub parts_of_rows : (n p : ℕ) → 0 < n → (n - 1) * p + p ≡ n * p
parts_of_rows zero p some = absurd (omega (arith, some))
parts_of_rows (suc n) p some = grind arith

pub rows_before : (m n p k : ℕ) → m < n → (n - 1) * p < k → m * p < k
rows_before m n p k lt less = grind arith
