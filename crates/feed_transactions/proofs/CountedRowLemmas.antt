-- The number of rows that were read.
use Rattle.std.proofs.Common.{◌≡◌, ◌<◌, ◌≤◌, ◌+◌, ℕ, zero, suc, List, [], ◌∷◌, length, Ok, refl, ap, arith}
use Rattle.std.proofs.lemmas.Bool.{lt-ltb}
use Rattle.rows_cells.specs.EventRows.{images_at, row_at}
use Rattle.rows_cells.specs.Images.{ColumnValue, ImageShape}
use Rattle.rows_jsonb.specs.Items.{walk}
use Rattle.rows_jsonb.proofs.ItemLemmas.{walk_on, walk_done}
use Rattle.feed_transactions.specs.CheckedRows.{HasImageTexts, rows_count}

-- so many rows were read before the rest
pub record CountedSoFar (shapes : List ImageShape) (bytes rest : List ℕ) (n : ℕ) : Type 0 where
  pub steps : ℕ
  pub enough : length rest ≤ steps
  pub counted : rows_count shapes bytes ≡ n + length (walk (row_at shapes) steps rest).items

pub none_counted : (shapes : List ImageShape) (bytes : List ℕ) → CountedSoFar shapes bytes bytes 0
none_counted shapes bytes = record { steps = length bytes; enough = omega arith; counted = omega arith }

row_found : (shapes : List ImageShape) (bytes rest : List ℕ) (images : List (List ColumnValue)) → images_at shapes bytes ≡ Ok (images, rest) → length rest < length bytes → row_at shapes bytes ≡ Ok (images, rest)
unfolding row_at
row_found shapes bytes rest images read less = rw (read, lt-ltb (length rest) (length bytes) less) refl

pub one_counted : (shapes : List ImageShape) (bytes rest after : List ℕ) (n m : ℕ) → 0 < length rest → HasImageTexts shapes rest after → length after < length rest → m ≡ n + 1 → CountedSoFar shapes bytes rest n → CountedSoFar shapes bytes after m
one_counted shapes bytes rest after n m some h less more c = on c.steps c.enough c.counted
  where
    row : row_at shapes rest ≡ Ok (h.1.images, after)
    row = row_found shapes rest after h.1.images h.1.read less

    on : (k : ℕ) → length rest ≤ k → rows_count shapes bytes ≡ n + length (walk (row_at shapes) k rest).items → CountedSoFar shapes bytes after m
    on zero le counted = absurd (omega (arith, le, some))
    on (suc k) le counted =
        let next = ap (λ w. length w.items) (walk_on (row_at shapes) k rest (Ok (h.1.images, after)) some le row) in
        record { steps = k; enough = omega (arith, less, le); counted = omega (arith, counted, next, more) }

pub all_counted : (shapes : List ImageShape) (bytes rest : List ℕ) (n : ℕ) → length rest ≡ 0 → CountedSoFar shapes bytes rest n → n ≡ rows_count shapes bytes
all_counted shapes bytes [] n none c =
    let last = ap (λ w. length w.items) (walk_done (row_at shapes) c.steps) in
    let counted = c.counted in
    omega (arith, counted, last)
all_counted shapes bytes (b ∷ rest) n none c = absurd (omega (arith, none))
