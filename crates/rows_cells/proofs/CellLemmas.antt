-- Cells that are read are what the bytes encode, and the other way round.
use Rattle.std.proofs.Common.{◌≡◌, ℕ, List, ◌++◌, Ok, refl, sym, ap, ◌∙◌}
use Rattle.rows_cells.specs.declared.format.CellFormat.{CellFormat}
use Rattle.rows_cells.specs.CellSizes.{Size, exactly, after_length, unreadable, cell_size}
use Rattle.rows_cells.specs.CellValues.{CellValue}
use Rattle.rows_cells.specs.Cells.{IsCellContent, plain, sized, IsCell, content_at, cell_at}
use Rattle.rows_cells.proofs.FieldLemmas.{bind-ok, ok_pair, at_width-is, at_width-here, counted_at-is, counted_at-here}

content-is : (z : Size) (s : List ℕ) (x : List ℕ × List ℕ) → content_at z s ≡ Ok x → (bytes : List ℕ) × (s ≡ bytes ++ x.1) × IsCellContent z x.0 bytes
content-is (exactly n) s x h = let f = at_width-is n s x h in (x.0, f.0, plain f.1)
content-is (after_length w) s x h = let c = counted_at-is w s x h in (c.0 ++ x.0, c.1, sized c.2)
content-is (unreadable e) s x h = absurd cc

content-here : (z : Size) (content bytes r : List ℕ) → IsCellContent z content bytes → content_at z (bytes ++ r) ≡ Ok (content, r)
content-here _ content _ r (plain {n = n} h) = at_width-here n content r h
content-here _ _ _ r (sized {w = w} {content = content} {size = size} h) = counted_at-here w size content r h

pub cell-is : (format : CellFormat) (s : List ℕ) (v : CellValue) (r : List ℕ) → cell_at format s ≡ Ok (v, r) → (bytes : List ℕ) × (s ≡ bytes ++ r) × IsCell format v bytes
unfolding cell_at
cell-is format s v r h =
    let a = bind-ok _ _ _ h in
    let b = bind-ok _ _ _ a.2 in
    let p = ok_pair _ _ (v, r) b.2 in
    let c = content-is (cell_size format) s a.0 a.1 in
    (c.0, c.1 ∙ ap (λ (t : List ℕ). c.0 ++ t) p.1, record { content = a.0.0; content_is = c.2; value_is = b.1 ∙ ap (λ (w : CellValue). Ok w) p.0 })

pub cell-here : (format : CellFormat) (v : CellValue) (bytes r : List ℕ) → IsCell format v bytes → cell_at format (bytes ++ r) ≡ Ok (v, r)
unfolding cell_at
cell-here format v bytes r h = rw (content-here (cell_size format) h.content bytes r h.content_is, h.value_is) refl

-- no encoding of a cell is a proper prefix of another
pub one_cell : (format : CellFormat) (v w : CellValue) (a b x y : List ℕ) → IsCell format v a → IsCell format w b → a ++ x ≡ b ++ y → (v ≡ w) × (x ≡ y)
one_cell format v w a b x y h i e = ok_pair v x (w, y) (sym (cell-here format v a x h) ∙ ap (cell_at format) e ∙ cell-here format w b y i)
