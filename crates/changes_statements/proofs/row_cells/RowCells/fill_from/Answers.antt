use Rattle.std.proofs.Common.{◌≡◌, ◌==◌, ◌<◌, ◌+◌, ℕ, zero, suc, Bool, true, false, [], ◌∷◌, length, Option, refl, ap, subst, ◌∙◌, arith, rules}
use Rattle.std.proofs.Math.ListN.{set, length-set}
use Rattle.rows_cells.specs.declared.cell.CellRef.{CellRef}
use Rattle.changes_statements.specs.RowsOfCells.{Cells, cell_in, cell_or, cells_in}
use Rattle.changes_statements.proofs.row_cells.RowCells.fill_from.Goals as goal

set_same : (l : Cells) (n : ℕ) (v : Option CellRef) → n < length l → cell_in (set l n v) n ≡ v
set_same [] n v few = absurd (omega (arith, few))
set_same (x ∷ l) zero v few = refl
set_same (x ∷ l) (suc n) v few = set_same l n v (omega (arith, few))

set_other : (l : Cells) (n k : ℕ) (v : Option CellRef) → (n ≡ k → ⊥) → cell_in (set l n v) k ≡ cell_in l k
set_other [] n k v apart = refl
set_other (x ∷ l) zero zero v apart = absurd (apart refl)
set_other (x ∷ l) zero (suc k) v apart = refl
set_other (x ∷ l) (suc n) zero v apart = refl
set_other (x ∷ l) (suc n) (suc k) v apart = set_other l n k v (λ e. apart (ap suc e))

filled_more : (l own other : Cells) (i : ℕ) (v : Option CellRef) → i < length l → v ≡ cell_or (cell_in own i) (cell_in other i) → ((k : ℕ) → k < i → cell_in l k ≡ cell_or (cell_in own k) (cell_in other k))
    → (k : ℕ) → k < i + 1 → cell_in (set l i v) k ≡ cell_or (cell_in own k) (cell_in other k)
filled_more l own other i v few is before k f = go (k == i) refl
  where
    earlier : (k == i) ≡ false → k < i + 1 → k < i
    earlier e g = grind arith

    apart : (k == i) ≡ false → i ≡ k → ⊥
    apart e g = grind arith

    same : (k == i) ≡ true → i ≡ k
    same e = grind arith

    go : (z : Bool) → (k == i) ≡ z → cell_in (set l i v) k ≡ cell_or (cell_in own k) (cell_in other k)
    go true e = subst (λ (n : ℕ). cell_in (set l i v) n ≡ cell_or (cell_in own n) (cell_in other n)) (same e) (set_same l i v few ∙ is)
    go false e = set_other l i k v (apart e) ∙ before k (earlier e f)

pub loop-column-preserved : goal.loop-column-preserved
loop-column-preserved c =
    let l = cells_in c.loop-column.self in
    let own = cells_in c.args.self.now in
    let other = cells_in c.args.other.now in
    let i = c.loop-column.column in
    let v = c.cell_or.result in
    let few : i < length l = search (arith, rules) in
    let mine : c.get.result ≡ cell_in own i = c.get.ensures ∙ c.loop-column.invariant.others i (omega arith) in
    let is : v ≡ cell_or (cell_in own i) (cell_in other i) = c.cell_or.ensures ∙ (λ j. cell_or (mine j) (c.get-in-loop-column.ensures j)) in
    record {
      same_length = length-set l i v ∙ c.loop-column.invariant.same_length;
      filled = filled_more l own other i v few is c.loop-column.invariant.filled;
      others = λ k f. set_other l i k v (λ e. omega (arith, e, f)) ∙ c.loop-column.invariant.others k (omega (arith, f));
    }
