use Rattle.std.proofs.Common.{ℕ, List, ◌++◌, ap, ◌∙◌}
use Rattle.feed_text.specs.Buffers.{text_in}
use Rattle.changes_statements.specs.RowsOfCells.{cells_in}
use Rattle.changes_statements.proofs.StatementLemmas.{inserted}
use Rattle.changes_statements.proofs.statements.put_insert.Goals as goal

pub returns-clause-text : goal.returns-clause-text
returns-clause-text c = inserted c.args.table.now (cells_in c.args.cells.now) _ _ _ _ _ _ _ _ c.in_ok-put_text.ensures.ok (c.in_ok-put_text-2.ensures.ok ∙ ap (λ (l : List ℕ). text_in c.put_text.new.self ++ l) c.deref.ensures.value) c.in_ok-put_text-3.ensures.ok c.in_ok-put_items.ensures.text c.in_ok-put_text-4.ensures.ok c.in_ok-put_items-2.ensures.text c.in_ok-put_text-5.ensures.ok
