use Rattle.std.proofs.Common.{◌≡◌, ◌⊎◌, ℕ, inl, inr, subst}
use Rattle.rows_event_body.specs.declared.rows_event_type.RowImages.{RowImages}
use Rattle.rows_event_body.specs.declared.rows_event_type.RowImages.TheVariants.{BeforeAndAfter, BeforeAndPartialAfter}
use Rattle.changes_statements.specs.RowsOfCells.{Cells, IsMissing, cells_in}
use Rattle.changes_statements.specs.EventStatements.{LacksBack}
use Rattle.changes_statements.proofs.rows.has_all_back.Goals as goal

of_update : (images : RowImages) (first second : Cells) → (images ≡ BeforeAndAfter) ⊎ (images ≡ BeforeAndPartialAfter) → ((column : ℕ) → IsMissing first second column → ⊥) → LacksBack images first second → ⊥
of_update images first second (inl e) none lacks = let l : (column : ℕ) × IsMissing first second column = subst (λ (m : RowImages). LacksBack m first second) e lacks in none l.0 l.1
of_update images first second (inr e) none lacks = let l : (column : ℕ) × IsMissing first second column = subst (λ (m : RowImages). LacksBack m first second) e lacks in none l.0 l.1

pub returns-in-BeforeAndAfter-clause-all : goal.returns-in-BeforeAndAfter-clause-all
returns-in-BeforeAndAfter-clause-all c = λ yes. of_update c.args.images (cells_in c.args.first.now) (cells_in c.args.second.now) c.in-BeforeAndAfter.is (c.has_all_of.ensures.all yes)
