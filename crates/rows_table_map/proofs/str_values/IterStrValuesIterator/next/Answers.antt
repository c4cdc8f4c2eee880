use Rattle.std.proofs.Common.{inl, inr, ap, Some, Err}
use Rattle.rows_errors.specs.declared.fault.RowsError.{RowsError}
use Rattle.rows_table_map.specs.Members.{members_at}
use Rattle.rows_table_map.proofs.EntryLemmas.{members-takes}
use Rattle.rows_table_map.proofs.ListLemmas.{items-none, items-ok, items-err, empty-items}
use Rattle.rows_table_map.proofs.str_values.IterStrValuesIterator.next.Goals as goal

pub returns-then-is_empty-clause-steps : goal.returns-then-is_empty-clause-steps
returns-then-is_empty-clause-steps c = inl (items-none members_at members-takes _ c.if-is_empty.ensures)

pub returns-in-Ok-clause-steps : goal.returns-in-Ok-clause-steps
returns-in-Ok-clause-steps c = inl (items-ok members_at members-takes _ _ c.in-Ok.ensures.ok)

pub returns-in-Err-clause-steps : goal.returns-in-Err-clause-steps
returns-in-Err-clause-steps c = elim c.in-Err.ensures.err [
  | inl e ↦ inr (ap (λ (f : RowsError). Some (Err f)) e, empty-items members_at members-takes)
  | inr e ↦ inl (items-err members_at members-takes _ _ c.if-is_empty.ensures e)
]
