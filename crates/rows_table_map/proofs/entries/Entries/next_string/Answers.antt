use Rattle.std.proofs.Common.{sym}
use Rattle.rows_table_map.specs.Entries.{string_at}
use Rattle.rows_table_map.proofs.EntryLemmas.{string-takes}
use Rattle.rows_table_map.proofs.ListLemmas.{items-none, items-ok, items-err}
use Rattle.rows_table_map.proofs.entries.Entries.next_string.Goals as goal

pub returns-then-is_empty : goal.returns-then-is_empty
returns-then-is_empty c = items-none string_at string-takes _ c.if-is_empty.ensures

pub returns-in-Ok : goal.returns-in-Ok
returns-in-Ok c = items-ok string_at string-takes _ _ (sym c.in-Ok.ensures)

pub returns-in-Err : goal.returns-in-Err
returns-in-Err c = items-err string_at string-takes _ _ c.if-is_empty.ensures (sym c.in-Err.ensures)
