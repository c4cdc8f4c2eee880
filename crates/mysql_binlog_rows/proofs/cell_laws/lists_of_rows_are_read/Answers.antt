use Rattle.wire_buf.specs.Encoding.{Alone}
use Rattle.rows_jsonb.proofs.ItemLemmas.{items-found, items-only}
use Rattle.rows_cells.specs.EventRows.{IsEventRow, row_at}
use Rattle.rows_cells.proofs.RowLemmas.{row-is, row-here, row-shrinks}
use Rattle.mysql_binlog_rows.proofs.cell_laws.lists_of_rows_are_read.Goals as goal

pub returns-clause-found : goal.returns-clause-found
returns-clause-found c = λ shapes bytes. items-found (Alone (IsEventRow shapes)) (row_at shapes) (row-here shapes) (row-is shapes) (row-shrinks shapes) bytes

pub returns-clause-only : goal.returns-clause-only
returns-clause-only c = λ shapes found bytes h. items-only (Alone (IsEventRow shapes)) (row_at shapes) (row-here shapes) (row-is shapes) (row-shrinks shapes) found bytes h
