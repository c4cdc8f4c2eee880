use Rattle.std.proofs.lemmas.Result.{on_ok_weaker}
use Rattle.rows_cells.specs.RowViews.{row_shape}
use Rattle.changes_lines.specs.TableColumns.{columns_in}
use Rattle.changes_lines.proofs.NumberedRowLemmas.{plain_all}
use Rattle.changes_lines.proofs.numbered_rows.put_event_rows.Goals as goal

pub returns-in-None-clause-json : goal.returns-in-None-clause-json
returns-in-None-clause-json c = rw c.in-None.is (on_ok_weaker c.put_rows.result (λ a. plain_all (columns_in c.args.columns) (row_shape c.args.plan) c.args.texts.now _ c.args.rows_data.now a) c.put_rows.ensures.json)
