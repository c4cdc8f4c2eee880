use Rattle.std.proofs.Common.{rules, ◌≡◌, None}
use Rattle.rows_cells.specs.RowViews.{row_shape}
use Rattle.changes_lines.specs.TableColumns.{columns_in}
use Rattle.changes_lines.proofs.ReadRowLemmas.{adds_none}
use Rattle.changes_lines.proofs.rows.put_first_rows.Goals as goal

pub returns-in-None-clause-rows : goal.returns-in-None-clause-rows
returns-in-None-clause-rows c =
    let none : c.args.plan.second ≡ None = search rules in
    rw none c.put_short_rows.ensures.rows

pub returns-in-None-clause-json : goal.returns-in-None-clause-json
returns-in-None-clause-json c =
    let none : c.args.plan.second ≡ None = search rules in
    rw none c.put_short_rows.ensures.json

pub returns-in-Some-clause-json : goal.returns-in-Some-clause-json
returns-in-Some-clause-json c = adds_none (columns_in c.args.columns) (row_shape c.args.plan) _ c.args.rows_data.now
