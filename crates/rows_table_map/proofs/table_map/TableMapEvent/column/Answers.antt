use Rattle.std.proofs.Common.{◌≡◌, sym, ◌∙◌, arith}
use Rattle.rows_table_map.specs.ColumnViews.{column_meta_view, remaining_columns, table_map_columns}
use Rattle.rows_table_map.proofs.ColumnLemmas.{past_end, one_dropped, column_taken}
use Rattle.rows_table_map.proofs.table_map.TableMapEvent.column.Goals as goal

pub returns-in-None : goal.returns-in-None
returns-in-None c = sym (past_end (table_map_columns c.args.self.now) c.loop.counter c.args.index (c.loop.invariant ∙ c.in-None.ensures.0) (omega arith))

pub loop-preserved : goal.loop-preserved
loop-preserved c = one_dropped (table_map_columns c.args.self.now) c.loop.counter (column_meta_view c.in-Some.field-0) (remaining_columns c.next_column.new.self) (c.loop.invariant ∙ c.in-Some.ensures)

pub returns : goal.returns
returns c =
    let e : c.loop.counter ≡ c.args.index = omega arith in
    column_taken (table_map_columns c.args.self.now) c.loop.counter c.args.index c.loop.columns c.next_column-2.result c.next_column-2.new.self e c.loop.invariant c.next_column-2.ensures
