use Rattle.std.proofs.Common.{◌≡◌, ◌++◌, map}
use Rattle.std.specs.declared.result.Result.TheVariants.{Ok}
use Rattle.std.specs.Vec.Iter.{into_iter_items}
use Rattle.rows_event_body.specs.OwnedRows.{row_values}
use Rattle.rows_event_body.specs.PlainRows.{plain_cell}
use Rattle.rows_event_body.proofs.binlog_row.BinlogRow.into_row.Given as goal

-- the plain values so far, and those of the remaining values, are the plain ones of all values
abbrev pub invariant-loop-value : goal.invariant-loop-value
invariant-loop-value l = map plain_cell (row_values l.fn.self) ≡ map Ok l.plain.items ++ map plain_cell (into_iter_items l.value-iterator)
