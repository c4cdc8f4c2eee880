use Rattle.std.proofs.Common.{◌≡◌, ◌++◌, map, Some}
use Rattle.std.specs.Prelude.{All, IsSome}
use Rattle.std.specs.Vec.Iter.{into_iter_items}
use Rattle.rows_event_body.specs.OwnedRows.{row_values}
use Rattle.rows_event_body.proofs.binlog_row.BinlogRow.unwrap.Given as goal

-- the values so far, and the remaining ones, are all values, and none of the latter was taken
abbrev pub invariant-loop-value : goal.invariant-loop-value
invariant-loop-value l = record {
  values_are : map Some l.values.items ++ into_iter_items l.value-iterator ≡ row_values l.fn.self;
  none_taken : All IsSome (into_iter_items l.value-iterator);
}
