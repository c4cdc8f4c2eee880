use Rattle.std.proofs.Common.{take}
use Rattle.std.specs.List.{AllZip}
use Rattle.rows_values.specs.RowValues.{SameCell}
use Rattle.rows_values.proofs.rows.row.Row.clone.Given as goal

-- the first values have their copies
abbrev pub invariant-loop-value : goal.invariant-loop-value
invariant-loop-value l = AllZip SameCell (take l.value-index l.value-items) l.values.items
