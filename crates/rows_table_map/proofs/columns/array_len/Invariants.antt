use Rattle.std.proofs.Common.{◌≡◌, drop}
use Rattle.rows_table_map.specs.ColumnMetadata.{array_size}
use Rattle.rows_table_map.proofs.ArrayLemmas.{size_after}
use Rattle.rows_table_map.proofs.columns.array_len.Given as goal

-- the size of the rest, after what was passed, gives the size of all
abbrev pub invariant-loop-depth : goal.invariant-loop-depth
invariant-loop-depth l = size_after l.depth (array_size (drop l.depth l.bytes)) ≡ array_size l.bytes
