use Rattle.std.proofs.Common.{◌≡◌, drop}
use Rattle.rows_table_map.specs.ColumnViews.{remaining_columns, table_map_columns}
use Rattle.table_schemas.specs.SchemaFits.{first_other_type}
use Rattle.table_schemas.proofs.fits.first_difference.Given as goal

abbrev pub invariant-loop-index : goal.invariant-loop-index
invariant-loop-index l = first_other_type l.index (drop l.index l.columns) (remaining_columns l.metas) ≡ first_other_type 0 l.columns (table_map_columns l.map)
