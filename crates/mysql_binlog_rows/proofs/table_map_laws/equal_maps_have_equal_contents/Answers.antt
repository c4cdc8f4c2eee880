use Rattle.rows_table_map.proofs.MapLawLemmas.{maps_decide}
use Rattle.mysql_binlog_rows.proofs.table_map_laws.equal_maps_have_equal_contents.Goals as goal

pub returns : goal.returns
returns c = maps_decide
