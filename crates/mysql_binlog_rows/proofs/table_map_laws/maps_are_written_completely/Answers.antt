use Rattle.rows_table_map.proofs.MapLawLemmas.{map_whole}
use Rattle.mysql_binlog_rows.proofs.table_map_laws.maps_are_written_completely.Goals as goal

pub returns : goal.returns
returns c = map_whole
