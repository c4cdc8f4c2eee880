use Rattle.mysql_binlog_rows.proofs.EqualFieldLemmas.{fields_decide}
use Rattle.mysql_binlog_rows.proofs.table_map_laws.equal_fields_are_the_same.Goals as goal

pub returns : goal.returns
returns c = fields_decide
