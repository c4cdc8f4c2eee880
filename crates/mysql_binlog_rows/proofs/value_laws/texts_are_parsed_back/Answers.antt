use Rattle.rows_values.proofs.TextLemmas.{text_back}
use Rattle.mysql_binlog_rows.proofs.value_laws.texts_are_parsed_back.Goals as goal

pub returns : goal.returns
returns c = text_back
