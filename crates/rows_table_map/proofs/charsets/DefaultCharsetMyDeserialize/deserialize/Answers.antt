use Rattle.rows_table_map.proofs.FieldLemmas.{default_if_ok, default_if_err}
use Rattle.rows_table_map.proofs.charsets.DefaultCharsetMyDeserialize.deserialize.Goals as goal

pub returns-clause-ok : goal.returns-clause-ok
returns-clause-ok c = rw (c.eat_all.ensures.rest) (default_if_ok _ _ (rw c.eat_all.ensures.value at c.of_value.ensures))

pub returns-clause-err : goal.returns-clause-err
returns-clause-err c = default_if_err _ _ (rw c.eat_all.ensures.value at c.of_value.ensures)
