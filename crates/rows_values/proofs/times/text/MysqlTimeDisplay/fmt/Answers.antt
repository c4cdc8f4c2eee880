use Rattle.std.proofs.Common.{rules}
use Rattle.std.proofs.Output.{has_written_styled_append, has_written_styled_of_eq}
use Rattle.rows_values.proofs.times.text.MysqlTimeDisplay.fmt.Goals as goal

pub returns-in_ok-put_date_and_time-in-MYSQL_TIMESTAMP_DATETIME_TZ-clause-styled :
    goal.returns-in_ok-put_date_and_time-in-MYSQL_TIMESTAMP_DATETIME_TZ-clause-styled
returns-in_ok-put_date_and_time-in-MYSQL_TIMESTAMP_DATETIME_TZ-clause-styled g c = λ flush done.
    let a = c.put_date_and_time-in-MYSQL_TIMESTAMP_DATETIME_TZ.ensures flush (search rules) in
    let b = c.put_zone.ensures a.flush done in
    has_written_styled_of_eq _ _ _ _ _ (search rules) (has_written_styled_append _ _ _ _ _ _ a b)
