use Rattle.std.proofs.Common.{refl}
use Rattle.std.specs.Fmt.{digits}
use Rattle.rows_values.specs.TimeTexts.{padded_decimal, two_digits, micros_text, after_hour, span_text}
use Rattle.mysql_binlog_rows.proofs.value_laws.worked_time.Goals as goal

pub returns-clause-text_of_six_digits : goal.returns-clause-text_of_six_digits
unfolding padded_decimal two_digits micros_text after_hour span_text digits
returns-clause-text_of_six_digits c = refl

pub returns-clause-text : goal.returns-clause-text
unfolding padded_decimal two_digits micros_text after_hour span_text digits
returns-clause-text c = refl
