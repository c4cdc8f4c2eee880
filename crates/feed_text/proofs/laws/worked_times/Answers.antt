use Rattle.std.proofs.Common.{refl, ap, ◌∙◌}
use Rattle.std.specs.Fmt.{digits}
use Rattle.feed_writers.specs.TimesOfDay.{clock_text}
use Rattle.feed_text.specs.Times.{span_text}
use Rattle.feed_text.specs.ValueText.{value_text}
use Rattle.rows_values.specs.TimeTexts.{padded_decimal}
use Rattle.feed_text.proofs.WorkedLemmas.{worked_date, worked_date_text}
use Rattle.feed_text.proofs.laws.worked_times.Goals as goal

pub returns-clause-time : goal.returns-clause-time
unfolding padded_decimal value_text digits span_text clock_text
returns-clause-time c = refl

pub returns-clause-date_and_time : goal.returns-clause-date_and_time
returns-clause-date_and_time c = ap value_text worked_date ∙ worked_date_text
