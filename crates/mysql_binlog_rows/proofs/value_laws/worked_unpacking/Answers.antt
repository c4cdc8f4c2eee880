use Rattle.std.proofs.Common.{refl}
use Rattle.mysql_binlog_rows.proofs.Computed.{computed}
use Rattle.mysql_binlog_rows.proofs.value_laws.worked_unpacking.Goals as goal

pub returns-clause-positive : goal.returns-clause-positive
unfolding computed
returns-clause-positive c = refl

pub returns-clause-negative : goal.returns-clause-negative
unfolding computed
returns-clause-negative c = refl

pub returns-clause-positive_text : goal.returns-clause-positive_text
unfolding computed
returns-clause-positive_text c = refl

pub returns-clause-negative_text : goal.returns-clause-negative_text
unfolding computed
returns-clause-negative_text c = refl

pub returns-clause-half_text : goal.returns-clause-half_text
unfolding computed
returns-clause-half_text c = refl

pub returns-clause-negative_zero_text : goal.returns-clause-negative_zero_text
unfolding computed
returns-clause-negative_zero_text c = refl

pub returns-clause-whole_zero_text : goal.returns-clause-whole_zero_text
unfolding computed
returns-clause-whole_zero_text c = refl

pub returns-clause-no_digits_text : goal.returns-clause-no_digits_text
unfolding computed
returns-clause-no_digits_text c = refl

pub returns-clause-hundred_failed : goal.returns-clause-hundred_failed
unfolding computed
returns-clause-hundred_failed c = refl

pub returns-clause-short_failed : goal.returns-clause-short_failed
unfolding computed
returns-clause-short_failed c = refl

pub returns-clause-long_failed : goal.returns-clause-long_failed
unfolding computed
returns-clause-long_failed c = refl

pub returns-clause-scale_failed : goal.returns-clause-scale_failed
unfolding computed
returns-clause-scale_failed c = refl
