use Rattle.std.proofs.Common.{refl}
use Rattle.mysql_binlog_rows.proofs.Computed.{computed}
use Rattle.rows_values.proofs.UnpackLemmas.{no_hundred}
use Rattle.mysql_binlog_rows.proofs.value_laws.worked_decimals.Goals as goal

pub returns-clause-positive : goal.returns-clause-positive
unfolding computed
returns-clause-positive c = refl

pub returns-clause-negative : goal.returns-clause-negative
unfolding computed
returns-clause-negative c = refl

pub returns-clause-half : goal.returns-clause-half
unfolding computed
returns-clause-half c = refl

pub returns-clause-taken : goal.returns-clause-taken
unfolding computed
returns-clause-taken c = refl

pub returns-clause-negative_zero : goal.returns-clause-negative_zero
unfolding computed
returns-clause-negative_zero c = refl

pub returns-clause-hundred_failed : goal.returns-clause-hundred_failed
returns-clause-hundred_failed c = no_hundred

pub returns-clause-exponent_failed : goal.returns-clause-exponent_failed
unfolding computed
returns-clause-exponent_failed c = refl

pub returns-clause-point_alone_failed : goal.returns-clause-point_alone_failed
unfolding computed
returns-clause-point_alone_failed c = refl

pub returns-clause-two_points_failed : goal.returns-clause-two_points_failed
unfolding computed
returns-clause-two_points_failed c = refl

pub returns-clause-negative_zero_text : goal.returns-clause-negative_zero_text
unfolding computed
returns-clause-negative_zero_text c = refl

pub returns-clause-no_digits_left : goal.returns-clause-no_digits_left
unfolding computed
returns-clause-no_digits_left c = refl
