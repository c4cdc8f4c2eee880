use Rattle.changes_writers.proofs.FloatLawLemmas.{float_number, float_read}
use Rattle.changes_writers.proofs.laws.floats_are_read_back.Goals as goal

pub returns-clause-float_numbers : goal.returns-clause-float_numbers
returns-clause-float_numbers c = λ bits text h t. float_number _ _ _ _ text h t

pub returns-clause-double_numbers : goal.returns-clause-double_numbers
returns-clause-double_numbers c = λ bits text h t. float_number _ _ _ _ text h t

pub returns-clause-floats : goal.returns-clause-floats
returns-clause-floats c = λ a b text s t. float_read _ _ _ _ _ text s t

pub returns-clause-doubles : goal.returns-clause-doubles
returns-clause-doubles c = λ a b text s t. float_read _ _ _ _ _ text s t
