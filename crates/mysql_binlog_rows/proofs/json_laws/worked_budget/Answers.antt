use Rattle.std.proofs.Common.{refl}
use Rattle.rows_jsonb.specs.DocumentTrees.{tree_of}
use Rattle.mysql_binlog_rows.proofs.json_laws.worked_budget.Goals as goal

pub returns-clause-four_bytes : goal.returns-clause-four_bytes
returns-clause-four_bytes c = refl

pub returns-clause-four : goal.returns-clause-four
unfolding tree_of
returns-clause-four c = refl

pub returns-clause-five_bytes : goal.returns-clause-five_bytes
returns-clause-five_bytes c = refl

pub returns-clause-five : goal.returns-clause-five
unfolding tree_of
returns-clause-five c = refl
