use Rattle.std.proofs.Common.{refl}
use Rattle.rows_jsonb.specs.DocumentTrees.{tree_of}
use Rattle.mysql_binlog_rows.proofs.json_laws.worked_depth.Goals as goal

pub returns-clause-hundred_bytes : goal.returns-clause-hundred_bytes
returns-clause-hundred_bytes c = refl

pub returns-clause-hundred : goal.returns-clause-hundred
unfolding tree_of
returns-clause-hundred c = refl

pub returns-clause-more : goal.returns-clause-more
unfolding tree_of
returns-clause-more c = refl
