use Rattle.std.proofs.Common.{refl}
use Rattle.rows_jsonb.specs.DocumentTrees.{tree_of}
use Rattle.mysql_binlog_rows.proofs.json_laws.worked_pointer.Goals as goal

pub returns : goal.returns
unfolding tree_of
returns c = refl
