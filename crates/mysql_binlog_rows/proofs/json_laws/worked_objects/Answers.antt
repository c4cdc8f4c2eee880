use Rattle.std.proofs.Common.{refl}
use Rattle.std.specs.Str.{is_utf8, chars}
use lib.Utf8.{encode}
use Rattle.rows_jsonb.specs.DocumentTrees.{tree_of}
use Rattle.mysql_binlog_rows.proofs.json_laws.worked_objects.Goals as goal

pub returns-clause-null_member : goal.returns-clause-null_member
unfolding tree_of is_utf8 chars encode
returns-clause-null_member c = refl

pub returns-clause-last_wins : goal.returns-clause-last_wins
unfolding tree_of is_utf8 chars encode
returns-clause-last_wins c = refl

pub returns-clause-no_bytes : goal.returns-clause-no_bytes
unfolding tree_of
returns-clause-no_bytes c = refl
