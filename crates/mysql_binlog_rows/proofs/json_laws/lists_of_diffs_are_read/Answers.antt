use Rattle.rows_jsonb.specs.JsonDiffs.{IsDiff, diff_at}
use Rattle.rows_jsonb.proofs.DiffLemmas.{diff-complete, diff-sound, diff-shrinks}
use Rattle.rows_jsonb.proofs.ItemLemmas.{items-found, items-only}
use Rattle.mysql_binlog_rows.proofs.json_laws.lists_of_diffs_are_read.Goals as goal

pub returns-clause-found : goal.returns-clause-found
returns-clause-found c bytes = items-found IsDiff diff_at diff-complete diff-sound diff-shrinks bytes

pub returns-clause-only : goal.returns-clause-only
returns-clause-only c found bytes h = items-only IsDiff diff_at diff-complete diff-sound diff-shrinks found bytes h
