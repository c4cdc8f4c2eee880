use Rattle.rows_jsonb.proofs.DiffLemmas.{diff-complete, diff-sound}
use Rattle.mysql_binlog_rows.proofs.json_laws.diffs_are_read.Goals as goal

pub returns : goal.returns
returns c d bytes rest = (
  (λ h. let b = diff-sound bytes d rest h in (b.bytes, b.joined, b.is)),
  (λ h. rw h.1 (diff-complete d h.0 rest rest h.2)),
)
