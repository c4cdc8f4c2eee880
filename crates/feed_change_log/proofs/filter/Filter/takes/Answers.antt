use Rattle.std.proofs.Common.{◌∙◌}
use Rattle.feed_change_log.proofs.FilterLemmas.{rows_taken}
use Rattle.feed_change_log.proofs.filter.Filter.takes.Goals as goal

pub returns-in-Rows : goal.returns-in-Rows
returns-in-Rows c change h =
    c.takes_table.ensures
    ∙ rows_taken c.args.self.now c.in-Rows.rows c.database.result.now c.table.result.now c.database.ensures c.table.ensures change.content (rw c.in-Rows.is at h.content)
