use Rattle.std.proofs.Common.{ap, ◌∙◌, arith}
use Rattle.events_frames.specs.Headers.{event_header_of}
use Rattle.library_log.specs.RecordLayouts.{rows_kind}
use Rattle.library_log.proofs.ElementLemmas.{rows_added}
use Rattle.library_log.proofs.RowLemmas.{event_counted}
use Rattle.library_log.proofs.records.Records.put_rows.Goals as goal

pub returns-clause-added : goal.returns-clause-added
returns-clause-added c = λ m r is.
    let counted = event_counted m r _ _ c.in-Ok.count (c.row_plan-plan.ensures m r is) (c.rows_data-rows_data.ensures m r is) c.in-Ok.ensures.count in
    (counted, rows_added _ _ _ _ _ _ _ _ _ _ _ c.in-Ok.count (event_header_of c.args.header) m r c.in_ok-put.ensures.appended (c.len-start.ensures ∙ c.put.new.out.ok.0) c.set_word.new.out.ok.0 (c.kind_of.ensures ∙ ap rows_kind (c.images.ensures m r is)) c.in_ok-begin_change.ensures.appended c.in_ok-put_word.ensures.appended c.in-Ok.ensures.appended c.set_word.ensures.written c.set_len.ensures.written c.in_ok-begin_change.ensures.small (omega arith) (omega arith) counted)
