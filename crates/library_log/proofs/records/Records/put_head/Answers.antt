use Rattle.std.proofs.Common.{sym}
use Rattle.events_frames.specs.Headers.{event_header_of}
use Rattle.library_log.specs.RecordedTransactions.{begin_in}
use Rattle.library_log.proofs.GtidTextLemmas.{head_appended}
use Rattle.library_log.proofs.LayoutLemmas.{ok_then}
use Rattle.library_log.proofs.records.Records.put_head.Goals as goal

pub returns-clause-head : goal.returns-clause-head
returns-clause-head c = ok_then c.put_text.result (λ wrote t done.
    head_appended (begin_in c.args.newest.now) t _ (event_header_of c.commit_header.result) _ _ _ _ _ _ _ (c.commit_header.ensures t done) (c.gtid.ensures t (c.transaction.ensures t done)) (rw c.begin_position.ensures at c.in_ok-put_numbers.ensures.appended) (rw c.begin_position.ensures at c.in_ok-put_numbers.ensures.small) c.clear.ensures c.in_ok-put_gtid.ensures c.as_slice.ensures
    (record { null = c.gtid_in.ensures.null; string = c.gtid_in.ensures.string; object = c.gtid_in.ensures.object }) wrote c.put_text.ensures.small) c.put_text.ensures.appended
