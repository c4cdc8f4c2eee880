use Rattle.events_frames.specs.Headers.{event_header_of}
use Rattle.library_log.proofs.ElementLemmas.{change_begun}
use Rattle.library_log.proofs.LayoutLemmas.{ok_then}
use Rattle.library_log.proofs.records.begin_change.Goals as goal

pub returns-clause-appended : goal.returns-clause-appended
returns-clause-appended c = ok_then c.put_half-4.result (λ wrote.
    change_begun c.args.out.now.items c.put_half.new.out.items c.put_half-2.new.out.items c.put_word.new.out.items c.put_half-3.new.out.items c.put_half-4.new.out.items c.args.kind c.args.table c.timestamp.result c.log_pos.result (event_header_of c.args.header) c.timestamp.ensures c.log_pos.ensures c.in_ok-put_half.ensures.appended c.in_ok-put_half-2.ensures.appended c.in_ok-put_word.ensures.appended c.in_ok-put_half-3.ensures.appended wrote) c.put_half-4.ensures.appended
