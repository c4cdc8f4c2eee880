use Rattle.events_frames.specs.Headers.{event_header_of}
use Rattle.library_log.proofs.HeadLemmas.{head_begun, place_begun}
use Rattle.library_log.proofs.LayoutLemmas.{ok_then}
use Rattle.library_log.proofs.records.put_numbers.Goals as goal

pub returns-clause-appended : goal.returns-clause-appended
returns-clause-appended c = ok_then c.put_word-4.result (λ wrote.
    head_begun c.args.out.now.items c.put_half.new.out.items c.put_half-2.new.out.items c.put_word.new.out.items c.put_word-2.new.out.items c.put_word-3.new.out.items c.put_word-4.new.out.items c.args.begin (event_header_of c.args.header) c.in_ok-put_half.ensures.appended c.in_ok-put_half-2.ensures.appended c.in_ok-put_word.ensures.appended c.in_ok-put_word-2.ensures.appended c.in_ok-put_word-3.ensures.appended
    (place_begun c.put_word-3.new.out.items c.put_half-3.new.out.items c.put_half-4.new.out.items c.put_half-5.new.out.items c.put_half-6.new.out.items c.put_word-4.new.out.items c.args.begin c.log_pos.result c.timestamp.result c.server_id.result (event_header_of c.args.header) c.log_pos.ensures c.timestamp.ensures c.server_id.ensures c.in_ok-put_half-3.ensures.appended c.in_ok-put_half-4.ensures.appended c.in_ok-put_half-5.ensures.appended c.in_ok-put_half-6.ensures.appended wrote)) c.put_word-4.ensures.appended
