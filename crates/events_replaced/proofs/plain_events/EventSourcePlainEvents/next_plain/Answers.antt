use Rattle.std.proofs.Common.{◌≡◌, true, take, sym, ◌∙◌}
use Rattle.wire_buf.specs.Watched.{inner_of, reads_of}
use Rattle.events_frames.specs.Events.{IsWholeEvent}
use Rattle.events_frames.specs.Sources.{event_of, waiting_of}
use Rattle.events_replaced.specs.PlainEvents.{is_plain}
use Rattle.events_replaced.proofs.PlainLemmas.{at_hand, fewer_to_come, plain_taken, whole_event}
use Rattle.events_replaced.proofs.plain_events.EventSourcePlainEvents.next_plain.Goals as goal

pub returns-in-Ok-Event-clause-given : goal.returns-in-Ok-Event-clause-given
returns-in-Ok-Event-clause-given g c taken =
    let s = c.args.self.now in
    let t = c.next_frame.new.self in
    let left = g.R.Read.remaining (inner_of c.args.reader.now) in
    let left_then = g.R.Read.remaining (inner_of c.next_frame.new.reader) in
    let len = c.in-Some.len in
    let whole : IsWholeEvent (take len (waiting_of s)) = rw c.waiting-waiting.ensures.waiting at c.in-Some.ensures.some.1 in
    let plain : is_plain (take len (waiting_of s)) ≡ true = rw (c.split_at.ensures.front, c.waiting-waiting.ensures.waiting) at (sym c.is_plain.ensures ∙ c.if-not-is_plain.false) in
    let hand = at_hand s t left left_then len c.next_frame.result whole in
    let is = c.next_frame.ensures.at_hand hand in
    let event = whole_event s t left left_then len c.next_frame.result whole is.0 c.next_frame.ensures.ok in
    rw (c.next_frame.ensures.unread hand) (plain_taken s t left left_then len c.next_frame.result whole plain is.1 event)

pub returns-in-Ok-Event-clause-counted : goal.returns-in-Ok-Event-clause-counted
returns-in-Ok-Event-clause-counted g c taken =
    let s = c.args.self.now in
    let t = c.next_frame.new.self in
    let left = g.R.Read.remaining (inner_of c.args.reader.now) in
    let left_then = g.R.Read.remaining (inner_of c.next_frame.new.reader) in
    let len = c.in-Some.len in
    let whole : IsWholeEvent (take len (waiting_of s)) = rw c.waiting-waiting.ensures.waiting at c.in-Some.ensures.some.1 in
    let hand = at_hand s t left left_then len c.next_frame.result whole in
    let is = c.next_frame.ensures.at_hand hand in
    let event = whole_event s t left left_then len c.next_frame.result whole is.0 c.next_frame.ensures.ok in
    rw (c.next_frame.ensures.unread hand) (fewer_to_come s t left (event_of t) event is.1 (reads_of c.args.reader.now))
