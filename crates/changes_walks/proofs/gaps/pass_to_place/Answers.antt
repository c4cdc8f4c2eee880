use Rattle.std.proofs.Common.{◌≡◌, ap, length, subst, sym, ◌∙◌}
use Rattle.wire_buf.specs.Watched.{inner_of, reads_of}
use Rattle.events_frames.specs.Sources.{event_of, waiting_of}
use Rattle.events_frames.specs.Events.{has_event}
use Rattle.events_frames.proofs.SourceLemmas.{sizes}
use Rattle.events_frames.proofs.LoopLemmas.{fewer_to_come, shorter}
use Rattle.feed_checks.specs.EventFields.{Event}
use Rattle.changes_walks.specs.Gaps.{place_of}
use Rattle.changes_walks.specs.declared.gaps.Place.TheVariants.{Before, After}
use Rattle.changes_walks.proofs.GapLemmas.{after_is, before_is, neither_is, passes_at_first, so_far_after, so_far_before, so_far_ended, so_far_more}
use Rattle.changes_walks.proofs.gaps.pass_to_place.Goals as goal

pub loop-fault-init : goal.loop-fault-init
loop-fault-init g c = λ b next. passes_at_first c.args.has_begun b c.args.start _ _ next

pub returns-in-Ok-Ended : goal.returns-in-Ok-Ended
returns-in-Ok-Ended g c = λ b next.
    so_far_ended c.args.has_begun b c.args.start (waiting_of c.loop-fault.source) (g.R.Read.remaining (inner_of c.loop-fault.reader)) c.loop-fault.offset (c.loop-fault.invariant b next)
    (waiting_of c.next_frame.new.self) (event_of c.next_frame.new.self) (g.R.Read.remaining (inner_of c.next_frame.new.reader)) (rw c.in-Ok-Ended.field-0-is at c.in-Ok-Ended.ensures.ok)

pub returns-in-Before : goal.returns-in-Before
returns-in-Before g c = λ b next.
    let is = before_is c.args.has_begun (event_of c.next_frame.new.self) (subst (λ (e : Event). place_of c.args.has_begun e ≡ Before) c.event-event.ensures (sym c.place_of-place.ensures ∙ c.in-Before.is)) in
    so_far_before c.args.has_begun b c.args.start (waiting_of c.loop-fault.source) (g.R.Read.remaining (inner_of c.loop-fault.reader)) c.loop-fault.offset (c.loop-fault.invariant b next)
    (event_of c.next_frame.new.self) (waiting_of c.next_frame.new.self) (g.R.Read.remaining (inner_of c.next_frame.new.reader)) (rw c.in-Ok-Event.field-0-is at c.in-Ok-Event.ensures.ok) is.0 is.1

pub returns-in-After : goal.returns-in-After
returns-in-After g c = λ b next.
    let is = after_is c.args.has_begun (event_of c.next_frame.new.self) (subst (λ (e : Event). place_of c.args.has_begun e ≡ After) c.event-event.ensures (sym c.place_of-place.ensures ∙ c.in-After.is)) in
    so_far_after c.args.has_begun b c.args.start (waiting_of c.loop-fault.source) (g.R.Read.remaining (inner_of c.loop-fault.reader)) c.loop-fault.offset (c.loop-fault.invariant b next)
    (event_of c.next_frame.new.self) (waiting_of c.next_frame.new.self) (g.R.Read.remaining (inner_of c.next_frame.new.reader)) (rw c.in-Ok-Event.field-0-is at c.in-Ok-Event.ensures.ok) is
    c.saturating_add-offset.result (rw c.event-event.ensures at c.saturating_add-offset.ensures)

pub loop-fault-smaller : goal.loop-fault-smaller
loop-fault-smaller g c =
    let s = c.next_frame.new.self in
    let frame = rw c.in-Ok-Event.field-0-is at c.in-Ok-Event.ensures.ok in
    let long = (sizes (event_of s) frame.is.whole).0 in
    fewer_to_come _ _ (length (waiting_of c.loop-fault.source)) (length (waiting_of s)) (has_event (waiting_of c.loop-fault.source))
    (λ h. (ap reads_of (c.next_frame.ensures.unread h), shorter _ (event_of s) (waiting_of s) (c.next_frame.ensures.at_hand h).1 long)) (λ h. (c.in-Ok-Event.ensures.counted h, c.in-Ok-Event.ensures.limited h)) c.next_frame.ensures.sized

pub loop-fault-preserved : goal.loop-fault-preserved
loop-fault-preserved g c = λ b next.
    let place : c.place_of-place.result ≡ place_of c.args.has_begun (event_of c.next_frame.new.self) = c.place_of-place.ensures ∙ ap (place_of c.args.has_begun) c.event-event.ensures in
    let is = neither_is c.args.has_begun (event_of c.next_frame.new.self) (λ h. c.in_default.not-Before (place ∙ h)) (λ h. c.in_default-place.not-After (place ∙ h)) in
    so_far_more c.args.has_begun b c.args.start (waiting_of c.loop-fault.source) (g.R.Read.remaining (inner_of c.loop-fault.reader)) c.loop-fault.offset (c.loop-fault.invariant b next)
    (event_of c.next_frame.new.self) (waiting_of c.next_frame.new.self) (g.R.Read.remaining (inner_of c.next_frame.new.reader)) (rw c.in-Ok-Event.field-0-is at c.in-Ok-Event.ensures.ok) is.0 is.1
    c.saturating_add-offset.result (rw c.event-event.ensures at c.saturating_add-offset.ensures)
