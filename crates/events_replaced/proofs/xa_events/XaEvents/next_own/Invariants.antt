use Rattle.std.proofs.Common.{◌≡◌, ◌≤◌, ℕ, false, List}
use Rattle.wire_buf.specs.Watched.{inner_of, reads_of}
use Rattle.events_frames.specs.Events.{has_event}
use Rattle.events_replaced.specs.XaEventStates.{content_left, GivesBy, HasNone}
use Rattle.events_replaced.proofs.xa_events.XaEvents.next_own.Given as goal

-- nothing was given in place of the events so far
abbrev pub invariant-loop-self : goal.invariant-loop-self
invariant-loop-self g l = record {
  gives : (b : List ℕ) → GivesBy g.S.Events.MayGive l.self (g.R.Read.remaining (inner_of l.reader)) b → GivesBy g.S.Events.MayGive l.fn.self (g.R.Read.remaining (inner_of l.fn.reader)) b;
  none : has_event (content_left l.self) ≡ false;
  newest : HasNone l.self;
  counted : g.S.Events.to_come l.self.source (reads_of l.reader) ≤ g.S.Events.to_come l.fn.self.source (reads_of l.fn.reader);
}

abbrev pub decreases-loop-self : goal.decreases-loop-self
decreases-loop-self g l = g.S.Events.to_come l.self.source (reads_of l.reader)
