use Rattle.std.proofs.Common.{refl, sym, ◌∙◌}
use Rattle.std.proofs.lemmas.Result.{err_from_is_err_and}
use Rattle.wire_buf.specs.Watched.{inner_of, has_failed}
use Rattle.events_replaced.proofs.UnpackLemmas.{no_events}
use Rattle.events_replaced.proofs.StateLemmas.{fewer_calls}
use Rattle.events_replaced.specs.XaEventStates.{xa_of}
use Rattle.events_replaced.specs.XaSteps.{HasFault, role_in}
use Rattle.events_replaced.specs.XaTransactionStates.{content_of, fault_in, state_of}
use Rattle.events_replaced.proofs.XaStepLemmas.{moved, passed_one, kept_none}
use Rattle.events_replaced.proofs.XaGivenLemmas.{some_fault, to_end, to_error, to_own, to_failed, to_within, to_nothing, to_memory}
use Rattle.events_replaced.proofs.xa_events.XaEvents.next_own.Goals as goal

pub returns-in-Ok-Ended-clause-ok : goal.returns-in-Ok-Ended-clause-ok
returns-in-Ok-Ended-clause-ok g c =
    let i = c.loop-self.invariant in
    to_end _ _ _ (xa_of c.loop-self.self) c.loop-self.self.log_pos _ i.none i.gives _ _ (rw c.in-Ok-Ended.field-0-is at c.in-Ok-Ended.ensures.ok)

pub returns-in-Err-clause-err : goal.returns-in-Err-clause-err
returns-in-Err-clause-err g c =
    let i = c.loop-self.invariant in
    rw c.after-self.ensures (to_error _ _ _ (xa_of c.loop-self.self) c.loop-self.self.log_pos _ i.none i.gives _ _ _ _ _ c.in-Err.fault c.in-Err.ensures.err)

pub returns-then-passes_at_once-clause-ok : goal.returns-then-passes_at_once-clause-ok
returns-then-passes_at_once-clause-ok g c =
    let i = c.loop-self.invariant in
    let frame = rw c.in-Ok-Event.field-0-is at c.in-Ok-Event.ensures.ok in
    let once = rw c.event-event.ensures at (c.passes_at_once.ensures (rw c.if-passes_at_once.true refl)) in
    to_own _ _ _ (xa_of c.loop-self.self) c.loop-self.self.log_pos _ i.none i.gives _ _ frame (xa_of c.loop-self.self) c.loop-self.self.log_pos once.0 (sym once.1) _ i.none

pub returns-then-passes-clause-ok : goal.returns-then-passes-clause-ok
returns-then-passes-clause-ok g c =
    let i = c.loop-self.invariant in
    let frame = rw c.in-Ok-Event.field-0-is at c.in-Ok-Event.ensures.ok in
    let role = rw c.event-event.ensures at c.role_of-role.ensures in
    let own = rw role at (sym c.passes.ensures.passes ∙ c.if-passes.true) in
    let is = rw (role, c.event-event.ensures) at (c.passes.ensures.passed (rw c.if-passes.true refl)) in
    to_own _ _ _ (xa_of c.loop-self.self) c.loop-self.self.log_pos _ i.none i.gives _ _ frame (state_of c.passes.new.self) c.loop-self.self.log_pos own is _ (rw c.passes.ensures.content i.none)

pub returns-then-not-take-clause-ok : goal.returns-then-not-take-clause-ok
returns-then-not-take-clause-ok g c =
    let i = c.loop-self.invariant in
    let frame = rw c.in-Ok-Event.field-0-is at c.in-Ok-Event.ensures.ok in
    let role = rw c.event-event.ensures at c.role_of-role.ensures in
    let taken = rw role at (sym c.passes.ensures.passes ∙ c.if-passes.false) in
    let same = c.passes.ensures.state (rw c.if-passes.false refl) in
    let event = g.S.Events.newest c.next_frame.new.self in
    let fault = some_fault (fault_in c.take.new.self) (HasFault (xa_of c.loop-self.self) (role_in (xa_of c.loop-self.self) event) event) (rw (same, role, c.event-event.ensures) at (c.take.ensures.fault (rw c.if-not-take.true refl))) in
    to_failed _ _ _ (xa_of c.loop-self.self) c.loop-self.self.log_pos _ i.none i.gives _ _ frame (state_of c.take.new.self) c.loop-self.self.log_pos taken fault.0 fault.1 (c.take.ensures.failed (rw c.if-not-take.true refl)) _ (no_events (content_of c.take.new.self) c.loop-self.self.given (c.take.ensures.none (rw c.if-not-take.true refl)))

pub returns-in_err-pass_made-clause-err : goal.returns-in_err-pass_made-clause-err
returns-in_err-pass_made-clause-err g c =
    let i = c.loop-self.invariant in
    let frame = rw c.in-Ok-Event.field-0-is at c.in-Ok-Event.ensures.ok in
    let role = rw c.event-event.ensures at c.role_of-role.ensures in
    let taken = rw role at (sym c.passes.ensures.passes ∙ c.if-passes.false) in
    let same = c.passes.ensures.state (rw c.if-passes.false refl) in
    let is = rw (same, role, c.event-event.ensures) at (c.take.ensures.taken (rw c.if-not-take.false refl)) in
    let place = rw c.event-event.ensures at c.log_pos-self.ensures in
    let e = err_from_is_err_and c.from_residual.result c.from_residual.ensures.1 in
    rw e.1 (kept_none g.S.Events.MayGive g.S.Events.newest g.S.Events.at_hand _ c.pass_made.new.self _ _ c.in_err-pass_made.ensures.err i.newest (has_failed c.next_frame.new.reader) e.0
    (rw e.2 (to_memory _ _ _ (xa_of c.loop-self.self) c.loop-self.self.log_pos _ i.none i.gives _ _ frame (state_of c.take.new.self) c.log_pos-self.result taken place (content_of c.take.new.self) is (has_failed c.next_frame.new.reader))))

pub returns-then-branch-clause-ok : goal.returns-then-branch-clause-ok
returns-then-branch-clause-ok g c =
    let i = c.loop-self.invariant in
    let frame = rw c.in-Ok-Event.field-0-is at c.in-Ok-Event.ensures.ok in
    let role = rw c.event-event.ensures at c.role_of-role.ensures in
    let taken = rw role at (sym c.passes.ensures.passes ∙ c.if-passes.false) in
    let same = c.passes.ensures.state (rw c.if-passes.false refl) in
    let is = rw (same, role, c.event-event.ensures) at (c.take.ensures.taken (rw c.if-not-take.false refl)) in
    let place = rw c.event-event.ensures at c.log_pos-self.ensures in
    let passes = rw c.if-branch.true at c.in_ok-pass_made.ensures.ok in
    passed_one g.S.Events.MayGive g.S.Events.newest g.S.Events.at_hand _ c.pass_made.new.self _ _ passes
    (to_within _ _ _ (xa_of c.loop-self.self) c.loop-self.self.log_pos _ i.none i.gives _ _ frame (state_of c.take.new.self) c.log_pos-self.result taken place (content_of c.take.new.self) is passes.event _ passes.begins passes.whole passes.few)

pub loop-self-preserved : goal.loop-self-preserved
loop-self-preserved g c =
    let i = c.loop-self.invariant in
    let frame = rw c.in-Ok-Event.field-0-is at c.in-Ok-Event.ensures.ok in
    let role = rw c.event-event.ensures at c.role_of-role.ensures in
    let taken = rw role at (sym c.passes.ensures.passes ∙ c.if-passes.false) in
    let same = c.passes.ensures.state (rw c.if-passes.false refl) in
    let is = rw (same, role, c.event-event.ensures) at (c.take.ensures.taken (rw c.if-not-take.false refl)) in
    let place = rw c.event-event.ensures at c.log_pos-self.ensures in
    let passes = rw c.if-branch.false at c.in_ok-pass_made.ensures.ok in
    record {
      gives = λ b h.
          to_nothing _ _ _ (xa_of c.loop-self.self) c.loop-self.self.log_pos _ i.none i.gives _ _ frame (state_of c.take.new.self) c.log_pos-self.result taken place (content_of c.take.new.self) is _ passes.none passes.end b
          (moved g.S.Events.MayGive _ c.pass_made.new.self (g.R.Read.remaining (inner_of c.next_frame.new.reader)) passes.keeps b h);
      none = passes.end;
      newest = passes.newest ∙ i.newest;
      counted = rw passes.keeps.source (fewer_calls c.in-Ok-Event.ensures.counted i.counted);
    }
