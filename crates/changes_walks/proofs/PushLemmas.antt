-- What pushing an event does, by the walk of what was pushed.
use Rattle.std.proofs.Common.{◌≡◌, ℕ, Bool, true, false, true≢false, List, [], ◌∷◌, ◌++◌, Option, Some, None, refl, sym, ap, subst, ◌∙◌}
use Rattle.std.proofs.lemmas.List.{append-nil}
use Rattle.events_frames.specs.GivenEvents.{MayBe}
use Rattle.feed_checks.specs.EventFields.{Event}
use Rattle.feed_checks.specs.declared.verdict.Verdict.{Verdict}
use Rattle.feed_checks.specs.declared.verdict.Verdict.TheVariants as verdicts
use Rattle.feed_transactions.specs.Changes.{Committed}
use Rattle.feed_transactions.specs.Recorders.{HasOpen, Stays}
use Rattle.feed_transactions.specs.Rules.{Judge}
use Rattle.feed_change_log.specs.CommittedLists.{committed_left}
use Rattle.feed_change_log.specs.declared.filter.Filter.{Filter}
use Rattle.feed_change_log.specs.PushedLogs.{left_in, recorder_in, source_of, IsAfter}
use Rattle.feed_change_log.specs.declared.pushed_log.PushedLog.{PushedLog}
use Rattle.changes_commands.specs.declared.output.Failure.{Failure}
use Rattle.changes_walks.specs.LogWalks.{HasList, HasFailure}
use Rattle.changes_walks.specs.PushedWalks.{FailsAtLast, GivesEvents, PassesFirst, PassesGiven, PassesTo}
use Rattle.changes_walks.specs.Selections.{Selected, selected}
use Rattle.changes_walks.proofs.SelectionLemmas.{selected_none}
use Rattle.changes_walks.specs.FollowedAnswers.{in_log, is_heartbeat, Gives, HasAnswered, HasAnswerFailure, IsGiven, IsReady, LogTransaction, WantsLike}
use Rattle.changes_walks.specs.FollowedEnds.{EndsWithin, FailsWithin, PassesEvent}

gives_pushed : {E : Type 0} (judge : Judge) (MayGive : Gives E) (past : List Event) (source : E) (event given : List ℕ) (ts : List Committed) (past_then : List Event) (source_then : E) (b : Bool) → b ≡ false
    → GivesEvents judge past (MayGive source (Some event)) (MayGive source_then (Some [])) given ts past_then → IsGiven judge MayGive past source event given ts past_then source_then b
gives_pushed judge MayGive past source event given ts past_then source_then false is g = g
gives_pushed judge MayGive past source event given ts past_then source_then true is g = absurd (true≢false is)

gives_heartbeat : {E : Type 0} (judge : Judge) (MayGive : Gives E) (past : List Event) (source : E) (event : List ℕ) (b : Bool) → b ≡ true → IsGiven judge MayGive past source event [] [] past source b
gives_heartbeat judge MayGive past source event true is = (refl, refl, refl, refl)
gives_heartbeat judge MayGive past source event false is = absurd (true≢false (sym is))

-- what was pushed is the event, and the source is as it was
given_by : {E : Type 0} (judge : Judge) (MayGive : Gives E) (past : List Event) (a b : E) (x y : List ℕ) (New : MayBe) (given : List ℕ) (ts : List Committed) (past_then : List Event) → a ≡ b → x ≡ y
    → GivesEvents judge past (MayGive a (Some x)) New given ts past_then → GivesEvents judge past (MayGive b (Some y)) New given ts past_then
given_by judge MayGive past a b x y New given ts past_then source left g =
    subst (λ (z : _). GivesEvents judge past (MayGive z (Some y)) New given ts past_then) source (subst (λ (z : List ℕ). GivesEvents judge past (MayGive a (Some z)) New given ts past_then) left g)

may_by : {E : Type 0} (MayGive : Gives E) (a b : E) (x y bytes : List ℕ) → a ≡ b → x ≡ y → MayGive a (Some x) bytes → MayGive b (Some y) bytes
may_by MayGive a b x y bytes source left g = subst (λ (z : _). MayGive z (Some y) bytes) source (subst (λ (z : List ℕ). MayGive a (Some z) bytes) left g)

-- a sink that enters a log still wants what the recorder has
pub wants_pushed : {C E S : Type 0} (IsLike : C → C → Type 0) (Expects : S → Filter → C → Type 0) (f : Filter) (log pushed : PushedLog C E) (sink entered : S) → recorder_in pushed ≡ recorder_in log → ((f : Filter) (c : C) → Expects sink f c → Expects entered f c) → WantsLike IsLike Expects f sink (recorder_in log) → WantsLike IsLike Expects f entered (recorder_in pushed)
wants_pushed IsLike Expects f log pushed sink entered same enters wants newest stays = enters f newest (wants newest (subst (λ (x : _). Stays IsLike x newest) same stays))

none_more : (f : Filter) (name : List ℕ) (l : List LogTransaction) → l ++ in_log name (selected f []) ≡ l
none_more f name l = ap (λ (m : List Selected). l ++ in_log name m) (selected_none f) ∙ append-nil l

-- what a sink has at the end of a log
pub passes_map : {S : Type 0} (judge : Judge) (f : Filter) (past : List Event) (b : List ℕ) (A B : HasList S) (sink sink_then : S) (last : Option ℕ) → ((m : List Selected) → A sink m → B sink_then m) → (v : Verdict) → PassesTo judge A f [] past b sink last v → PassesTo judge B f [] past b sink_then last v
passes_map judge f past b A B sink sink_then last maps verdicts.Memory h = record { seen = h.seen; left = h.left; split = h.split; has = maps (selected f h.seen) h.has; last_is = h.last_is }
passes_map judge f past b A B sink sink_then last maps verdicts.Read h = record { seen = h.seen; left = h.left; split = h.split; has = maps (selected f h.seen) h.has; last_is = h.last_is }
passes_map judge f past b A B sink sink_then last maps v h = (maps (selected f (committed_left judge past b)) h.0, h.1, h.2)

module _ {C E S : Type 0} (IsOpen : HasOpen C) (judge : Judge) (f : Filter) (MayGive : Gives E) (Has : HasAnswered S) (name : List ℕ) (event : Event) (l : List LogTransaction) (acks : List ℕ) (past : List Event) where
  -- a heartbeat isn't pushed
  pub passes_heartbeat : (IsLike : C → C → Type 0) (Expects : S → Filter → C → Type 0) (log : PushedLog C E) (sink : S) → is_heartbeat event ≡ true → IsReady IsOpen IsLike Expects f past log sink → Has sink l acks → PassesEvent IsOpen IsLike Expects judge f MayGive Has name event l acks past (source_of log) log sink
  passes_heartbeat IsLike Expects log sink is ready has = record {
    given = [];
    transactions = [];
    past_then = past;
    gives = gives_heartbeat judge MayGive past (source_of log) event (is_heartbeat event) is;
    ready = ready;
    has = subst (λ (x : List LogTransaction). Has sink x acks) (sym (none_more f name l)) has;
  }

  -- memory ran out where the event was to be pushed
  pub ends_unpushed : (source : E) (sink : S) → is_heartbeat event ≡ false → (b : List ℕ) → MayGive source (Some event) b → Has sink l acks → EndsWithin judge f MayGive Has name event l acks past source sink
  ends_unpushed source sink is b may has = record {
    of_log = is;
    bytes = b;
    given = may;
    verdict = verdicts.Memory;
    last = None;
    passes = record { seen = []; left = committed_left judge past b; split = refl; has = subst (λ (x : List LogTransaction). Has sink x acks) (sym (none_more f name l)) has; last_is = refl };
  }

  module _ (All : HasList S) (source : E) (pushed log : PushedLog C E) (sink : S) (last : Option ℕ) (is : is_heartbeat event ≡ false) (source_is : source_of pushed ≡ source) (left_is : left_in pushed ≡ event) where
    -- the log waits for the next event
    pub passes_event : (IsLike : C → C → Type 0) (Expects : S → Filter → C → Type 0) → ((m : List Selected) → All sink m → Has sink (l ++ in_log name m) acks) → ((m : List Selected) → All sink m → WantsLike IsLike Expects f sink (recorder_in log)) → left_in log ≡ []
        → PassesGiven IsOpen judge All f [] past (MayGive (source_of pushed) (Some (left_in pushed))) (MayGive (source_of log) (Some (left_in log))) log sink last → PassesEvent IsOpen IsLike Expects judge f MayGive Has name event l acks past source log sink
    passes_event IsLike Expects adds wants read p = record {
      given = p.given;
      transactions = p.transactions;
      past_then = p.past_then;
      gives = gives_pushed judge MayGive past source event p.given p.transactions p.past_then (source_of log) (is_heartbeat event) is (
          given_by judge MayGive past (source_of pushed) source (left_in pushed) event (MayGive (source_of log) (Some [])) p.given p.transactions p.past_then source_is left_is (
          subst (λ (z : List ℕ). GivesEvents judge past (MayGive (source_of pushed) (Some (left_in pushed))) (MayGive (source_of log) (Some z)) p.given p.transactions p.past_then) read p.gives));
      ready = record { after = p.after; read = read; wants = wants (selected f p.transactions) p.has };
      has = adds (selected f p.transactions) p.has;
    }

    -- the log ended
    pub ends_event : ((m : List Selected) → All sink m → Has sink (l ++ in_log name m) acks) → (v : Verdict) → (b : List ℕ) × MayGive (source_of pushed) (Some (left_in pushed)) b × PassesTo judge All f [] past b sink last v → EndsWithin judge f MayGive Has name event l acks past source sink
    ends_event adds v h = record {
      of_log = is;
      bytes = h.0;
      given = may_by MayGive (source_of pushed) source (left_in pushed) event h.0 source_is left_is h.1;
      verdict = v;
      last = last;
      passes = passes_map judge f past h.0 All (λ (s : S) (m : List Selected). Has s (l ++ in_log name m) acks) sink sink last adds v h.2;
    }

    -- the sink failed
    pub fails_event : (Failed : HasFailure S) (HasFailed : HasAnswerFailure S) (e : Failure) → ((m : List Selected) → Failed sink m e → HasFailed sink (l ++ in_log name m) acks e)
        → FailsAtLast IsOpen judge Failed f [] past (MayGive (source_of pushed) (Some (left_in pushed))) (MayGive (source_of log) (Some (left_in log))) log sink last e → FailsWithin judge f MayGive HasFailed name event l acks past source log sink e
    fails_event Failed HasFailed e fails p = record {
      of_log = is;
      given = p.given;
      transactions = p.transactions ++ p.failed ∷ [];
      past_then = p.past_then;
      gives = given_by judge MayGive past (source_of pushed) source (left_in pushed) event (MayGive (source_of log) (Some (left_in log))) p.given (p.transactions ++ p.failed ∷ []) p.past_then source_is left_is p.gives;
      has = fails (selected f (p.transactions ++ p.failed ∷ [])) p.has;
    }
