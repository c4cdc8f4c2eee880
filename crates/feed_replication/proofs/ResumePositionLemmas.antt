-- The position of the last of some transactions, and of what one event shows.
use Rattle.std.proofs.Common.{◌≡◌, ℕ, Bool, true, false, cond, List, [], ◌∷◌, ◌++◌, Option, Some, None, refl, sym, ap, ◌∙◌}
use Rattle.std.specs.Prelude.{unwrap_or, map}
use Rattle.events_frames.specs.Headers.{Header}
use Rattle.feed_checks.specs.EventFields.{Event, log_pos_of, header_of, in_force}
use Rattle.feed_checks.specs.Kinds.{Kind, Commit, Statement, kind_of, is_inside}
use Rattle.feed_transactions.proofs.CommittedLemmas.{committed_are_shown}
use Rattle.feed_transactions.specs.Changes.{Committed, HeadedKind, kinds_in, headed_kinds, committed_at, kind_commits, committed_by, transaction_of}
use Rattle.feed_transactions.specs.FeedSteps.{HasShown}
use Rattle.feed_transactions.specs.Recorders.{HasDone}
use Rattle.feed_transactions.specs.Transactions.{Transaction, shown_by}
use Rattle.feed_replication.specs.ResumePositions.{last_position}

-- ---- one list after another

later : (o : Option ℕ) (p q : ℕ) → unwrap_or (elim o [ None ↦ Some p | Some x ↦ Some x ]) q ≡ unwrap_or o p
later None p q = refl
later (Some x) p q = refl

pub last_position-append : (a b : List Transaction) (q : ℕ) → unwrap_or (last_position (a ++ b)) q ≡ unwrap_or (last_position b) (unwrap_or (last_position a) q)
last_position-append [] b q = refl
last_position-append (t ∷ a) b q =
    later (last_position (a ++ b)) t.position q ∙ last_position-append a b t.position ∙ ap (λ (n : ℕ). unwrap_or (last_position b) n) (sym (later (last_position a) t.position q))

-- ---- what an event shows

-- the one transaction of a list
only : (x t : Committed) → x ∷ [] ≡ t ∷ [] → x ≡ t
only x t is = cc

-- the event that commits a transaction
kind_header : (past : List HeadedKind) (h : Header) (k : Kind) (t : Committed) → kind_commits past h k ≡ t ∷ [] → t.commit ≡ h
kind_header past h Commit t is = ap (λ (x : Committed). x.commit) (sym (only (committed_at past h) t is))
kind_header past h (Statement q) t is = either (is_inside (kinds_in past)) refl
  where
    either : (b : Bool) → is_inside (kinds_in past) ≡ b → t.commit ≡ h
    either true inside = let none : (let l : List Committed = [] in l ≡ t ∷ []) = rw (inside, kind_commits) at is in absurd cc
    either false inside = ap (λ (x : Committed). x.commit) (sym (only _ t (rw (inside, kind_commits) at is)))
kind_header past h _ t is = absurd cc

commit_header : (past : List Event) (e : Event) (t : Committed) → committed_by past e ≡ t ∷ [] → t.commit ≡ header_of e
unfolding committed_by
commit_header past e t is = kind_header (headed_kinds past) (header_of e) (kind_of e (in_force past)) t is

-- the position after an event that shows a transaction, or else the one before
pub position_shown : {K : Type 0} (past : List Event) (e : Event) (IsDone : HasDone K) (s : K) (b : Bool) (p : ℕ) → HasShown IsDone s b (committed_by past e) → unwrap_or (last_position (shown_by past e)) p ≡ cond b (log_pos_of e) p
position_shown past e IsDone s true p h =
    ap (λ (ts : List Transaction). unwrap_or (last_position ts) p) (sym (committed_are_shown past e) ∙ ap (map transaction_of) h.1) ∙ ap (λ (x : Header). x.log_pos) (commit_header past e h.0 h.1)
position_shown past e IsDone s false p h = ap (λ (ts : List Transaction). unwrap_or (last_position ts) p) (sym (committed_are_shown past e) ∙ ap (map transaction_of) h)
