-- A walk whose sink is lent: what it has is what the other one has.
use Rattle.std.proofs.Common.{◌⊎◌, inl, inr, ℕ, List, [], Option, Some, None}
use Rattle.feed_checks.specs.EventFields.{Event}
use Rattle.feed_checks.specs.declared.verdict.Verdict.{Verdict}
use Rattle.feed_checks.specs.declared.verdict.Verdict.TheVariants as verdicts
use Rattle.feed_transactions.specs.Changes.{Committed}
use Rattle.feed_transactions.specs.Rules.{Judge}
use Rattle.feed_change_log.specs.declared.filter.Filter.{Filter}
use Rattle.feed_change_log.specs.declared.stop.Stop.{Stop}
use Rattle.changes_walks.specs.LogWalks.{EndsLog, EndsWalk, GoesOver, HasFailure, HasList, IsInterruptedWalk, IsRead}
use Rattle.changes_walks.specs.Selections.{Selected}
use Rattle.changes_walks.specs.SourceStates.{Known}
use Rattle.changes_walks.specs.declared.walk.LogEnd.{LogEnd}
use Rattle.changes_walks.specs.declared.walk.LogEnd.TheVariants as ends

module _ {S T : Type 0} (lender : S → T) (judge : Judge) (All : HasList T) (Fails : HasFailure T) (f : Filter) (start stop : Option ℕ) (m : List Selected) (sink : S) where
  over : (Has : HasList T) (ts : List Committed) → GoesOver (λ (s : S) (l : List Selected). Has (lender s) l) f start stop m ts sink → GoesOver Has f start stop m ts (lender sink)
  over Has ts h = record { seen = h.seen; left = h.left; split = h.split; has = h.has }

  interrupted : (past : List Event) (b : List ℕ) (x : Stop) → IsInterruptedWalk judge (λ (s : S) (l : List Selected). All (lender s) l) f start stop m past b sink x → IsInterruptedWalk judge All f start stop m past b (lender sink) x
  interrupted past b x h = record { seen = h.seen; past_then = h.past_then; b_then = h.b_then; split = h.split; has = h.has; alike = h.alike; is = h.is }

  is_read : (past : List Event) (b : List ℕ) (x : Stop) (v : Verdict) → IsRead judge (λ (s : S) (l : List Selected). All (lender s) l) f start stop m past b sink x v → IsRead judge All f start stop m past b (lender sink) x v
  is_read past b x verdicts.Memory h = interrupted past b x h
  is_read past b x verdicts.Read h = interrupted past b x h
  is_read past b x v h = h

  walked : (past : List Event) (b : List ℕ) (end : LogEnd) → EndsWalk judge (λ (s : S) (l : List Selected). All (lender s) l) (λ s l e. Fails (lender s) l e) f start stop None m past b sink end → EndsWalk judge All Fails f start stop None m past b (lender sink) end
  walked past b (ends.Read x) h = (is_read past b x x.verdict h.0, h.1)
  walked past b (ends.Unread v) h = (over All _ h.0, h.1)
  walked past b (ends.NoStart before None) h = h
  walked past b (ends.NoStart before (Some n)) h = h
  walked past b (ends.Stopped position) h = h
  walked past b (ends.Failed e) h = over (λ s l. Fails s l e) _ h

  -- why the walk of a whole log ended
  pub lent : (known : Known) (b : List ℕ) (end : LogEnd) → EndsLog judge (λ (s : S) (l : List Selected). All (lender s) l) (λ s l e. Fails (lender s) l e) f start stop m known b sink end → EndsLog judge All Fails f start stop m known b (lender sink) end
  lent known b end (inl h) = inl h
  lent known b end (inr (rest, is, h)) = inr (rest, is, (h.0, h.1, walked [] h.0 end h.2))
