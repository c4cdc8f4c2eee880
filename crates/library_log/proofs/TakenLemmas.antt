-- Whether there is a first of the changes that a filter takes.
use Rattle.std.proofs.Common.{◌≡◌, List, [], ◌∷◌, Option, Some, None, is_some, refl}
use Rattle.feed_transactions.specs.Changes.{EventChange}
use Rattle.feed_change_log.specs.Filters.{ReturnsFirstTaken}
use Rattle.feed_change_log.specs.declared.change.Change.{Change}
use Rattle.feed_change_log.specs.declared.filter.TakenChanges.{TakenChanges}
use Rattle.library_log.specs.RecordedTransactions.{has_some}

pub is_there : (x : Option Change) (after : TakenChanges) (l : List EventChange) → ReturnsFirstTaken x after l → is_some x ≡ has_some l
is_there None after [] h = refl
is_there None after (c ∷ l) h = absurd h
is_there (Some x) after [] h = absurd h
is_there (Some x) after (c ∷ l) h = refl
