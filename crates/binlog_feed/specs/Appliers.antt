-- What an applier got: the transactions that it applied so far, as it says itself.
use Rattle.std.specs.Prelude.{List, [], ◌∷◌, ◌++◌}
use Rattle.feed_transactions.specs.Changes.{Committed}

-- an applier applied these transactions so far, in this order
abbrev pub HasApplied : Type 0 → Type 1
HasApplied A = A → List Committed → Type 0

-- these transactions were applied, after those before
abbrev pub Applies : {A : Type 0} → HasApplied A → A → A → List Committed → Type 0
Applies has_applied old new ts = (before : List Committed) → has_applied old before → has_applied new (before ++ ts)

-- this one was applied
abbrev pub AppliesNext : {A : Type 0} → HasApplied A → A → A → Committed → Type 0
AppliesNext has_applied old new t = Applies has_applied old new (t ∷ [])
