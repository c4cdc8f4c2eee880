-- The rest of a log's report, from a position between transactions on.
use Rattle.std.specs.Prelude.{◌≡◌, ℕ, true, List, [], ◌++◌, None}
use Rattle.feed_transactions.specs.Rules.{Rules, fault_after, shown}
use Rattle.feed_checks.specs.LogFormat.{has_magic_number}
use Rattle.feed_transactions.specs.Reports.{Report, file_transactions, file_verdict}
use Rattle.feed_replication.specs.Positions.{events_before, is_between_transactions}

-- the position is between transactions of a log, and no event before it is a fault
pub record IsUndamagedUpTo (r : Rules) (b : List ℕ) (position : ℕ) : Type 0 where
  pub magic : has_magic_number b ≡ true
  pub between : is_between_transactions b position ≡ true
  pub unfaulty : fault_after r.fault [] (events_before b position) ≡ None

-- the report of the log is what the events before the position show, followed by this
pub record HasRest (r : Rules) (b : List ℕ) (position : ℕ) (rest : Report) : Type 0 where
  pub transactions_are : file_transactions r b ≡ shown r (events_before b position) ++ rest.transactions
  pub verdict_is : file_verdict r b ≡ rest.verdict
