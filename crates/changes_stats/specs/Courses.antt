-- The course of transactions over time: their rows by periods.
use Rattle.std.specs.Prelude.{◌≡◌, ◌-◌, ◌%◌, ◌==◌, ℕ, List, [], ◌∷◌, Option, Some, None, length, filter, map, fold, min, max, sum_by}
use Rattle.std.specs.Ordering.{nat_cmp}
use Rattle.std.specs.BTreeMap.{get}
use Rattle.changes_stats.specs.RowSums.{capped}
use Rattle.changes_stats.specs.declared.course.Course.{Course}
use Rattle.changes_stats.specs.declared.course.PeriodTotals.{PeriodTotals}

-- the time of the first and of the last of transactions, each with its rows
abbrev pub times_of : List (ℕ × ℕ) → Option (ℕ × ℕ)
times_of [] = None
times_of (t ∷ l) = Some (fold min t.0 (map (λ t. t.0) l), fold max t.0 (map (λ t. t.0) l))

-- the totals of transactions, if there are any
abbrev pub totals_of : List (ℕ × ℕ) → Option PeriodTotals
totals_of [] = None
totals_of (t ∷ l) = Some (record { rows = capped (sum_by (λ t. t.1) (t ∷ l)); transactions = capped (length (t ∷ l)) })

-- those in the period that begins at a second
abbrev pub in_period : ℕ → ℕ → List (ℕ × ℕ) → List (ℕ × ℕ)
in_period period start l = filter (λ t. start == t.0 - t.0 % period) l

-- the course of these transactions: the time and the rows of each
pub record IsCourse (c : Course) (l : List (ℕ × ℕ)) : Type 0 where
  pub times : c.times ≡ times_of l
  pub periods : (start : ℕ) → get nat_cmp c.periods start ≡ totals_of (in_period c.period start l)
