-- Positions in a binary log, in bytes from the start of the file.
use Rattle.std.specs.Prelude.{ℕ, ◌+◌, ◌-◌, Bool, true, false, not, ◌&&◌, List, [], ◌∷◌, length, drop, nat_lt, nat_le, ◌==◌}
use Rattle.feed_checks.specs.PastLists.{onto}
use Rattle.feed_checks.specs.EventFields.{Event}
use Rattle.feed_checks.specs.Kinds.{kinds, is_inside, is_waiting}
use Rattle.feed_checks.specs.LogFormat.{joined}
use Rattle.feed_transactions.specs.Reports.{file_events}

-- the events that begin within the first n bytes of all events
unfoldable pub events_within : ℕ → List Event → List Event
events_within n [] = []
events_within n (e ∷ l) = elim (nat_lt 0 n) [ true ↦ e ∷ events_within (n - length e) l | false ↦ [] ]

-- the events that begin before a position; the magic number has 4 bytes
abbrev pub events_before : List ℕ → ℕ → List Event
events_before b position = events_within (position - 4) (file_events b)

-- the same, the newest first
abbrev pub past_at : List ℕ → ℕ → List Event
past_at b position = onto [] (events_before b position)

-- the events from a position on
abbrev pub events_from : List ℕ → ℕ → List Event
events_from b position = drop (length (events_before b position)) (file_events b)

-- the position is at least 4, and the events that begin before it end exactly there
unfoldable pub is_event_boundary : List ℕ → ℕ → Bool
is_event_boundary b position = nat_le 4 position && (4 + length (joined (events_before b position)) == position)

-- no transaction is open there, and no GTID waits
abbrev pub is_between_transactions : List ℕ → ℕ → Bool
is_between_transactions b position = is_event_boundary b position && not (is_inside (kinds (past_at b position))) && not (is_waiting (kinds (past_at b position)))

-- the position after the last whole event
abbrev pub end_of_events : List ℕ → ℕ
end_of_events b = 4 + length (joined (file_events b))
