-- The position from which a follower asks again after a dropped connection.
use Rattle.std.specs.Prelude.{ℕ, List, [], ◌∷◌, Option, Some, None, unwrap_or}
use Rattle.feed_transactions.specs.Rules.{Rules}
use Rattle.feed_transactions.specs.Transactions.{Transaction}
use Rattle.feed_replication.specs.declared.format.PayloadFormat.{PayloadFormat as Format}
use Rattle.feed_replication.specs.Streams.{stream_transactions}

-- the position after the last of these transactions: the number in the last commit line of their text
abbrev pub last_position : List Transaction → Option ℕ
last_position [] = None
last_position (t ∷ ts) = elim (last_position ts) [ None ↦ Some t.position | Some p ↦ Some p ]

-- the position of the next request: that of the last transaction shown, or q, that of the request before
abbrev pub position_after : Rules → Format → ℕ → List ℕ → ℕ → ℕ
position_after r format limit s q = unwrap_or (last_position (stream_transactions r format limit s)) q
