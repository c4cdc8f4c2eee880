-- The statement of a law of one answer.
use Rattle.std.specs.Prelude.{◌≡◌, ℕ, true, List, [], ◌++◌, None}
use Rattle.feed_transactions.specs.Rules.{Rules, shown, fault_after}
use Rattle.feed_checks.specs.LogFormat.{has_magic_number}
use Rattle.feed_transactions.specs.Reports.{file_events, file_transactions, file_verdict}
use Rattle.feed_replication.specs.declared.format.PayloadFormat.{PayloadFormat as Format}
use Rattle.feed_replication.specs.Streams.{stream_transactions, stream_verdict}
use Rattle.feed_replication.specs.declared.served.Served.TheVariants.{Whole}
use Rattle.feed_replication.specs.Positions.{events_before, is_between_transactions}
use Rattle.feed_replication.specs.Serving.{answer, answer_bytes}
use Rattle.feed_replication.specs.ServerLaws.{IsWithin}

-- From a position between transactions, before the first fault, one answer within the limits of the server and of its reader gives the rest of the report, and its verdict too if the answer is complete.
abbrev pub GivesTheRest : Rules → Format → ℕ → ℕ → List ℕ → ℕ → Type 0
GivesTheRest r format limit reading b position =
    has_magic_number b ≡ true → is_between_transactions b position ≡ true
    → fault_after r.fault [] (events_before b position) ≡ None → IsWithin limit format (file_events b)
    → IsWithin reading format (file_events b)
    → (file_transactions r b ≡ shown r (events_before b position) ++ stream_transactions r format reading (answer_bytes (answer r format limit b position)))
    × ((answer r format limit b position).outcome ≡ Whole → stream_verdict r format reading (answer_bytes (answer r format limit b position)) ≡ file_verdict r b)
