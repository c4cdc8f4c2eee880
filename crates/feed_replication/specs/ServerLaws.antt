-- The statements of the laws of a server.
use Rattle.std.specs.Prelude.{◌≡◌, ℕ, ◌≤◌, true, List, [], ◌∷◌, ◌++◌, length, map, None, Some, All}
use Rattle.feed_checks.specs.declared.verdict.Verdict.{Verdict}
use Rattle.feed_checks.specs.EventFields.{Event}
use Rattle.feed_transactions.specs.Rules.{Rules, fault_after}
use Rattle.feed_checks.specs.LogFormat.{has_magic_number}
use Rattle.feed_transactions.specs.Reports.{file_events, file_end, file_transactions, file_report}
use Rattle.feed_replication.specs.declared.format.PayloadFormat.{PayloadFormat as Format}
use Rattle.feed_replication.specs.Streams.{payload_of, stream_transactions, stream_report}
use Rattle.feed_replication.specs.declared.served.Refusal.TheVariants as errors
use Rattle.feed_replication.specs.declared.served.Served.{Served}
use Rattle.feed_replication.specs.declared.served.Served.TheVariants.{Refused, Fault}
use Rattle.feed_replication.specs.Serving.{broken_end, closing_payload, sent_events, damage_from, answer, answer_bytes}

-- the payload of each of these events, and the closing payload, is within the limit
abbrev pub IsWithin : ℕ → Format → List Event → Type 0
IsWithin limit format l = All (λ p. length p ≤ limit) (map (payload_of format) l ++ closing_payload ∷ [])

-- serving from the start loses nothing: if no event is damaged and the limits of the server and of its reader hold every payload, the answer from position 4 has the file's report
abbrev pub ServesTheFile : Rules → Format → ℕ → ℕ → List ℕ → Type 0
ServesTheFile r format limit reading b =
    has_magic_number b ≡ true → fault_after r.damage [] (file_events b) ≡ None → broken_end (file_end b) ≡ None
    → IsWithin limit format (file_events b) → IsWithin reading format (file_events b)
    → stream_report r format reading (answer_bytes (answer r format limit b 4)) ≡ file_report r b

-- if serving from the start stops at damage, and both limits hold what is sent, then there is no closing packet, and the stream has the file's transactions
abbrev pub StopsAtDamage : Rules → Format → ℕ → ℕ → List ℕ → Verdict → Type 0
StopsAtDamage r format limit reading b v =
    has_magic_number b ≡ true → damage_from r b 4 ≡ Some v
    → All (λ p. length p ≤ limit) (map (payload_of format) (sent_events r b 4)) → All (λ p. length p ≤ reading) (map (payload_of format) (sent_events r b 4))
    → ((answer r format limit b 4).payloads ≡ map (payload_of format) (sent_events r b 4))
    × ((answer r format limit b 4).outcome ≡ Fault v)
    × (stream_transactions r format reading (answer_bytes (answer r format limit b 4)) ≡ file_transactions r b)

-- the result isn't a rejection as another packet, for its flags or for its name
abbrev pub IsOfTheFile : Served → Type 0
IsOfTheFile (Refused errors.NotADump) = ⊥
IsOfTheFile (Refused errors.Flags) = ⊥
IsOfTheFile (Refused errors.Name) = ⊥
IsOfTheFile _ = Unit {0}
