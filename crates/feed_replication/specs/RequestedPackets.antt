-- What a request asks for, computed from its bytes. The law `requests_are_computed` says that this is what `IsRequested` states.
use Rattle.std.specs.Prelude.{◌≡◌, ◌⊎◌, ℕ, List, [], ◌∷◌, length, Option, Some, None, Result, Err, if◌then◌else◌}
use Rattle.std.specs.Str.{bytes_eq}
use Rattle.wire_packets.specs.Framing.{framing}
use Rattle.wire_packets.specs.Packets.{packets}
use Rattle.feed_checks.specs.declared.verdict.Verdict.TheVariants as verdicts
use Rattle.feed_transactions.specs.Rules.{Rules}
use Rattle.feed_replication.specs.declared.format.PayloadFormat.{PayloadFormat as Format}
use Rattle.feed_replication.specs.declared.served.Refusal.{Refusal}
use Rattle.feed_replication.specs.declared.served.Refusal.TheVariants.{NotADump}
use Rattle.feed_replication.specs.declared.served.Served.{Served}
use Rattle.feed_replication.specs.declared.served.Served.TheVariants.{Refused, Fault}
use Rattle.feed_replication.specs.RequestFields.{position_for}
use Rattle.feed_replication.specs.Serving.{Answer, answer_to}

-- the first payload, if its packet from sequence number 0 is all of the bytes
abbrev pub sole_payload : List ℕ → List (List ℕ) → Option (List ℕ)
sole_payload bytes [] = None
sole_payload bytes (p ∷ ps) = if bytes_eq (framing 0 p) bytes then Some p else None

-- the payload, if the bytes are exactly one packet from sequence number 0
unfoldable pub payload_of_packet : List ℕ → Option (List ℕ)
payload_of_packet bytes = sole_payload bytes (packets (length bytes) 0 bytes)

-- the position that a payload asks for, if there is a payload, or the first reason against it
abbrev pub requested_by : List ℕ → Option (List ℕ) → Result ℕ Refusal
requested_by name None = Err NotADump
requested_by name (Some p) = position_for name p

-- the position that a request asks for, or why it is rejected before the file is read
abbrev pub requested : List ℕ → List ℕ → Result ℕ Refusal
requested request name = requested_by name (payload_of_packet request)

-- why there is no position: the request is rejected, or out of memory
abbrev pub IsNotAsked : List ℕ → List ℕ → Served → Type 0
IsNotAsked request name s = ((error : Refusal) × (requested request name ≡ Err error) × (s ≡ Refused error)) ⊎ (s ≡ Fault verdicts.Memory)

-- the answer to the bytes of a request
abbrev pub served : Rules → Format → ℕ → List ℕ → List ℕ → List ℕ → Answer
served r format limit request name b = answer_to r format limit (requested request name) b
