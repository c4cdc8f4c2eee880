-- Requests and their fields.
use Rattle.std.proofs.Common.{◌≡◌, ℕ, ◌<◌, ◌^◌, Bool, true, false, not, List, [], ◌∷◌, ◌++◌, drop, Option, Some, None, Result, Ok, Err, refl, sym, ap, ◌∙◌, arith}
use Rattle.std.specs.Prelude.{nat_lt, if◌then◌else◌}
use Rattle.byteorder.specs.Endian.{little_number}
use Rattle.wire_packets.proofs.PacketLemmas.{framings_apart}
use Rattle.feed_checks.specs.declared.verdict.Verdict.{Verdict}
use Rattle.feed_transactions.specs.Rules.{Rules}
use Rattle.feed_checks.specs.LogFormat.{has_magic_number}
use Rattle.feed_replication.specs.Requests.{dump_payload, dump_request}
use Rattle.feed_replication.specs.declared.format.PayloadFormat.{PayloadFormat as Format}
use Rattle.feed_replication.specs.declared.served.Refusal.{Refusal}
use Rattle.feed_replication.specs.declared.served.Refusal.TheVariants as errors
use Rattle.feed_replication.specs.declared.served.Served.{Served}
use Rattle.feed_replication.specs.RequestFields.{position_in, name_in}
use Rattle.feed_replication.specs.RequestedPackets.{requested, requested_by}
use Rattle.feed_replication.specs.Positions.{is_event_boundary}
use Rattle.feed_replication.specs.Serving.{Answer, damage_before, rejection_or_fault, damage_from, all_payloads, outcome_of, fits, fitting_payloads, answer, answer_to}
use Rattle.feed_replication.specs.RequestedPackets.{served}
use Rattle.feed_replication.specs.PrefixLists.{from_first_failing}
use Rattle.feed_replication.specs.ServerLaws.{IsOfTheFile}
use Rattle.feed_replication.proofs.RequestLemmas.{same_bytes, payload_back}
use Rattle.feed_replication.proofs.FileLemmas.{dump_here, asked_when}
use Rattle.feed_replication.proofs.SeekLemmas.{why_all, answer_or}

position-back : (position server : ℕ) (name : List ℕ) → position < 2 ^ 32 → position_in (dump_payload position server name) ≡ position
position-back position server name h = omega (arith, h)

server-back : (position server : ℕ) (name : List ℕ) → server < 2 ^ 32 → little_number 4 (drop 7 (dump_payload position server name)) ≡ server
server-back position server name h = omega (arith, h)

name-back : (position server : ℕ) (name : List ℕ) → name_in (dump_payload position server name) ≡ name
name-back position server name = refl

-- equal requests have equal positions, servers and names
pub same-request : (p q s t : ℕ) (m n : List ℕ) → p < 2 ^ 32 → q < 2 ^ 32 → s < 2 ^ 32 → t < 2 ^ 32 → dump_request p s m ≡ dump_request q t n → (p ≡ q) × (s ≡ t) × (m ≡ n)
unfolding dump_request
same-request p q s t m n hp hq hs ht e =
    let k = (framings_apart 0 (dump_payload p s m) (dump_payload q t n) [] [] (ap (λ (x : List ℕ). x ++ []) e)).0 in
    (sym (position-back p s m hp) ∙ ap position_in k ∙ position-back q t n hq, sym (server-back p s m hs) ∙ ap (λ (x : List ℕ). little_number 4 (drop 7 x)) k ∙ server-back q t n ht, ap name_in k)

-- a request asks for its position
requested-position : (position server : ℕ) (name : List ℕ) → position < 2 ^ 32 → requested (dump_request position server name) name ≡ Ok position
unfolding dump_request
requested-position position server name h =
    ap (requested_by name) (payload_back (dump_payload position server name))
    ∙ ap (λ (b : Bool). asked_when b true name (dump_payload position server name)) (dump_here (dump_payload position server name) (omega arith) refl)
    ∙ ap (λ (b : Bool). if not b then Err errors.Name else Ok (position_in (dump_payload position server name))) (same_bytes name)
    ∙ ap (λ (n : ℕ). Ok n) (position-back position server name h)

-- a request with the file's own name is answered
pub answered : (r : Rules) (format : Format) (limit position server : ℕ) (name b : List ℕ) → position < 2 ^ 32 → served r format limit (dump_request position server name) name b ≡ answer r format limit b position
answered r format limit position server name b h = ap (λ (o : Result ℕ Refusal). answer_to r format limit o b) (requested-position position server name h)

abbrev IsFile : Option Served → Type 0
IsFile None = Unit {0}
IsFile (Some s) = IsOfTheFile s

reason-of-file : (low m : Bool) (d : Option Verdict) (high edge : Bool) → IsFile (why_all low m d high edge)
reason-of-file true m d high edge = tt
reason-of-file false false d high edge = tt
reason-of-file false true (Some v) high edge = tt
reason-of-file false true None true true = tt
reason-of-file false true None true false = tt
reason-of-file false true None false edge = tt

outcome-of-file : (ps : List (List ℕ)) (d : Option Verdict) → IsOfTheFile (outcome_of ps d)
outcome-of-file (p ∷ ps) d = tt
outcome-of-file [] (Some v) = tt
outcome-of-file [] None = tt

either-of-file : (o : Option Served) (a : Answer) → IsFile o → IsOfTheFile a.outcome → IsOfTheFile (answer_or o a).outcome
either-of-file None a h k = k
either-of-file (Some s) a h k = h

-- the only rejection of such an answer is for its position
pub answer-of-file : (r : Rules) (format : Format) (limit : ℕ) (b : List ℕ) (position : ℕ) → IsOfTheFile (answer r format limit b position).outcome
unfolding answer rejection_or_fault
answer-of-file r format limit b position =
    either-of-file (rejection_or_fault r b position) (fitting_payloads limit (all_payloads r format b position) (damage_from r b position)) (reason-of-file (nat_lt position 4) (has_magic_number b) (damage_before r b position) true (is_event_boundary b position)) (outcome-of-file (from_first_failing (fits limit) (all_payloads r format b position)) (damage_from r b position))
