-- The lengths of the events that stand for MariaDB's.
use Rattle.std.proofs.Common.{◌≡◌, ◌≤◌, ℕ, List, ◌∷◌, ◌++◌, ◌+◌, length, take, drop, sym, ap, ◌∙◌, append_assoc, arith}
use Rattle.std.proofs.lemmas.List.{length-append, length-take-le}
use Rattle.std.proofs.Math.ListN.{length-drop}
use Rattle.byteorder.specs.Endian.{little_bytes}
use Rattle.events_replaced.specs.MadeEvents.{gtid_body, header_made, made, statement_body}

-- a GTID is as long as the body of its GTID_EVENT
pub gtid_body_len : (event : List ℕ) → 38 ≤ length event → 19 + length (gtid_body event) ≡ length event
unfolding gtid_body
gtid_body_len event long =
    let domain = take 4 (drop 27 event) in
    let server = take 4 (drop 5 event) in
    let sequence = take 8 (drop 19 event) in
    let rest = drop 36 event in
    omega (
      arith,
      long,
      length-append domain (server ++ (sequence ++ rest)),
      length-append server (sequence ++ rest),
      length-append sequence rest,
      length-take-le 4 (drop 27 event) (omega (arith, long, length-drop 27 event)),
      length-take-le 4 (drop 5 event) (omega (arith, long, length-drop 5 event)),
      length-take-le 8 (drop 19 event) (omega (arith, long, length-drop 19 event)),
      length-drop 36 event,
    )

-- the body of a statement
pub statement_body_len : (thread_id : ℕ) (statement : List ℕ) → length (statement_body thread_id statement) ≡ 14 + length statement
unfolding statement_body
statement_body_len thread_id statement = omega (arith, length-append (little_bytes 4 thread_id) (0 ∷ 0 ∷ 0 ∷ 0 ∷ 0 ∷ 0 ∷ 0 ∷ 0 ∷ 0 ∷ 0 ∷ statement))

-- a header and a body are an event
pub made_joined : (old mid new body event : List ℕ) (number size : ℕ) → mid ≡ old ++ header_made number size event → new ≡ mid ++ body → 19 + length body ≡ size → new ≡ old ++ made number body event
made_joined old mid new body event number size first second is =
    second ∙ ap (λ (l : List ℕ). l ++ body) (first ∙ ap (λ (n : ℕ). old ++ header_made number n event) (sym is)) ∙ append_assoc old (header_made number (19 + length body) event) body
