-- The COMMIT of an XA transaction, with its XID or without.
use Rattle.std.proofs.Common.{◌≡◌, ◌≤◌, ◌+◌, ℕ, Bool, true, false, List, ◌∷◌, ◌++◌, length, ap, arith}
use Rattle.std.specs.Prelude.{codes, if◌then◌else◌}
use Rattle.std.proofs.lemmas.List.{length-append}
use Rattle.byteorder.specs.Endian.{little_bytes}
use Rattle.events_replaced.specs.MadeEvents.{made}
use Rattle.events_replaced.specs.XaCommits.{commit_made, commit_of, has_room, xid_body}

pub xid_body_len : (xid : List ℕ) → length (xid_body xid) ≡ 21 + length xid
unfolding xid_body
xid_body_len xid =
    let status = 255 ∷ (xid ++ (0 ∷ codes "COMMIT")) in
    omega (arith, length-append (little_bytes 2 (length xid + 1)) status, length-append xid (0 ∷ codes "COMMIT"))

pub with_room : (events xid event : List ℕ) → has_room events xid ≡ true → commit_of events xid event ≡ made 2 (xid_body xid) event
with_room events xid event h = ap (λ (b : Bool). if b then made 2 (xid_body xid) event else commit_made event) h

pub without_room : (events xid event : List ℕ) → has_room events xid ≡ false → commit_of events xid event ≡ commit_made event
without_room events xid event h = ap (λ (b : Bool). if b then made 2 (xid_body xid) event else commit_made event) h
