-- COM_BINLOG_DUMP, MySQL's request for a binary log, as a server reads it. The law `requests_are_their_fields` says that a request has the fields that its maker gave it.
use Rattle.std.specs.Prelude.{◌≡◌, ◌⊎◌, ℕ, Bool, not, ◌&&◌, List, length, drop, slice_index, Result, Ok, Err, nat_le, ◌==◌, if◌then◌else◌}
use Rattle.std.specs.Str.{bytes_eq}
use Rattle.byteorder.specs.Endian.{little_number}
use Rattle.wire_packets.specs.Framing.{framing}
use Rattle.feed_replication.specs.Requests.{com_binlog_dump, binlog_dump_non_block}
use Rattle.feed_replication.specs.declared.served.Refusal.{Refusal}
use Rattle.feed_replication.specs.declared.served.Refusal.TheVariants.{NotADump, Flags, Name}

-- the payload is a dump request: the command, the position, flags, the replica's server id, and the file's name to the end
abbrev pub is_dump : List ℕ → Bool
is_dump p = nat_le 11 (length p) && (slice_index p 0 == com_binlog_dump)

-- the position, in four bytes
abbrev pub position_in : List ℕ → ℕ
position_in p = little_number 4 (drop 1 p)

-- the flags, in two bytes
abbrev pub flags_in : List ℕ → ℕ
flags_in p = little_number 2 (drop 5 p)

-- the name of the log
abbrev pub name_in : List ℕ → List ℕ
name_in p = drop 11 p

-- the position in the payload of a dump request for the file `name` with BINLOG_DUMP_NON_BLOCK, or the first reason against it
abbrev pub position_for : List ℕ → List ℕ → Result ℕ Refusal
position_for name p =
    if not (is_dump p) then Err NotADump
    else if not (flags_in p == binlog_dump_non_block) then Err Flags
    else if not (bytes_eq (name_in p) name) then Err Name
    else Ok (position_in p)

-- `asked` is the position that a request asks for, or the first reason against it; `NotADump` if its bytes aren't exactly one payload in packets numbered from 0
abbrev pub IsRequested : List ℕ → List ℕ → Result ℕ Refusal → Type 0
IsRequested request name asked =
    ((p : List ℕ) × (request ≡ framing 0 p) × (asked ≡ position_for name p))
    ⊎ (((p : List ℕ) → request ≡ framing 0 p → ⊥) × (asked ≡ Err NotADump))
