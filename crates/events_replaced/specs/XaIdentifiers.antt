-- The XID of an XA transaction (MySQL source documentation: XA_prepare_event; MySQL manual: XA Transaction SQL Statements).
use Rattle.std.specs.Prelude.{◌+◌, ◌==◌, ◌&&◌, ◌++◌, ℕ, Bool, List, codes, decimal, length, take, drop, nat_le, not, slice_index}
use Rattle.byteorder.specs.Endian.{little_number}
use Rattle.hex.specs.Hex.{encode_lower}
use Rattle.events_replaced.specs.XaRoles.{statement_of}

-- an XID as servers write it in statements: both of its parts in hexadecimal digits, and its format
abbrev pub xid_text : ℕ → List ℕ → List ℕ → List ℕ
xid_text format global branch = codes "X'" ++ encode_lower global ++ codes "',X'" ++ encode_lower branch ++ codes "'," ++ decimal format

-- the fields of an XA_PREPARE_LOG_EVENT after its header (19): whether it commits in one phase (1), the format (4), the lengths of the parts (4, 4), and the parts
abbrev pub is_one_phase : List ℕ → Bool
is_one_phase event = not (slice_index event 19 == 0)

abbrev pub global_len : List ℕ → ℕ
global_len event = little_number 4 (drop 24 event)

abbrev pub branch_len : List ℕ → ℕ
branch_len event = little_number 4 (drop 28 event)

-- the parts end where it does
abbrev pub is_prepare : List ℕ → Bool
is_prepare event = nat_le 32 (length event) && length event == 32 + global_len event + branch_len event

-- its XID
abbrev pub prepared_xid : List ℕ → List ℕ
prepared_xid event = xid_text (little_number 4 (drop 20 event)) (take (global_len event) (drop 32 event)) (drop (global_len event) (drop 32 event))

-- the XID of XA COMMIT, and of XA ROLLBACK
abbrev pub committed_xid : List ℕ → List ℕ
committed_xid event = drop 10 (statement_of event)

abbrev pub rolled_back_xid : List ℕ → List ℕ
rolled_back_xid event = drop 12 (statement_of event)
