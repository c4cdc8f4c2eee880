-- Which events are left out after one that stopped the reading of a log: the manual page of binlog-changes, "Gaps".
use Rattle.std.specs.Prelude.{◌≡◌, ◌==◌, ◌&&◌, ◌||◌, ◌+◌, ◌-◌, ◌^◌, ◌++◌, ◌∷◌, [], ℕ, Bool, List, true, false, not, codes, cond, drop, length, min, take, Option, Some, nat_le}
use Rattle.std.specs.List.{ends_with, list_any, prefix_len, take_while}
use Rattle.std.specs.Fmt.{decimal}
use Rattle.events_frames.specs.HeaderFields.{header_field}
use Rattle.feed_checks.specs.EventFields.{Event}
use Rattle.feed_checks.specs.LogFormat.{events, joined}
use Rattle.feed_checks.specs.declared.verdict.Verdict.{Verdict}
use Rattle.feed_checks.specs.declared.verdict.Verdict.TheVariants as verdicts
use Rattle.feed_change_log.specs.declared.stop.Stop.{Stop}
use Rattle.changes_tables.specs.MemberTexts.{utf8_json}
use Rattle.changes_commands.specs.EventWalks.{AreNext}
use Rattle.changes_walks.specs.declared.gaps.Place.{Place}
use Rattle.changes_walks.specs.declared.gaps.Place.TheVariants.{Before, After, Later}

-- ---- the places between two transactions

-- the number of an event's type
abbrev pub type_of : Event → ℕ
type_of e = header_field 4 1 e

-- whether a list has this number
abbrev pub has_number : List ℕ → ℕ → Bool
has_number l n = list_any (λ m. m == n) l

-- the types of the events before which no transaction is open: STOP_EVENT, ROTATE_EVENT, FORMAT_DESCRIPTION_EVENT, the GTIDs of MySQL, and that of MariaDB
abbrev pub beginnings : List ℕ
beginnings = 3 ∷ 4 ∷ 15 ∷ 33 ∷ 34 ∷ 42 ∷ 162 ∷ []

-- the types of the events that end a transaction: XID_EVENT, XA_PREPARE_LOG_EVENT, TRANSACTION_PAYLOAD_EVENT
abbrev pub endings : List ℕ
endings = 16 ∷ 38 ∷ 40 ∷ []

-- whether an event ends with these bytes, before a checksum or without one
abbrev pub has_last : Event → List ℕ → Bool
has_last e x = ends_with (λ a b. a == b) e x || ends_with (λ a b. a == b) (take (length e - 4) e) x

-- whether an event is a QUERY_EVENT that ends with these bytes: a statement, and before it the byte 0 after the name of its schema
abbrev pub is_query : Event → List ℕ → Bool
is_query e x = (type_of e == 2) && has_last e x

-- whether an event ends a transaction
abbrev pub is_last : Event → Bool
is_last e = has_number endings (type_of e) || is_query e (0 ∷ codes "COMMIT") || is_query e (0 ∷ codes "ROLLBACK")

-- whether an event follows a transaction: it begins the next, or ends the log. BEGIN does if the transaction has begun
abbrev pub is_next : Bool → Event → Bool
is_next has_begun e = has_number beginnings (type_of e) || (has_begun && is_query e (0 ∷ codes "BEGIN"))

-- where the place between two transactions is that follows an event
abbrev pub place_of : Bool → Event → Place
place_of has_begun e = cond (is_last e) After (cond (is_next has_begun e) Before Later)

-- whether an event that can't be shown is none of a transaction, if none is open: a statement, also compressed, or an incident
abbrev pub is_alone : Event → Bool
is_alone e = has_number (2 ∷ 26 ∷ 165 ∷ []) (type_of e)

-- the verdicts after which a log may go on: the next event is found by the sizes of these
abbrev pub is_passable : Verdict → Bool
is_passable verdicts.Unshown = true
is_passable verdicts.UnknownKind = true
is_passable verdicts.Checksum = true
is_passable verdicts.Size = true
is_passable verdicts.Body = true
is_passable verdicts.NoTableMap = true
is_passable verdicts.Row = true
is_passable verdicts.Inside = true
is_passable verdicts.Outside = true
is_passable _ = false

-- ---- what is left out

-- whether an event belongs to a transaction with those before it, and doesn't end it
abbrev pub goes_on : Bool → Event → Bool
goes_on has_begun e = not (is_last e) && not (is_next has_begun e)

-- the events up to the next place
abbrev pub to_place : Bool → List Event → List Event
to_place has_begun es = take_while (goes_on has_begun) es ++ take_while is_last (take 1 (drop (prefix_len (goes_on has_begun) es) es))

-- where the place is that follows an event with this verdict which ends no transaction: before a beginning within a transaction, unless that is the first event after a place
abbrev pub place_by : Verdict → Bool → Bool → Event → Place
place_by verdicts.Inside is_open is_first e = cond is_first Later Before
place_by verdicts.Unshown is_open is_first e = cond (not is_open && is_alone e) After Later
place_by _ is_open is_first e = Later

-- where the place is that follows the event which stopped the reading
abbrev pub place_at_stop : Stop → Bool → Event → Place
place_at_stop s is_first e = cond (is_last e) After (place_by s.verdict s.is_open is_first e)

-- the events that are left out, of which the first stopped the reading
abbrev pub left_out_by : Place → Bool → List Event → List Event
left_out_by Before has_begun es = []
left_out_by After has_begun es = take 1 es
left_out_by Later has_begun es = take 1 es ++ to_place has_begun (drop 1 es)

abbrev pub left_out : Stop → Bool → List Event → List Event
left_out s is_first [] = []
left_out s is_first (e ∷ es) = left_out_by (place_at_stop s is_first e) s.is_open (e ∷ es)

-- the offset after events, from an offset on; 2^64 - 1 if it is more
unfoldable pub offset_after : ℕ → List Event → ℕ
offset_after n [] = n
offset_after n (e ∷ l) = offset_after (min (n + length e) (2 ^ 64 - 1)) l

-- these events of the bytes were passed, up to this offset; the newest event, if it follows them, the bytes that wait and the reader's are the others
pub record Passes (es : List Event) (b : List ℕ) (offset end : ℕ) (has_newest : Bool) (newest waiting : List ℕ) (left : Option (List ℕ)) : Type 0 where
  pub rest : List ℕ
  pub split : b ≡ joined es ++ rest
  pub next : AreNext (cond has_newest newest [] ++ waiting) left rest
  pub end_is : end ≡ offset_after offset es

-- a reader had these bytes; it has what a log begins with, and those of them after what is left out, whose end this offset is
pub record LeavesOut (s : Stop) (is_first : Bool) (beginning b : List ℕ) (left : Option (List ℕ)) (end : ℕ) : Type 0 where
  pub rest : List ℕ
  pub split : b ≡ joined (left_out s is_first (events b)) ++ rest
  pub left_is : left ≡ Some (beginning ++ rest)
  pub end_is : end ≡ offset_after s.offset (left_out s is_first (events b))

-- ---- what a log begins with

-- the length of the magic number, and of the description of the format if the first event is one
abbrev pub beginning_len : List ℕ → ℕ
beginning_len first = cond (nat_le 19 (length (drop 4 first)) && (type_of (drop 4 first) == 15)) (4 + header_field 9 4 (drop 4 first)) 4

-- ---- its line

-- the line of a gap in a log of this name, between these positions, with the reason
abbrev pub gap_json : List ℕ → ℕ → ℕ → List ℕ → List ℕ
gap_json file from to reason = codes "{\"type\":\"gap\",\"file\":" ++ (utf8_json file ++ (codes ",\"from\":" ++ (decimal from ++ (codes ",\"to\":" ++ (decimal to ++ (codes ",\"reason\":" ++ (utf8_json reason ++ codes "}\n")))))))
