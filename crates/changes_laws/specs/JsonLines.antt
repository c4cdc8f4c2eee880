-- Lines of JSON, and the changes of a transaction as binary logs have them: numbers of at most 64 bits, and bytes.
use Rattle.std.specs.Prelude.{◌≡◌, ◌≤◌, ◌<◌, ◌^◌, ◌==◌, ⊤, All, Bool, true, false, IsTrue, ℕ, codes, List, [], ◌∷◌, ◌++◌, length, Option, Some, None}
use Rattle.std.specs.List.{flat_map, list_any}
use Rattle.wire_buf.specs.Encoding.{AreBytes}
use Rattle.events_frames.specs.Headers.{Header}
use Rattle.feed_checks.specs.Kinds.{Gtid, Anonymous, Numbered, Tagged}
use Rattle.feed_transactions.specs.Changes.{Content, OfRows, OfStatement, EventChange}
use Rattle.changes_origins.specs.TaggedGtids.{TaggedGtid}
use Rattle.changes_lines.specs.RowJson.{CellJson}
use Rattle.changes_lines.specs.ChangeLines.{rows_of_all}
use Rattle.changes_lines.specs.FactMembers.{LogPlace, OfNumber, OfText, TransactionFacts, TransactionXid, place_text}
use Rattle.changes_origins.specs.declared.added_members.AddedMembers.{AddedMembers}
use Rattle.changes_laws.specs.JsonGrammar.{Json, Members, object, IsValue, IsJsonText}
use Rattle.changes_laws.specs.JsonNames.{HasDistinctNames}

-- a value without control characters, in which no object has a name twice
pub record IsJsonValue (text : List ℕ) : Type 0 where
  pub value : Json
  pub text_is : IsValue value text
  pub printable : All (λ b. 32 ≤ b) text
  pub distinct : HasDistinctNames value

-- an object without control characters, and so without line feeds; neither it nor an object in it has a name twice
pub record IsObjectLine (line : List ℕ) : Type 0 where
  pub members : Members
  pub text : IsJsonText (object members) line
  pub printable : All (λ b. 32 ≤ b) line
  pub distinct : HasDistinctNames (object members)

-- such lines, each with a line feed after it
pub record AreObjectLines (text : List ℕ) : Type 0 where
  pub lines : List (List ℕ)
  pub are : All IsObjectLine lines
  pub is : text ≡ flat_map (λ line. line ++ 10 ∷ []) lines

-- the time, the server and the position
abbrev pub IsLoggedHeader : Header → Type 0
IsLoggedHeader h = (h.timestamp < 2 ^ 64) × (h.server_id < 2 ^ 64) × (h.log_pos < 2 ^ 64)

abbrev pub IsLoggedContent : Content → Type 0
IsLoggedContent (OfRows m r) = AreBytes r.rows_data × (length m.column_types < 2 ^ 64)
IsLoggedContent (OfStatement q) = ⊤

abbrev pub IsLoggedChange : EventChange → Type 0
IsLoggedChange c = IsLoggedHeader c.header × IsLoggedContent c.content

-- the number of a member on request, if it is asked for and there is one
abbrev pub IsLoggedNumber : Bool → Option ℕ → Type 0
IsLoggedNumber true (Some n) = n < 2 ^ 64
IsLoggedNumber true None = ⊤
IsLoggedNumber false n = ⊤

-- the XID of a transaction, if it is asked for and there is one: a number, or the bytes of a text
abbrev pub IsLoggedXid : Bool → Option TransactionXid → Type 0
IsLoggedXid true (Some (OfNumber n)) = n < 2 ^ 64
IsLoggedXid true (Some (OfText text)) = AreBytes text
IsLoggedXid true None = ⊤
IsLoggedXid false xid = ⊤

-- those of a transaction: where it begins, when it was committed, its XID and its thread
abbrev pub AreLoggedFacts : AddedMembers → TransactionFacts → Type 0
AreLoggedFacts a f = IsLoggedNumber a.begin (Some f.begin) × IsLoggedNumber a.ts_ms f.ts_ms × IsLoggedXid a.xid f.xid × IsLoggedNumber a.thread_id f.thread_id

-- a place where reading can begin again, if there is one: the bytes of a text
abbrev pub IsLoggedPlace : Option LogPlace → Type 0
IsLoggedPlace (Some p) = AreBytes (place_text p)
IsLoggedPlace None = ⊤

-- the same of a transaction, and such a place
abbrev pub AreLoggedFactsFrom : AddedMembers → TransactionFacts → Type 0
AreLoggedFactsFrom a f = AreLoggedFacts a f × IsLoggedPlace f.resume

-- how many rows and statements there are among changes, if their numbers are asked for
abbrev pub AreLoggedRows : AddedMembers → List EventChange → Type 0
AreLoggedRows a changes = IsLoggedNumber a.row (Some (rows_of_all changes))

-- a GTID, whose UUID is bytes
abbrev pub IsLoggedGtid : Option Gtid → Type 0
IsLoggedGtid None = ⊤
IsLoggedGtid (Some Anonymous) = ⊤
IsLoggedGtid (Some (Numbered uuid number)) = AreBytes uuid
IsLoggedGtid (Some (Tagged body)) = ⊤

-- letters, digits and underscore
abbrev pub tag_characters : List ℕ
tag_characters = codes "ABCDEFGHIJKLMNOPQRSTUVWXYZabcdefghijklmnopqrstuvwxyz0123456789_"

abbrev pub is_of_tag : ℕ → Bool
is_of_tag b = list_any (λ c. c == b) tag_characters

-- a tagged GTID that was read, or none
abbrev pub IsTagRead : Option TaggedGtid → Type 0
IsTagRead None = ⊤
IsTagRead (Some g) = AreBytes g.uuid × All (λ b. IsTrue (is_of_tag b)) g.tag

-- a cell of one of n columns
abbrev pub IsCellShown : ℕ → CellJson → Type 0
IsCellShown n x = (x.column < n) × IsJsonValue x.json
