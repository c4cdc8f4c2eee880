-- Where a change comes from, as members of a JSON object after others: its time, its server, its transaction's GTID, file and position.
use Rattle.std.specs.Prelude.{◌≡◌, ℕ, List, ◌++◌, codes, Option}
use Rattle.std.specs.Fmt.{decimal}
use Rattle.events_frames.specs.Headers.{Header}
use Rattle.feed_checks.specs.Kinds.{Gtid}
use Rattle.changes_tables.specs.MemberTexts.{utf8_json}
use Rattle.changes_origins.specs.GtidJson.{IsGtidJson}

-- a time and a server
abbrev pub time_members : ℕ → ℕ → List ℕ
time_members timestamp server_id = codes ",\"ts\":" ++ (decimal timestamp ++ (codes ",\"server_id\":" ++ decimal server_id))

-- the time and the server of an event
abbrev pub header_members : Header → List ℕ
header_members h = time_members h.timestamp h.server_id

-- the GTID, the file and the position of a transaction; `gtid` is the JSON of the first
abbrev pub origin_members : List ℕ → List ℕ → ℕ → List ℕ
origin_members gtid file position = codes ",\"gtid\":" ++ (gtid ++ (codes ",\"file\":" ++ (utf8_json file ++ (codes ",\"position\":" ++ decimal position))))

-- where a transaction comes from was appended
pub record AppendsOrigin (g : Option Gtid) (file : List ℕ) (position : ℕ) (old new : List ℕ) : Type 0 where
  pub gtid : List ℕ
  pub is : IsGtidJson g gtid
  pub appended : new ≡ old ++ origin_members gtid file position
