-- What `check --json` says of a log: the manual page of binlog-changes, "Output of check --json" and "Gaps".
use Rattle.std.specs.Prelude.{◌≡◌, ◌++◌, ℕ, Bool, true, false, List, [], codes, Option, Some, None, nat_lt}
use Rattle.std.specs.Fmt.{decimal}
use Rattle.events_frames.specs.Headers.{event_header_of}
use Rattle.events_frames.specs.declared.event_header.BinlogEventHeader.{BinlogEventHeader}
use Rattle.feed_checks.specs.Verdicts.{verdict_name}
use Rattle.feed_checks.specs.declared.verdict.Verdict.{Verdict}
use Rattle.feed_change_log.specs.Stops.{next_offset}
use Rattle.feed_change_log.specs.declared.stop.Stop.{Stop}
use Rattle.changes_tables.specs.MemberTexts.{utf8_json}
use Rattle.changes_walks.specs.Findings.{is_whole}
use Rattle.changes_walks.specs.declared.words.Checked.{Checked}
use Rattle.changes_walks.specs.declared.words.Selected.{Selected}

-- ---- what is known

-- where the last transaction ends; of those that the options select, if there are such options
abbrev pub last_commit_of : Checked → Option ℕ
last_commit_of c = elim c.selected [ None ↦ c.stop.last_commit | Some s ↦ s.last ]

-- whether something was left out
abbrev pub has_gaps : Checked → Bool
has_gaps c = elim c.gaps [ None ↦ false | Some n ↦ nat_lt 0 n ]

-- where a gap is, for people
abbrev pub gap_words : List ℕ → ℕ → ℕ → List ℕ → List ℕ
gap_words path from to reason = path ++ (codes ": a gap from " ++ (decimal from ++ (codes " to " ++ (decimal to ++ (codes ": " ++ (reason ++ codes "\n"))))))

-- ---- members of an object, in their order

-- a number, or null
abbrev pub number_json : Option ℕ → List ℕ
number_json None = codes "null"
number_json (Some n) = decimal n

abbrev pub truth_json : Bool → List ℕ
truth_json true = codes "true"
truth_json false = codes "false"

-- the path of the log as it was given, and the word of the verdict
abbrev pub start_json : List ℕ → Verdict → List ℕ
start_json path verdict = codes "{\"file\":" ++ (utf8_json path ++ (codes ",\"verdict\":" ++ utf8_json (verdict_name verdict)))

abbrev pub place_json : Stop → List ℕ
place_json x = (codes ",\"is_whole\":" ++ truth_json (is_whole x)) ++ (codes ",\"offset\":" ++ decimal x.offset)

-- the event at which the log ended, if there is one; which name the type has isn't stated
abbrev pub EventJson : Option BinlogEventHeader → List ℕ → Type 0
EventJson None text = text ≡ []
EventJson (Some h) text = (type : List ℕ) × (text ≡ codes ",\"event_type\":\"" ++ (type ++ (codes "\",\"event_size\":" ++ decimal (event_header_of h).event_size)))

abbrev pub end_json : Checked → List ℕ
end_json c = (codes ",\"last_commit\":" ++ number_json (last_commit_of c)) ++ ((codes ",\"is_open\":" ++ truth_json c.stop.is_open) ++ (codes ",\"is_cut\":" ++ truth_json c.stop.is_cut))

abbrev pub rest_json : Stop → List ℕ
rest_json x = (codes ",\"remaining\":" ++ decimal x.remaining) ++ (codes ",\"next_offset\":" ++ number_json (next_offset x))

-- what the options select, if there are such options
abbrev pub selected_json : Option Selected → Option ℕ → List ℕ
selected_json None up_to = []
selected_json (Some s) up_to = (codes ",\"transactions\":" ++ decimal s.count) ++ (codes ",\"checked_up_to\":" ++ number_json up_to)

-- how many gaps there are, if transactions that can't be read are left out
abbrev pub gaps_json : Option ℕ → List ℕ
gaps_json None = []
gaps_json (Some n) = codes ",\"gaps\":" ++ decimal n

-- ---- the object

pub record CheckedJson (c : Checked) (text : List ℕ) : Type 0 where
  pub event : List ℕ
  pub event_is : EventJson c.stop.header event
  pub is : text ≡ start_json c.path.now c.stop.verdict ++ (place_json c.stop ++ (event ++ (end_json c ++ (rest_json c.stop ++ (selected_json c.selected c.up_to ++ (gaps_json c.gaps ++ codes "}\n"))))))
