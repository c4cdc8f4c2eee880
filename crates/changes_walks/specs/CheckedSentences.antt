-- What `check` says of a log, for people: the manual page of binlog-changes, "Output of check". What a fault means, and what can be done about it, is an explanation, which isn't defined here.
use Rattle.std.specs.Prelude.{◌≡◌, ◌++◌, ◌&&◌, ◌||◌, not, ℕ, Bool, true, false, List, [], ◌∷◌, codes, Option, Some, None, nat_lt, if◌then◌else◌}
use Rattle.std.specs.Fmt.{decimal}
use Rattle.events_frames.specs.Headers.{event_header_of}
use Rattle.events_frames.specs.declared.event_header.BinlogEventHeader.{BinlogEventHeader}
use Rattle.feed_change_log.specs.declared.stop.Stop.{Stop}
use Rattle.changes_walks.specs.CheckedWords.{has_gaps, last_commit_of}
use Rattle.changes_walks.specs.Findings.{is_end}
use Rattle.changes_walks.specs.declared.words.Checked.{Checked}
use Rattle.changes_walks.specs.declared.words.Selected.{Selected}

-- why it ended after an event: within a transaction, with gaps before its end, or by what its verdict means
abbrev pub meaning_words : Checked → List ℕ
meaning_words c =
    if is_end c.stop.verdict && c.stop.is_open then codes "the log ends within a transaction"
    else if is_end c.stop.verdict && has_gaps c then codes "the log is whole but for its gaps"
    else c.explanation.meaning.now

-- why it ended: within an event, or after one
abbrev pub cause_words : Checked → List ℕ
cause_words c =
    if c.stop.is_cut then codes "the log ends within an event, " ++ (decimal c.stop.remaining ++ (codes " bytes after position " ++ decimal c.stop.offset))
    else meaning_words c

-- up to where it was read, if that isn't its end
abbrev pub up_to_words : Option ℕ → List ℕ
up_to_words None = []
up_to_words (Some n) = codes " up to " ++ (decimal n ++ codes ", and isn't checked after it")

-- the event at which it ended, if there is one; which name the type has isn't stated
abbrev pub EventWords : Option BinlogEventHeader → List ℕ → Type 0
EventWords None text = text ≡ []
EventWords (Some h) text = (type : List ℕ) × (text ≡ codes ", " ++ (type ++ (codes " of " ++ (decimal (event_header_of h).event_size ++ codes " bytes"))))

-- whether it ended by a fault after its first bytes
abbrev pub has_place : Stop → Bool
has_place x = not (is_end x.verdict) && nat_lt 0 x.offset

-- where it ended, if that was so
abbrev pub PlaceBy : Bool → Stop → List ℕ → Type 0
PlaceBy false x text = text ≡ []
PlaceBy true x text = (event : List ℕ) × EventWords x.header event × (text ≡ codes ", at position " ++ (decimal x.offset ++ event))

abbrev pub PlaceWords : Stop → List ℕ → Type 0
PlaceWords x text = PlaceBy (has_place x) x text

-- how many gaps it has, if it has some
abbrev pub gaps_words : Option ℕ → List ℕ
gaps_words None = []
gaps_words (Some n) = if nat_lt 0 n then codes "; gaps: " ++ decimal n else []

-- words and a position, if there is one
abbrev pub position_words : List ℕ → Option ℕ → List ℕ
position_words words None = []
position_words words (Some n) = words ++ decimal n

-- where the last transaction ends; if there are options that select transactions, how many they select, and where the last of these ends
abbrev pub transactions_by : Option Selected → Option ℕ → List ℕ
transactions_by None last = position_words (codes "; the last transaction ends at ") last
transactions_by (Some s) last = codes "; selected transactions: " ++ (decimal s.count ++ position_words (codes ", the last ends at ") last)

abbrev pub transactions_words : Checked → List ℕ
transactions_words c = transactions_by c.selected (last_commit_of c)

-- whether a transaction is open, where it ended by a fault or within an event
abbrev pub says_open : Stop → Bool
says_open x = x.is_open && (not (is_end x.verdict) || x.is_cut)

abbrev pub open_words : Stop → List ℕ
open_words x = if says_open x then codes "; a transaction is open" else []

-- what can be done about a fault
abbrev pub advice_words : Checked → List ℕ
advice_words c = if is_end c.stop.verdict then [] else codes "; " ++ c.explanation.advice.now

-- the line
abbrev pub AreCheckedWords : Checked → List ℕ → Type 0
AreCheckedWords c text =
    (place : List ℕ) × PlaceWords c.stop place
    × (text ≡ c.path.now ++ (codes ": " ++ (cause_words c ++ (up_to_words c.up_to ++ (place ++ (gaps_words c.gaps ++ (transactions_words c ++ (open_words c.stop ++ (advice_words c ++ codes "\n")))))))))

-- the line that says that a log before another isn't closed
abbrev pub unclosed_words : List ℕ → ℕ → List ℕ
unclosed_words path offset =
    codes "binlog-changes: " ++ (path ++ (codes ": the log ends at " ++ (decimal offset ++ codes " without a rotate or stop event, so transactions may be missing; compare its size with SHOW BINARY LOGS, and give the logs after it in a run of their own\n")))
