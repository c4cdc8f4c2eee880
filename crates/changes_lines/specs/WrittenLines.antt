-- How the lines of a transaction are written, piece by piece.
use Rattle.std.specs.Prelude.{◌≡◌, ◌<◌, ◌≤◌, ⊤, ℕ, length, Bool, true, false, List, [], ◌∷◌, ◌++◌, map, codes, Option, Some, None, Result, Ok, Err, if◌then◌else◌}
use Rattle.std.specs.Borrow.{Bor}
use Rattle.feed_checks.specs.declared.verdict.Verdict.{Verdict}
use Rattle.feed_transactions.specs.InterruptedWrites.{IsInterruptedWrite}
use Rattle.feed_transactions.specs.Waiting.{WritesSome}
use Rattle.feed_text.specs.Buffers.{text_in}
use Rattle.feed_transactions.specs.Changes.{Committed}
use Rattle.changes_lines.specs.ChangeLines.{ChangeJson, change_objects}
use Rattle.changes_lines.specs.FactMembers.{LogPlace}
use Rattle.changes_lines.specs.Origins.{header_members, origin_members}
use Rattle.changes_lines.specs.ResumePlaces.{begun_place, earlier_in, ends_earlier, has_log, has_read, log_in, moved_place, place_in}
use Rattle.changes_origins.specs.GtidJson.{IsGtidJson}
use Rattle.changes_lines.specs.declared.lines.Lines.{Lines}
use Rattle.changes_lines.specs.declared.lines.Ends.{Ends}
use Rattle.changes_lines.specs.declared.lines.Head.{Head}
use Rattle.changes_lines.specs.declared.lines.Line.{Line}
use Rattle.changes_lines.specs.declared.lines.RowsInRoom.{RowsInRoom}
use Rattle.changes_lines.specs.declared.text_list.Texts.{Texts}
use Rattle.changes_lines.specs.TextLists.{AreLeft, ended}
use Rattle.std.specs.List.{flat_map}

-- whether a line is a transaction
abbrev pub is_by_transaction : Lines → Bool
is_by_transaction s = s.by_transaction

-- where reading can begin again, if that isn't the end of the newest transaction; and the newest such place
abbrev pub resume_in : Lines → Option LogPlace
resume_in s = earlier_in s.resume

abbrev pub newest_place : Lines → LogPlace
newest_place s = place_in s.resume

-- the name of the newest log
abbrev pub newest_log : Lines → List ℕ
newest_log s = log_in s.resume

-- whether a log with a name has begun; whether a place was reached, or a second log has begun; whether the newest transaction ends after the place
abbrev pub has_begun : Lines → Bool
has_begun s = has_log s.resume

abbrev pub has_moved : Lines → Bool
has_moved s = has_read s.resume

abbrev pub is_behind : Lines → Bool
is_behind s = ends_earlier s.resume

-- the place when a log with this name begins, and when reading begins at this position
abbrev pub place_at_log : Lines → List ℕ → LogPlace
place_at_log s file = begun_place s.resume file

abbrev pub place_at : Lines → ℕ → LogPlace
place_at s position = moved_place s.resume position

-- a text was put after the bytes that waited; or the writer failed after a prefix of both
abbrev pub Puts : Option (List ℕ) → Option (List ℕ) → List ℕ → List ℕ → Bool → List ℕ → Result ⊤ Verdict → Type 0
Puts old new before after failed text (Ok x) = WritesSome old new before text after
Puts old new before after failed text (Err v) = IsInterruptedWrite old new (before ++ text) failed v

-- what lines begin with
abbrev pub head_text : Head → List ℕ
head_text h = h.front.now ++ (h.origin.now ++ h.back.now)

-- whether there are texts
abbrev pub has_texts : List (List ℕ) → Bool
has_texts [] = false
has_texts (t ∷ ts) = true

-- the end of a row that isn't the last: its own, or another
abbrev pub end_of : Option (Bor (List ℕ)) → List ℕ
end_of None = codes "}\n"
end_of (Some end) = end.now

-- the end of an object, by those after it, and by whether there are more after these
abbrev pub end_before : List ℕ → List ℕ → Bool → List (List ℕ) → List ℕ
end_before each last true os = each
end_before each last false [] = last
end_before each last false (o ∷ os) = each

-- objects with their ends, before others or as the last
unfoldable pub ends_before : List ℕ → List ℕ → Bool → List (List ℕ) → List ℕ
ends_before each last more [] = []
ends_before each last more (o ∷ os) = o ++ (end_before each last more os ++ ends_before each last more os)

-- the line of a row was written, with its end; or nothing
abbrev pub MayWriteLine : Line → List ℕ → Bool → Type 0
MayWriteLine l text true = (json : List ℕ) → l.row.now ≡ ended json → text ≡ head_text l.head ++ (json ++ end_of l.end)
MayWriteLine l text false = text ≡ []

-- of these rows the first were written with their ends, each after what their lines begin with, and at least the last is left
pub record WritesFirst (head : List ℕ) (rows more : List (List ℕ)) (text : List ℕ) (left : ℕ × Texts) : Type 0 where
  pub first : List (List ℕ)
  pub others : List (List ℕ)
  pub split : rows ≡ first ++ others
  pub some : 0 < length rows → 0 < length others
  pub count : left.0 ≡ length others
  pub texts : AreLeft left.1 (map ended others ++ more)
  pub text_is : text ≡ flat_map (λ row. head ++ ended row) first

-- the same of the rows whose texts these are
pub record MayWriteRows (w : RowsInRoom) (text : List ℕ) (left : ℕ × Texts) : Type 0 where
  pub most : left.0 ≤ w.rows
  pub rows : (rows more : List (List ℕ)) → w.rows ≡ length rows → AreLeft w.texts (map ended rows ++ more) → WritesFirst w.head.now rows more text left

-- the objects of rows, with their ends, before others or as the last
abbrev pub rows_text : Head → Ends → Bool → List (List ℕ) → List ℕ
rows_text h e more rows = ends_before (end_of e.each) e.last.now more (map (λ row. head_text h ++ row) rows)

-- the objects of a change with their ends, before others or as the last
abbrev pub change_text : List ℕ → Ends → Bool → ChangeJson → List ℕ
change_text origin e more x = ends_before (end_of e.each) e.last.now more (change_objects origin x)

-- the members that all lines of a transaction have were made; `gtid` is the JSON of its GTID, and `more` its members on request
abbrev pub IsBegun : Lines → List ℕ → Committed → List ℕ → List ℕ → Type 0
IsBegun s file t gtid more =
    text_in s.origin ≡ (if s.by_transaction then header_members t.commit ++ (origin_members gtid file t.commit.log_pos ++ more) else origin_members gtid file t.commit.log_pos ++ more)

-- the same, with its GTID
pub record Begins (s : Lines) (file : List ℕ) (t : Committed) (more : List ℕ) : Type 0 where
  pub gtid : List ℕ
  pub is : IsGtidJson t.gtid gtid
  pub begun : IsBegun s file t gtid more
