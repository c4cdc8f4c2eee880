-- Where reading can begin again: a place in the logs at which no XA transaction is prepared.
use Rattle.std.specs.Prelude.{List, ℕ, Bool, Option, Some, None, cond, length, not, ◌&&◌, ◌||◌, ◌==◌, if◌then◌else◌}
use Rattle.changes_lines.specs.FactMembers.{LogPlace}
use Rattle.changes_lines.specs.declared.resume_place.ResumePlace.{ResumePlace}

-- the newest such place
abbrev pub place_in : ResumePlace → LogPlace
place_in s = record { file = s.file.items; position = s.position }

-- whether the newest transaction ends after it; and the place then
abbrev pub ends_earlier : ResumePlace → Bool
ends_earlier s = s.is_earlier

abbrev pub earlier_in : ResumePlace → Option LogPlace
earlier_in s = cond (ends_earlier s) (Some (place_in s)) None

-- the name of the newest log
abbrev pub log_in : ResumePlace → List ℕ
log_in s = if s.has_next then s.next_file.items else s.file.items

-- whether a log with a name has begun
abbrev pub has_log : ResumePlace → Bool
has_log s = not (length s.file.items == 0 && not s.has_next)

-- whether a place was reached, or a second log has begun
abbrev pub has_read : ResumePlace → Bool
has_read s = s.is_end || s.has_next

-- the place when a log with this name begins: it is in the first
abbrev pub begun_place : ResumePlace → List ℕ → LogPlace
begun_place s file = if has_log s then place_in s else record { file = file; position = s.position }

-- the place when reading begins at this position
abbrev pub moved_place : ResumePlace → ℕ → LogPlace
moved_place s position = if has_read s then place_in s else record { file = s.file.items; position = position }
