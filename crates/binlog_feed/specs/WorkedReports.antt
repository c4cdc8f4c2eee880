-- Worked reports: small files, and what is printed of each.
use Rattle.std.specs.Prelude.{ℕ, List, [], ◌∷◌, ◌++◌, take}
use Rattle.feed_checks.specs.declared.verdict.Verdict.{Verdict}
use Rattle.feed_checks.specs.EventFields.{Event}
use Rattle.feed_transactions.specs.Rules.{rules}
use Rattle.binlog_feed.specs.WorkedEvents.{begin_event, map_event, write_event, with_checksum, zeros, checksummed_with, one_insert_events}
use Rattle.feed_checks.specs.LogFormat.{magic_number, joined}
use Rattle.feed_transactions.specs.Reports.{Printed, printed, file_report}

-- what is printed of a file, with a checksum function that always returns 0
abbrev pub printed_of : List ℕ → Printed
printed_of b = printed (file_report (rules (λ bytes. 0)) b)

abbrev pub prints : List ℕ → Verdict → Printed
prints text verdict = record { text = text; verdict = verdict }

-- a file of these events
abbrev pub file_of : List Event → List ℕ
file_of l = magic_number ++ joined l

-- without the last event, or without its last byte
abbrev pub without_commit : List ℕ
without_commit = file_of (begin_event ∷ map_event ∷ write_event ∷ [])

abbrev pub without_last_byte : List ℕ
without_last_byte = take 141 (file_of one_insert_events)

-- one transaction with checksums
abbrev pub checksummed_file : List ℕ
checksummed_file = file_of (checksummed_with (with_checksum (zeros 4) 168 map_event))

-- a header that states an event length of 18 bytes, less than a header's own length
abbrev pub broken_header : List ℕ
broken_header = 0 ∷ 0 ∷ 0 ∷ 0 ∷ 16 ∷ 1 ∷ 0 ∷ 0 ∷ 0 ∷ 18 ∷ 0 ∷ 0 ∷ 0 ∷ 160 ∷ 0 ∷ 0 ∷ 0 ∷ 0 ∷ 0 ∷ []
