-- What `follow` prints of a server's answer, and the status that it ends with: the manual page binlog-changes(1), "OPTIONS OF FOLLOW" and "EXIT STATUS".
use Rattle.std.specs.Prelude.{◌≡◌, ◌⊎◌, ℕ, Bool, List, [], Option, Some, None, max, if◌then◌else◌}
use Rattle.feed_checks.specs.declared.verdict.Verdict.{Verdict}
use Rattle.feed_transactions.specs.Rules.{Judge}
use Rattle.feed_transactions.specs.Waiting.{bytes_of}
use Rattle.feed_change_log.specs.declared.filter.Filter.{Filter}
use Rattle.feed_replication.specs.declared.answer_events.AnswerEvents.{AnswerEvents}
use Rattle.feed_replication.specs.declared.format.PayloadFormat.{PayloadFormat as Format}
use Rattle.feed_replication.specs.declared.format.PayloadFormat.TheVariants as formats
use Rattle.changes_commands.specs.declared.command_line.Options.{Options}
use Rattle.changes_commands.specs.declared.output.Failure.TheVariants as failed
use Rattle.changes_lines.specs.RecordedLines.{IsLikeJson, IsOpenJson}
use Rattle.changes_lines.specs.WrittenLines.{is_by_transaction}
use Rattle.changes_walks.specs.Findings.{status_of_verdict}
use Rattle.changes_walks.specs.Selections.{IsFilterOf}
use Rattle.changes_walks.specs.SourceStates.{Known}
use Rattle.changes_walks.specs.FollowedAnswers.{Asked, HasAnswered, HasAnswerFailure}
use Rattle.changes_walks.specs.FollowedEnds.{FollowsLogs}
use Rattle.changes_walks.specs.declared.following.FollowEnd.{FollowEnd}
use Rattle.changes_walks.specs.declared.following.FollowEnd.TheVariants as ends
use Rattle.program_changes.specs.FollowedLines.{Acknowledges, FailsPrinting, HasPrinted}
use Rattle.program_changes.specs.LineSinks.{table_options, IsRecorderFor}
use Rattle.program_changes.specs.declared.printer.Printer.{Printer}

-- ---- the beginning

-- the name of the log before the server names one
abbrev pub first_name : Options → List ℕ
first_name o = elim o.follow.log_name [ None ↦ [] | Some name ↦ name.now ]

-- the format of an answer: that of a semi-synchronous source, if acknowledgements are written
abbrev pub payload_format : Options → Format
payload_format o = elim o.follow.semi_sync [ None ↦ formats.Plain | Some path ↦ formats.SemiSync ]

-- what is asked of a source, by options, with payloads of at most 1 GiB
abbrev pub asked_by : Options → (List ℕ → ℕ) → Asked
asked_by o sum = record {
  format = payload_format o;
  limit = 1073741824;
  sum = sum;
  first = first_name o;
}

-- a printer for lines as options say, in which no line waits
pub record IsNewPrinter {W A T : Type 0} (o : Options) (p : Printer W A T) : Type 0 where
  pub form : is_by_transaction p.sink.lines ≡ o.by_transaction
  pub options_are : p.sink.options ≡ table_options o
  pub added_is : p.sink.added ≡ o.added
  pub none_waits : bytes_of p.sink.waiting ≡ []

-- ---- what is printed

-- since its first state a printer printed the lines of these transactions, and wrote these acknowledgements
abbrev pub HasPrintedLogs : {W A T : Type 0} → (W → Option (List ℕ)) → (A → Option (List ℕ)) → Printer W A T → HasAnswered (Printer W A T)
HasPrintedLogs contents ack_contents first s l acks = HasPrinted contents first.sink s.sink l × Acknowledges ack_contents first.acks s.acks acks

-- it failed at the last of them, or after them
abbrev pub FailsInPrinting : {W A T : Type 0} → (W → Option (List ℕ)) → (A → Option (List ℕ)) → Printer W A T → HasAnswerFailure (Printer W A T)
FailsInPrinting contents ack_contents first s l acks e = FailsPrinting contents ack_contents first.sink s.sink first.acks s.acks l acks e

-- all lines are written
abbrev pub HasWrittenAll : {W A T : Type 0} → Printer W A T → Type 0
HasWrittenAll s = bytes_of s.sink.waiting ≡ []

-- An answer was followed to its end: the lines of the transactions that options select were printed. `old` and `left` are the bytes that the reader
-- had and has left, `room` is the length of the buffer for what it gives.
pub record PrintsAnswer {G W A T : Type 0} (contents : W → Option (List ℕ)) (ack_contents : A → Option (List ℕ)) (q : Asked) (judge : Judge) (o : Options) (known : Known) (first new : Printer W A T) (answer : AnswerEvents G) (old left : Option (List ℕ)) (room : ℕ) (failed : Bool) (end : FollowEnd) : Type 0 where
  pub filter : Filter
  pub filter_is : IsFilterOf o None filter
  pub follows : FollowsLogs IsOpenJson IsLikeJson (λ s f newest. IsRecorderFor s.sink f newest) q judge filter known (HasPrintedLogs contents ack_contents first) (FailsInPrinting contents ack_contents first) HasWrittenAll answer new old left room failed end

-- ---- the status

-- The status after an end, by the verdict of the log. 0: the answer ended, or who read the output has gone. 1: a connection that dropped within a
-- packet, what no server sends, or damage. 3: reading or writing failed, or memory ran out, also for what is said of damage.
abbrev pub IsEndStatus : FollowEnd → Verdict → Bool → ℕ → Type 0
IsEndStatus ends.Ended v is_closed status = status ≡ 0
IsEndStatus ends.Cut v is_closed status = status ≡ 1
IsEndStatus ends.Unread v is_closed status = status ≡ 3
IsEndStatus (ends.Packet p) v is_closed status = status ≡ status_of_verdict p
IsEndStatus ends.Fault v is_closed status = (status ≡ max (status_of_verdict v) 1) ⊎ (status ≡ 3)
IsEndStatus ends.Memory v is_closed status = status ≡ 3
IsEndStatus (ends.Failed failed.Closed) v is_closed status = status ≡ 0
IsEndStatus (ends.Failed failed.Memory) v is_closed status = status ≡ 3
IsEndStatus (ends.Failed failed.Unwritten) v is_closed status = status ≡ (if is_closed then 0 else 3)
