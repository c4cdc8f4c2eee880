-- What `follow` has written of a server's answer: the manual page binlog-changes(1), "OPTIONS OF FOLLOW".
use Rattle.std.specs.Prelude.{◌≡◌, ◌⊎◌, ⊤, ℕ, Bool, true, false, List, [], ◌∷◌, ◌++◌, codes, Option, Some, None, Result, Ok, Err}
use Rattle.std.specs.Fmt.{decimal}
use Rattle.std.specs.Io.KnownBytes.{Appends}
use Rattle.wire_buf.specs.Watched.{has_failed, inner_of}
use Rattle.wire_buf.specs.declared.watched.Watched.{Watched}
use Rattle.feed_transactions.specs.InterruptedWrites.{WritesPrefix}
use Rattle.feed_transactions.specs.Waiting.{bytes_of, WritesSome}
use Rattle.changes_commands.specs.declared.output.Failure.{Failure}
use Rattle.changes_commands.specs.declared.output.Failure.TheVariants as failed
use Rattle.changes_walks.specs.FollowedAnswers.{in_log, LogTransaction}
use Rattle.changes_lines.specs.WrittenLines.{is_by_transaction}
use Rattle.changes_origins.specs.declared.added_members.AddedMembers.{AddedMembers}
use Rattle.changes_tables.specs.MemberTexts.{utf8_json}
use Rattle.changes_tables.specs.declared.columns.TableOptions.{TableOptions}
use Rattle.changes_walks.specs.Selections.{Selected}
use Rattle.program_changes.specs.LineSinks.{AreAllLines, HasLines, HasPrefix}
use Rattle.program_changes.specs.declared.changes.LineSink.{LineSink}

-- ---- how far the logs were read

-- the line that says up to which position a log was read
abbrev pub progress_line : List ℕ → ℕ → List ℕ
progress_line name position = codes "{\"type\":\"progress\",\"file\":" ++ (utf8_json name ++ (codes ",\"position\":" ++ (decimal position ++ codes "}\n")))

-- nothing, or such a line
abbrev pub IsReached : List ℕ → List ℕ → Type 0
IsReached name text = (text ≡ []) ⊎ ((position : ℕ) × (text ≡ progress_line name position))

-- ---- lines

-- what is printed: the lines of transactions of the log with a name, which are this text; or the line that says how far it was read. In a list of
-- them the newest is the first.
pub data Printed : Type 0 where
  Lines : List ℕ → List Selected → List ℕ → Printed
  HowFar : List ℕ → ℕ → Printed

-- their text, the newest last
abbrev pub text_of : List Printed → List ℕ
text_of [] = []
text_of (Lines name m text ∷ ps) = text_of ps ++ text
text_of (HowFar name position ∷ ps) = text_of ps ++ progress_line name position

-- their transactions, the newest last
abbrev pub transactions_of : List Printed → List LogTransaction
transactions_of [] = []
transactions_of (Lines name m text ∷ ps) = transactions_of ps ++ in_log name m
transactions_of (HowFar name position ∷ ps) = transactions_of ps

-- each text is that of the lines of its transactions
abbrev pub AreLines : TableOptions → AddedMembers → Bool → List Printed → Type 0
AreLines options added by_transaction [] = Unit {0}
AreLines options added by_transaction (Lines name m text ∷ ps) = AreAllLines options added by_transaction name m text × AreLines options added by_transaction ps
AreLines options added by_transaction (HowFar name position ∷ ps) = AreLines options added by_transaction ps

-- since the first state the lines of these transactions were put after what waited then, with lines between that say how far the logs were read
pub record HasPrinted {W : Type 0} (contents : W → Option (List ℕ)) (first s : LineSink W) (l : List LogTransaction) : Type 0 where
  pub printed : List Printed
  pub form : is_by_transaction s.lines ≡ is_by_transaction first.lines
  pub options : s.options ≡ first.options
  pub added : s.added ≡ first.added
  pub are : AreLines first.options first.added (is_by_transaction first.lines) printed
  pub transactions : transactions_of printed ≡ l
  pub written : WritesSome (contents (inner_of first.writer)) (contents (inner_of s.writer)) (bytes_of first.waiting) (text_of printed) (bytes_of s.waiting)

-- since then the writer failed after a prefix of what waited and of these lines
pub record HasPrintedPrefix {W : Type 0} (contents : W → Option (List ℕ)) (first s : LineSink W) (l : List LogTransaction) : Type 0 where
  pub printed : List Printed
  pub are : AreLines first.options first.added (is_by_transaction first.lines) printed
  pub transactions : transactions_of printed ≡ l
  pub written : WritesPrefix (contents (inner_of first.writer)) (contents (inner_of s.writer)) (bytes_of first.waiting ++ text_of printed)
  pub failed : has_failed s.writer ≡ true

-- ---- acknowledgements

-- the bytes that the writer of acknowledgements has, if there is one
abbrev pub acks_in : {A : Type 0} → (A → Option (List ℕ)) → Option (Watched A) → Option (List ℕ)
acks_in contents None = None
acks_in contents (Some w) = contents (inner_of w)

-- it failed
abbrev pub has_failed_acks : {A : Type 0} → Option (Watched A) → Bool
has_failed_acks None = false
has_failed_acks (Some w) = has_failed w

-- these acknowledgements were written
abbrev pub Acknowledges : {A : Type 0} → (A → Option (List ℕ)) → Option (Watched A) → Option (Watched A) → List ℕ → Type 0
Acknowledges contents first acks due = Appends (acks_in contents first) (acks_in contents acks) due

-- the result of writing acknowledgements
abbrev pub WritesAcks : {A : Type 0} → (A → Option (List ℕ)) → Option (Watched A) → Option (Watched A) → List ℕ → Result ⊤ Failure → Type 0
WritesAcks contents old new due (Ok u) = Acknowledges contents old new due
WritesAcks contents old new due (Err e) = (e ≡ failed.Unwritten) × WritesPrefix (acks_in contents old) (acks_in contents new) due × (has_failed_acks new ≡ true)

-- ---- failures

-- the lines of the first of these were put, and all that was put is written
pub record HasSome {W : Type 0} (contents : W → Option (List ℕ)) (first s : LineSink W) (m : List Selected) : Type 0 where
  pub some : List Selected
  pub others : List Selected
  pub parts : m ≡ some ++ others
  pub has : HasLines contents first s some
  pub written : bytes_of s.waiting ≡ []

-- the writer failed within the lines of the first of these
pub record HasPrefixOfSome {W : Type 0} (contents : W → Option (List ℕ)) (first s : LineSink W) (m : List Selected) : Type 0 where
  pub some : List Selected
  pub others : List Selected
  pub parts : m ≡ some ++ others
  pub has : HasPrefix contents first s some

-- it failed at the last of these: memory ran out, or the writer failed
abbrev pub FailsSome : {W : Type 0} → (W → Option (List ℕ)) → LineSink W → LineSink W → List Selected → Failure → Type 0
FailsSome contents first s m failed.Memory = HasSome contents first s m
FailsSome contents first s m failed.Unwritten = HasPrefixOfSome contents first s m
FailsSome contents first s m failed.Closed = ⊥

-- of the transactions of an answer the lines of the first ones are written
pub record HasPrintedSome {W : Type 0} (contents : W → Option (List ℕ)) (first s : LineSink W) (l : List LogTransaction) : Type 0 where
  pub some : List LogTransaction
  pub others : List LogTransaction
  pub parts : l ≡ some ++ others
  pub printed : HasPrinted contents first s some
  pub written : bytes_of s.waiting ≡ []

-- the writer failed within the lines of the first of them
pub record HasPrintedPrefixOfSome {W : Type 0} (contents : W → Option (List ℕ)) (first s : LineSink W) (l : List LogTransaction) : Type 0 where
  pub some : List LogTransaction
  pub others : List LogTransaction
  pub parts : l ≡ some ++ others
  pub printed : HasPrintedPrefix contents first s some

-- the lines of all are written, and the writer of acknowledgements failed after these and perhaps some bytes of more
pub record LacksAcks {W A : Type 0} (contents : W → Option (List ℕ)) (ack_contents : A → Option (List ℕ)) (first s : LineSink W) (first_acks new_acks : Option (Watched A)) (l : List LogTransaction) (acks : List ℕ) : Type 0 where
  pub printed : HasPrinted contents first s l
  pub written : bytes_of s.waiting ≡ []
  pub more : List ℕ
  pub acknowledged : Acknowledges ack_contents first_acks new_acks (acks ++ more)
  pub failed : has_failed_acks new_acks ≡ true

-- It failed at the last of these transactions or after them: memory ran out, the writer of the lines failed, or that of the acknowledgements. Only
-- what was written before was acknowledged.
abbrev pub FailsPrinting : {W A : Type 0} → (W → Option (List ℕ)) → (A → Option (List ℕ)) → LineSink W → LineSink W → Option (Watched A) → Option (Watched A) → List LogTransaction → List ℕ → Failure → Type 0
FailsPrinting contents ack_contents first s first_acks new_acks l acks failed.Memory = HasPrintedSome contents first s l × Acknowledges ack_contents first_acks new_acks acks
FailsPrinting contents ack_contents first s first_acks new_acks l acks failed.Unwritten =
    (HasPrintedPrefixOfSome contents first s l × Acknowledges ack_contents first_acks new_acks acks)
    ⊎ LacksAcks contents ack_contents first s first_acks new_acks l acks
FailsPrinting contents ack_contents first s first_acks new_acks l acks failed.Closed = ⊥
