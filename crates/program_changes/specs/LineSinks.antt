-- What `json` has written: the lines of the selected transactions.
use Rattle.std.specs.Global.{Vec}
use Rattle.std.specs.Prelude.{◌≡◌, ◌⊎◌, ⊤, ℕ, Bool, true, false, List, [], ◌++◌, Option, Some, None, Result, Ok, Err}
use Rattle.std.specs.Io.KnownBytes.{Appends}
use Rattle.std.specs.List.{AllZip, flat_map}
use Rattle.wire_buf.specs.Watched.{inner_of, has_failed}
use Rattle.feed_checks.specs.declared.verdict.Verdict.{Verdict}
use Rattle.feed_transactions.specs.InterruptedWrites.{WritesPrefix}
use Rattle.feed_transactions.specs.Rules.{Judge}
use Rattle.feed_transactions.specs.Waiting.{bytes_of, WritesSome}
use Rattle.changes_commands.specs.declared.command_line.Options.{Options}
use Rattle.changes_commands.specs.declared.output.Failure.{Failure}
use Rattle.changes_commands.specs.declared.output.Failure.TheVariants as failed
use Rattle.changes_lines.specs.ChangeLines.{AreLines}
use Rattle.changes_lines.specs.RecordedLines.{added_of, filter_of, options_of}
use Rattle.changes_lines.specs.declared.recorder.JsonRecorder.{JsonRecorder}
use Rattle.changes_origins.specs.declared.added_members.AddedMembers.{AddedMembers}
use Rattle.feed_change_log.specs.Filters.{table_filter_of}
use Rattle.feed_change_log.specs.declared.filter.Filter.{Filter}
use Rattle.changes_lines.specs.WrittenLines.{is_by_transaction}
use Rattle.changes_lines.specs.declared.lines.Lines.{Lines}
use Rattle.changes_tables.specs.declared.columns.TableOptions.{TableOptions}
use Rattle.changes_tables.specs.declared.tables.Lacks.{Lacks}
use Rattle.changes_tables.specs.declared.columns.Shown.TheVariants as shown
use Rattle.changes_walks.specs.LogWalks.{EndsLog}
use Rattle.changes_walks.specs.SourceStates.{Known}
use Rattle.changes_walks.specs.Selections.{after_for, IsFilterOf, Selected, start_for, stop_for}
use Rattle.changes_walks.specs.declared.walk.LogEnd.{LogEnd}
use Rattle.changes_walks.specs.declared.walk.LogEnd.TheVariants as ends
use Rattle.program_changes.specs.declared.changes.LineSink.{LineSink}

-- the lines of a transaction's selected changes
abbrev pub AreSelectedLines : TableOptions → AddedMembers → Bool → List ℕ → Selected → List ℕ → Type 0
AreSelectedLines options added by_transaction file s text = AreLines options added by_transaction file s.transaction s.changes text

-- the lines of transactions, one transaction after the other
pub record AreAllLines (options : TableOptions) (added : AddedMembers) (by_transaction : Bool) (file : List ℕ) (m : List Selected) (text : List ℕ) : Type 0 where
  pub texts : List (List ℕ)
  pub are : AllZip (AreSelectedLines options added by_transaction file) m texts
  pub joined : text ≡ flat_map (λ t. t) texts

-- a recorder keeps what a sink is passed: the changes that a filter takes, as the sink's options show them
pub record IsRecorderFor {W : Type 0} (s : LineSink W) (f : Filter) (newest : JsonRecorder) : Type 0 where
  pub filter : filter_of newest ≡ table_filter_of f
  pub options : options_of newest ≡ s.options
  pub added : added_of newest ≡ s.added

-- since the first state the lines of these transactions were put after what waited then
pub record HasLines {W : Type 0} (contents : W → Option (List ℕ)) (first s : LineSink W) (m : List Selected) : Type 0 where
  pub text : List ℕ
  pub form : is_by_transaction s.lines ≡ is_by_transaction first.lines
  pub name : s.file.items ≡ first.file.items
  pub options : s.options ≡ first.options
  pub added : s.added ≡ first.added
  pub are : AreAllLines first.options first.added (is_by_transaction first.lines) first.file.items m text
  pub written : WritesSome (contents (inner_of first.writer)) (contents (inner_of s.writer)) (bytes_of first.waiting) text (bytes_of s.waiting)

-- since then the writer failed after a prefix of these lines
pub record HasPrefix {W : Type 0} (contents : W → Option (List ℕ)) (first s : LineSink W) (m : List Selected) : Type 0 where
  pub text : List ℕ
  pub are : AreAllLines first.options first.added (is_by_transaction first.lines) first.file.items m text
  pub written : WritesPrefix (contents (inner_of first.writer)) (contents (inner_of s.writer)) (bytes_of first.waiting ++ text)
  pub failed : has_failed s.writer ≡ true

-- it failed at the last of these: out of memory before a byte of its lines, or the writer failed within them
abbrev pub FailsLines : {W : Type 0} → (W → Option (List ℕ)) → LineSink W → LineSink W → List Selected → Failure → Type 0
FailsLines contents first s m failed.Memory = (l : List Selected) × (last : List Selected) × (m ≡ l ++ last) × HasLines contents first s l
FailsLines contents first s m failed.Unwritten = HasPrefix contents first s m
FailsLines contents first s m failed.Closed = ⊥

-- ---- a sink

-- how tables are shown, by the options
abbrev pub table_options : Options → TableOptions
table_options o = record {
  unnamed = elim o.character_set [ None ↦ shown.Unknown | Some set ↦ shown.Text set ];
  quotes_numbers = o.quotes_numbers;
}

-- the same but for its name, and for what its lines know of places to begin again
pub record Renames {W : Type 0} (old new : LineSink W) : Type 0 where
  pub file : Vec ℕ
  pub lines : Lines
  pub form : is_by_transaction lines ≡ is_by_transaction old.lines
  pub is : new ≡ record old { file = file; lines = lines }

-- the same but for what its lines know of places to begin again
pub record BeginsAt {W : Type 0} (old new : LineSink W) : Type 0 where
  pub lines : Lines
  pub form : is_by_transaction lines ≡ is_by_transaction old.lines
  pub is : new ≡ record old { lines = lines }

-- a sink for the lines of a log without a name, as options say; nothing waits, and the writer hasn't failed
pub record IsNewSink {W : Type 0} (s : LineSink W) (o : Options) (lines : Lines) (lacks : Lacks) (writer : W) : Type 0 where
  pub file_is : s.file.items ≡ []
  pub lines_is : s.lines ≡ lines
  pub lacks_is : s.lacks ≡ lacks
  pub waiting_is : bytes_of s.waiting ≡ []
  pub writer_is : inner_of s.writer ≡ writer
  pub unfailed : has_failed s.writer ≡ false
  pub options_is : s.options ≡ table_options o
  pub added_is : s.added ≡ o.added

-- all that waited was written, and then a line
pub record HasWrittenLast {W : Type 0} (contents : W → Option (List ℕ)) (old new : LineSink W) (line : List ℕ) : Type 0 where
  pub written : Appends (contents (inner_of old.writer)) (contents (inner_of new.writer)) (bytes_of old.waiting ++ line)
  pub none : bytes_of new.waiting ≡ []
  pub file_is : new.file ≡ old.file
  pub lines_are : new.lines ≡ old.lines
  pub options_are : new.options ≡ old.options
  pub added_is : new.added ≡ old.added

-- the writer failed after a prefix of both
pub record IsCutAtLast {W : Type 0} (contents : W → Option (List ℕ)) (old new : LineSink W) (line : List ℕ) : Type 0 where
  pub written : WritesPrefix (contents (inner_of old.writer)) (contents (inner_of new.writer)) (bytes_of old.waiting ++ line)
  pub failed : has_failed new.writer ≡ true

abbrev pub WritesLast : {W : Type 0} → (W → Option (List ℕ)) → LineSink W → LineSink W → List ℕ → Result ⊤ Verdict → Type 0
WritesLast contents old new line (Ok u) = HasWrittenLast contents old new line
WritesLast contents old new line (Err v) = IsCutAtLast contents old new line

-- since memory ran out the lines that waited were written, and why it fails then
abbrev pub FailsForMemory : {W : Type 0} → (W → Option (List ℕ)) → LineSink W → LineSink W → Failure → Type 0
FailsForMemory contents old new failed.Memory = HasWrittenLast contents old new []
FailsForMemory contents old new failed.Unwritten = IsCutAtLast contents old new []
FailsForMemory contents old new failed.Closed = ⊥

-- ---- a log

-- why a walk ended, if the lines that waited then weren't written
abbrev pub unwritten : LogEnd → LogEnd
unwritten (ends.Failed e) = ends.Failed e
unwritten _ = ends.Failed failed.Unwritten

-- why the lines of a log end, by the result of writing those that waited at its walk's end
abbrev pub IsEnd : LogEnd → Result ⊤ Verdict → LogEnd → Type 0
IsEnd end (Ok u) result = result ≡ end
IsEnd end (Err v) result = result ≡ unwritten end

-- the lines that waited were written; or the writer failed after a prefix of them
abbrev pub Finishes : {W : Type 0} → (W → Option (List ℕ)) → LineSink W → LineSink W → LogEnd → LogEnd → Type 0
Finishes contents s new end result =
    ((result ≡ end) × Appends (contents (inner_of s.writer)) (contents (inner_of new.writer)) (bytes_of s.waiting))
    ⊎ ((result ≡ unwritten end) × WritesPrefix (contents (inner_of s.writer)) (contents (inner_of new.writer)) (bytes_of s.waiting) × (has_failed new.writer ≡ true))

-- the lines of a log were written: `sink` is the state before those that waited at its end were
pub record WritesLog {W : Type 0} (contents : W → Option (List ℕ)) (judge : Judge) (f : Filter) (start stop : Option ℕ) (known : Known) (b : List ℕ) (first new : LineSink W) (result : LogEnd) : Type 0 where
  pub sink : LineSink W
  pub end : LogEnd
  pub walked : EndsLog judge (HasLines contents first) (FailsLines contents first) f start stop [] known b sink end
  pub finished : Finishes contents sink new end result

-- the lines of what the options select of a log were written, by what is known before it; `is_first` and `next` are its place among the logs
pub record WritesSelected {W A : Type 0} (contents : W → Option (List ℕ)) (judge : Judge) (o : Options) (is_first : Bool) (next : Option A) (known : Known) (b : List ℕ) (first new : LineSink W) (result : LogEnd) : Type 0 where
  pub filter : Filter
  pub filter_is : IsFilterOf o (after_for o.range.after next) filter
  pub writes : WritesLog contents judge filter (start_for o.range.start is_first) (stop_for o.range.stop next) known b first new result
