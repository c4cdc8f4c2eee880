-- What is shown of a committed transaction that a recorder has, of the changes that a filter takes: whether anything, and its lines or its record.
use Rattle.std.specs.Prelude.{◌≡◌, ◌&&◌, ℕ, Bool, List}
use Rattle.std.specs.List.{filter}
use Rattle.feed_transactions.specs.Changes.{Committed}
use Rattle.feed_change_log.specs.Filters.{takes_change, takes_transaction}
use Rattle.feed_change_log.specs.declared.filter.Filter.{Filter}
use Rattle.changes_lines.specs.ChangeLines.{ChangeJson, transaction_lines}
use Rattle.changes_lines.specs.RecordedLines.{HasChanges, has_some, members_from}
use Rattle.changes_lines.specs.WrittenLines.{is_by_transaction, resume_in}
use Rattle.changes_lines.specs.declared.lines.Lines.{Lines}
use Rattle.changes_lines.specs.declared.recorder.JsonRecorder.{JsonRecorder}
use Rattle.changes_origins.specs.GtidJson.{IsGtidJson}
use Rattle.library_log.specs.RecordLayouts.{IsRecord}
use Rattle.library_log.specs.RecordedTransactions.{begin_in, takes_some}
use Rattle.library_log.specs.declared.shown_recorder.ShownRecorder.{ShownRecorder}
use Rattle.library_log.specs.declared.shown_recorder.ShownRecorder.TheVariants as variants

-- a transaction is shown if it has changes that are taken, and the filter takes its position and its time
abbrev pub IsShown : Filter → ShownRecorder → Committed → Bool → Type 0
IsShown f (variants.Lines s) t b = (xs : List ChangeJson) → HasChanges s xs → b ≡ (has_some xs && takes_transaction f t)
IsShown f (variants.Record s) t b = b ≡ (takes_some f t && takes_transaction f t)

-- the text is the lines of the transaction, in their form, and with the place that they know to begin again
pub record HasLines (lines : Lines) (file : List ℕ) (s : JsonRecorder) (t : Committed) (text : List ℕ) : Type 0 where
  pub gtid : List ℕ
  pub is : IsGtidJson t.gtid gtid
  pub text_is : (xs : List ChangeJson) → HasChanges s xs → text ≡ transaction_lines (is_by_transaction lines) file t gtid (members_from (resume_in lines) s) xs

-- the text is the lines of the transaction, or its record, as the recorder keeps it; of the changes that a filter takes
abbrev pub HasShown : Filter → Lines → List ℕ → ShownRecorder → Committed → List ℕ → Type 0
HasShown f lines file (variants.Lines s) t text = HasLines lines file s t text
HasShown f lines file (variants.Record s) t text = IsRecord (begin_in s) t (filter (takes_change f) t.changes) text
