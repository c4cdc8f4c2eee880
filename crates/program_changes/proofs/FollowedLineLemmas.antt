-- The lines of `follow`, one write after the other.
use Rattle.std.proofs.Common.{◌≡◌, ℕ, List, [], ◌∷◌, ◌++◌, Option, Some, None, Result, Ok, Err, inl, inr, refl, sym, ap, subst, ◌∙◌}
use Rattle.std.specs.Prelude.{⊤, IfErr, OnOk}
use Rattle.std.specs.Io.KnownBytes.{Appends}
use Rattle.std.proofs.KnownBytes.{Appends-trans}
use Rattle.std.proofs.lemmas.List.{append-nil}
use Rattle.wire_buf.specs.Watched.{has_failed, inner_of}
use Rattle.wire_buf.specs.declared.watched.Watched.{Watched}
use Rattle.feed_checks.specs.declared.verdict.Verdict.{Verdict}
use Rattle.feed_checks.specs.declared.verdict.Verdict.TheVariants as verdicts
use Rattle.feed_transactions.specs.InterruptedWrites.{IsInterruptedWrite, WritesPrefix}
use Rattle.feed_transactions.specs.Waiting.{bytes_of, WritesSome}
use Rattle.feed_transactions.proofs.WaitingLemmas.{interrupted_after, writes_none}
use Rattle.feed_change_log.specs.declared.filter.Filter.{Filter}
use Rattle.changes_commands.specs.declared.output.Failure.{Failure}
use Rattle.changes_commands.specs.declared.output.Failure.TheVariants as failed
use Rattle.changes_walks.specs.FollowedAnswers.{LogTransaction}
use Rattle.changes_lines.specs.WrittenLines.{is_by_transaction}
use Rattle.changes_lines.specs.declared.recorder.JsonRecorder.{JsonRecorder}
use Rattle.changes_lines.proofs.WriteLemmas.{fails_then, writes_both}
use Rattle.changes_walks.specs.Selections.{Selected}
use Rattle.program_changes.specs.FollowedLines.{progress_line, acks_in, Acknowledges, FailsPrinting, FailsSome, HasPrinted, HasPrintedPrefix, HowFar, IsReached, WritesAcks, text_of}
use Rattle.program_changes.specs.LineSinks.{BeginsAt, FailsForMemory, FailsLines, HasLines, HasPrefix, HasWrittenLast, IsCutAtLast, IsRecorderFor, Renames, WritesLast}
use Rattle.program_changes.specs.declared.changes.LineSink.{LineSink}

-- ---- the last line of a write

-- a line was put after what waited, and then all was written, or not
pub last_written : {W : Type 0} (contents : W → Option (List ℕ)) (old new : LineSink W) (line : List ℕ) (r : Result ⊤ Verdict) (between : Option (List ℕ)) (waiting : List ℕ) → WritesSome (contents (inner_of old.writer)) between (bytes_of old.waiting) line waiting
    → OnOk r (Appends between (contents (inner_of new.writer)) waiting) → bytes_of new.waiting ≡ [] → IfErr r (IsInterruptedWrite between (contents (inner_of new.writer)) waiting (has_failed new.writer))
    → new.file ≡ old.file → new.lines ≡ old.lines → new.options ≡ old.options → new.added ≡ old.added → WritesLast contents old new line r
last_written contents old new line (Ok u) between waiting h all none cut file lines options added = record {
  written = subst (Appends (contents (inner_of old.writer)) (contents (inner_of new.writer))) (sym h.joined) (Appends-trans (contents (inner_of old.writer)) between (contents (inner_of new.writer)) h.bytes waiting h.written all);
  none = none;
  file_is = file;
  lines_are = lines;
  options_are = options;
  added_is = added;
}
last_written contents old new line (Err v) between waiting h all none cut file lines options added =
    let why = interrupted_after (contents (inner_of old.writer)) between (contents (inner_of new.writer)) h.bytes waiting (has_failed new.writer) v h.written cut in
    record { written = subst (WritesPrefix (contents (inner_of old.writer)) (contents (inner_of new.writer))) (sym h.joined) why.1; failed = why.2 }

module _ {W : Type 0} (contents : W → Option (List ℕ)) (first old new : LineSink W) (line : List ℕ) where
  -- a text, and then this line
  both : (t u : List ℕ) → t ++ line ≡ u → WritesSome (contents (inner_of first.writer)) (contents (inner_of old.writer)) (bytes_of first.waiting) t (bytes_of old.waiting) → HasWrittenLast contents old new line
      → WritesSome (contents (inner_of first.writer)) (contents (inner_of new.writer)) (bytes_of first.waiting) u (bytes_of new.waiting)
  both t u is h k =
      let last : WritesSome (contents (inner_of old.writer)) (contents (inner_of new.writer)) (bytes_of old.waiting) line (bytes_of new.waiting) = record {
        bytes = bytes_of old.waiting ++ line;
        written = k.written;
        joined = sym (append-nil (bytes_of old.waiting ++ line)) ∙ ap (λ (x : List ℕ). (bytes_of old.waiting ++ line) ++ x) (sym k.none);
      } in
      subst (λ (x : List ℕ). WritesSome (contents (inner_of first.writer)) (contents (inner_of new.writer)) (bytes_of first.waiting) x (bytes_of new.waiting)) is (writes_both _ _ _ _ _ _ t line h last)

  cut : (t u : List ℕ) → t ++ line ≡ u → WritesSome (contents (inner_of first.writer)) (contents (inner_of old.writer)) (bytes_of first.waiting) t (bytes_of old.waiting) → IsCutAtLast contents old new line
      → WritesPrefix (contents (inner_of first.writer)) (contents (inner_of new.writer)) (bytes_of first.waiting ++ u)
  cut t u is h k =
      subst (λ (x : List ℕ). WritesPrefix (contents (inner_of first.writer)) (contents (inner_of new.writer)) (bytes_of first.waiting ++ x)) is
      (fails_then _ _ _ _ _ t line _ verdicts.Write h (refl, k.written, k.failed)).1

module _ {W : Type 0} (contents : W → Option (List ℕ)) (first old new : LineSink W) where
  -- the lines of one log
  lines_last : (m : List Selected) → HasLines contents first old m → HasWrittenLast contents old new [] → HasLines contents first new m
  lines_last m h k = record {
    text = h.text;
    form = ap is_by_transaction k.lines_are ∙ h.form;
    name = ap (λ v. v.items) k.file_is ∙ h.name;
    options = k.options_are ∙ h.options;
    added = k.added_is ∙ h.added;
    are = h.are;
    written = both contents first old new [] h.text h.text (append-nil h.text) h.written k;
  }

  lines_cut : (m : List Selected) → HasLines contents first old m → IsCutAtLast contents old new [] → HasPrefix contents first new m
  lines_cut m h k = record { text = h.text; are = h.are; written = cut contents first old new [] h.text h.text (append-nil h.text) h.written k; failed = k.failed }

  -- a sink had no memory for the last of these transactions, and then the lines that waited were written, or not
  pub fails_some : (m : List Selected) (e : Failure) → FailsLines contents first old m failed.Memory → FailsForMemory contents old new e → FailsSome contents first new m e
  fails_some m failed.Memory h k = record { some = h.0; others = h.1; parts = h.2; has = lines_last h.0 h.3 k; written = k.none }
  fails_some m failed.Unwritten h k = record { some = h.0; others = h.1; parts = h.2; has = lines_cut h.0 h.3 k }
  fails_some m failed.Closed h k = absurd k

  -- the lines of logs, and then how far they were read
  pub prints_last : (name line : List ℕ) (l : List LogTransaction) → HasPrinted contents first old l → IsReached name line → HasWrittenLast contents old new line → HasPrinted contents first new l
  prints_last name line l h (inl none) k = record {
    printed = h.printed;
    form = ap is_by_transaction k.lines_are ∙ h.form;
    options = k.options_are ∙ h.options;
    added = k.added_is ∙ h.added;
    are = h.are;
    transactions = h.transactions;
    written = both contents first old new line (text_of h.printed) (text_of h.printed) (ap (λ (x : List ℕ). text_of h.printed ++ x) none ∙ append-nil (text_of h.printed)) h.written k;
  }
  prints_last name line l h (inr far) k = record {
    printed = HowFar name far.0 ∷ h.printed;
    form = ap is_by_transaction k.lines_are ∙ h.form;
    options = k.options_are ∙ h.options;
    added = k.added_is ∙ h.added;
    are = h.are;
    transactions = h.transactions;
    written = both contents first old new line (text_of h.printed) (text_of h.printed ++ progress_line name far.0) (ap (λ (x : List ℕ). text_of h.printed ++ x) far.1) h.written k;
  }

  pub cut_last : (name line : List ℕ) (l : List LogTransaction) → HasPrinted contents first old l → IsReached name line → IsCutAtLast contents old new line → HasPrintedPrefix contents first new l
  cut_last name line l h (inl none) k = record {
    printed = h.printed;
    are = h.are;
    transactions = h.transactions;
    written = cut contents first old new line (text_of h.printed) (text_of h.printed) (ap (λ (x : List ℕ). text_of h.printed ++ x) none ∙ append-nil (text_of h.printed)) h.written k;
    failed = k.failed;
  }
  cut_last name line l h (inr far) k = record {
    printed = HowFar name far.0 ∷ h.printed;
    are = h.are;
    transactions = h.transactions;
    written = cut contents first old new line (text_of h.printed) (text_of h.printed ++ progress_line name far.0) (ap (λ (x : List ℕ). text_of h.printed ++ x) far.1) h.written k;
    failed = k.failed;
  }

-- a writer failed within the lines of these transactions
pub fails_unwritten : {W : Type 0} (contents : W → Option (List ℕ)) (first new : LineSink W) (m : List Selected) → HasPrefix contents first new m → FailsSome contents first new m failed.Unwritten
fails_unwritten contents first new m h = record { some = m; others = []; parts = sym (append-nil m); has = h }

-- all of a list
pub all_of : {A : Type 0} (l : List A) → l ≡ l ++ []
all_of l = sym (append-nil l)

module _ {W A : Type 0} (contents : W → Option (List ℕ)) (ack_contents : A → Option (List ℕ)) (first old new : LineSink W) (first_acks acks : Option (Watched A)) (l : List LogTransaction) (done : List ℕ) (h : HasPrinted contents first old l) (said : Acknowledges ack_contents first_acks acks done) where
  -- the writer failed
  pub fails_cut : (name line : List ℕ) → IsReached name line → IsCutAtLast contents old new line → FailsPrinting contents ack_contents first new first_acks acks l done failed.Unwritten
  fails_cut name line far k = inl (record { some = l; others = []; parts = all_of l; printed = cut_last contents first old new name line l h far k }, said)

  -- memory ran out, and then the lines that waited were written, or not
  pub fails_for_memory : (name : List ℕ) (e : Failure) → FailsForMemory contents old new e → FailsPrinting contents ack_contents first new first_acks acks l done e
  fails_for_memory name failed.Memory k = (record { some = l; others = []; parts = all_of l; printed = prints_last contents first old new name [] l h (inl refl) k; written = k.none }, said)
  fails_for_memory name failed.Unwritten k = fails_cut name [] (inl refl) k
  fails_for_memory name failed.Closed k = absurd k

  -- acknowledgements were written after the lines
  pub acknowledges : (new_acks : Option (Watched A)) (due : List ℕ) → Acknowledges ack_contents acks new_acks due → Acknowledges ack_contents first_acks new_acks (done ++ due)
  acknowledges new_acks due more = Appends-trans (acks_in ack_contents first_acks) (acks_in ack_contents acks) (acks_in ack_contents new_acks) done due said more

  -- or not
  pub fails_acks : (name line : List ℕ) (new_acks : Option (Watched A)) (due : List ℕ) (e : Failure) → IsReached name line → HasWrittenLast contents old new line → WritesAcks ack_contents acks new_acks due (Err e) → FailsPrinting contents ack_contents first new first_acks new_acks l done e
  fails_acks name line new_acks due e far k why =
      subst (λ (x : Failure). FailsPrinting contents ack_contents first new first_acks new_acks l done x) (sym why.0)
      (inr (record { printed = prints_last contents first old new name line l h far k; written = k.none; more = why.1.prefix; acknowledged = acknowledges new_acks why.1.prefix why.1.written; failed = why.2 }))

-- a sink with the same options wants the same
pub wants_kept : {W : Type 0} (old new : LineSink W) → new.options ≡ old.options → new.added ≡ old.added → (f : Filter) (r : JsonRecorder) → IsRecorderFor old f r → IsRecorderFor new f r
wants_kept old new options added f r w = record { filter = w.filter; options = w.options ∙ sym options; added = w.added ∙ sym added }

-- ---- another log

-- a sink that was renamed, or whose lines know another place to begin again, has printed the same
pub printed_renamed : {W : Type 0} (contents : W → Option (List ℕ)) (first old new : LineSink W) (l : List LogTransaction) → Renames old new → HasPrinted contents first old l → HasPrinted contents first new l
printed_renamed contents first old new l r h =
    subst (λ s. HasPrinted contents first s l) (sym r.is) (record { printed = h.printed; form = r.form ∙ h.form; options = h.options; added = h.added; are = h.are; transactions = h.transactions; written = h.written })

pub wants_renamed : {W : Type 0} (old new : LineSink W) → Renames old new → (f : Filter) (c : JsonRecorder) → IsRecorderFor old f c → IsRecorderFor new f c
wants_renamed old new r f c w = subst (λ s. IsRecorderFor s f c) (sym r.is) (record { filter = w.filter; options = w.options; added = w.added })

-- one that begins elsewhere has the name that it had
pub renames_none : {W : Type 0} (old new : LineSink W) → BeginsAt old new → Renames old new
renames_none old new b = record { file = old.file; lines = b.lines; form = b.form; is = b.is }

-- ---- the end of a write

module _ {W A : Type 0} (contents : W → Option (List ℕ)) (ack_contents : A → Option (List ℕ)) (old new : LineSink W) (acks new_acks : Option (Watched A)) (name line due : List ℕ) (far : IsReached name line) (k : HasWrittenLast contents old new line) where
  -- the lines are written, and then the acknowledgements
  pub all_written : (r : Result ⊤ Failure) → WritesAcks ack_contents acks new_acks due r
      → OnOk r ((first : LineSink W) (first_acks : Option (Watched A)) (l : List LogTransaction) (done : List ℕ) → HasPrinted contents first old l → Acknowledges ack_contents first_acks acks done → HasPrinted contents first new l × Acknowledges ack_contents first_acks new_acks (done ++ due))
  all_written (Ok u) w = λ first first_acks l done h said. (prints_last contents first old new name line l h far k, acknowledges contents ack_contents first old new first_acks acks l done h said new_acks due w)
  all_written (Err e) w = tt

  -- or not
  pub acks_unwritten : (r : Result ⊤ Failure) → WritesAcks ack_contents acks new_acks due r
      → IfErr r (λ e. (first : LineSink W) (first_acks : Option (Watched A)) (l : List LogTransaction) (done : List ℕ) → HasPrinted contents first old l → Acknowledges ack_contents first_acks acks done → FailsPrinting contents ack_contents first new first_acks new_acks l done e)
  acks_unwritten (Ok u) w = tt
  acks_unwritten (Err e) w = λ first first_acks l done h said. fails_acks contents ack_contents first old new first_acks acks l done h said name line new_acks due e far k w

-- ---- the beginning

-- no line yet
pub prints_none : {W : Type 0} (contents : W → Option (List ℕ)) (s : LineSink W) → HasPrinted contents s s []
prints_none contents s = record { printed = []; form = refl; options = refl; added = refl; are = tt; transactions = refl; written = writes_none (contents (inner_of s.writer)) (bytes_of s.waiting) }

-- no acknowledgement yet
pub acknowledges_none : {A : Type 0} (contents : A → Option (List ℕ)) (acks : Option (Watched A)) → Acknowledges contents acks acks []
acknowledges_none contents acks = of (acks_in contents acks)
  where
    of : (x : Option (List ℕ)) → Appends x x []
    of None = tt
    of (Some l) = sym (append-nil l)
