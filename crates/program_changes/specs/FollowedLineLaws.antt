-- Laws of what `follow` has written: the lines of one log after those of others.
use Rattle.std.proofs.Common.{◌≡◌, ◌⊎◌, ℕ, Bool, List, [], ◌∷◌, ◌++◌, Option, inl, inr, refl, sym, ap, subst, ◌∙◌, append_assoc}
use Rattle.std.proofs.lemmas.List.{append-nil, map-append}
use Rattle.wire_buf.specs.Watched.{inner_of}
use Rattle.wire_buf.specs.declared.watched.Watched.{Watched}
use Rattle.feed_transactions.specs.InterruptedWrites.{IsInterruptedWrite, WritesPrefix}
use Rattle.feed_transactions.specs.Waiting.{bytes_of, WritesSome}
use Rattle.feed_transactions.proofs.WaitingLemmas.{writes_none}
use Rattle.feed_checks.specs.declared.verdict.Verdict.TheVariants as verdicts
use Rattle.feed_change_log.specs.declared.filter.Filter.{Filter}
use Rattle.changes_commands.specs.declared.output.Failure.{Failure}
use Rattle.changes_commands.specs.declared.output.Failure.TheVariants as failed
use Rattle.changes_walks.specs.FollowedAnswers.{in_log, LogTransaction}
use Rattle.changes_lines.specs.WrittenLines.{is_by_transaction}
use Rattle.changes_lines.specs.declared.recorder.JsonRecorder.{JsonRecorder}
use Rattle.changes_lines.proofs.WriteLemmas.{fails_then, writes_both}
use Rattle.changes_walks.specs.Selections.{Selected}
use Rattle.program_changes.specs.FollowedLines.{Acknowledges, FailsPrinting, FailsSome, HasPrinted, HasPrintedPrefix, Lines}
use Rattle.program_changes.specs.LineSinks.{HasLines, HasPrefix, IsRecorderFor}
use Rattle.program_changes.specs.declared.changes.LineSink.{LineSink}

module _ {W : Type 0} (contents : W → Option (List ℕ)) (first s new : LineSink W) (l : List LogTransaction) (h : HasPrinted contents first s l) where
  -- more lines of one log
  pub prints_more : (m : List Selected) → HasLines contents s new m → HasPrinted contents first new (l ++ in_log s.file.items m)
  prints_more m k = record {
    printed = Lines s.file.items m k.text ∷ h.printed;
    form = k.form ∙ h.form;
    options = k.options ∙ h.options;
    added = k.added ∙ h.added;
    are = (rw (h.options, h.added, h.form) at k.are, h.are);
    transactions = ap (λ (x : List LogTransaction). x ++ in_log s.file.items m) h.transactions;
    written = writes_both _ _ _ _ _ _ _ k.text h.written k.written;
  }

  prefix_more : (m : List Selected) → HasPrefix contents s new m → HasPrintedPrefix contents first new (l ++ in_log s.file.items m)
  prefix_more m k = let cut = fails_then _ _ _ _ _ _ k.text _ verdicts.Write h.written (refl, k.written, k.failed) in record {
    printed = Lines s.file.items m k.text ∷ h.printed;
    are = (rw (h.options, h.added, h.form) at k.are, h.are);
    transactions = ap (λ (x : List LogTransaction). x ++ in_log s.file.items m) h.transactions;
    written = cut.1;
    failed = cut.2;
  }

  among : (m some others : List Selected) → m ≡ some ++ others → l ++ in_log s.file.items m ≡ (l ++ in_log s.file.items some) ++ in_log s.file.items others
  among m some others is =
      ap (λ (x : List Selected). l ++ in_log s.file.items x) is ∙ ap (λ (x : List LogTransaction). l ++ x) (map-append (λ (x : Selected). record { log = s.file.items; selected = x }) some others)
      ∙ sym (append_assoc l (in_log s.file.items some) (in_log s.file.items others))

  -- a failure among them
  pub fails_more : {A : Type 0} (ack_contents : A → Option (List ℕ)) (first_acks acks new_acks : Option (Watched A)) (m : List Selected) (due : List ℕ) (e : Failure) → Acknowledges ack_contents first_acks acks due → FailsSome contents s new m e → new_acks ≡ acks
      → FailsPrinting contents ack_contents first new first_acks new_acks (l ++ in_log s.file.items m) due e
  fails_more ack_contents first_acks acks new_acks m due failed.Memory done k same = (
    record {
      some = l ++ in_log s.file.items k.some;
      others = in_log s.file.items k.others;
      parts = among m k.some k.others k.parts;
      printed = prints_more k.some k.has;
      written = k.written;
    },
    subst (λ (a : _). Acknowledges ack_contents first_acks a due) (sym same) done,
  )
  fails_more ack_contents first_acks acks new_acks m due failed.Unwritten done k same = inl (
    record {
      some = l ++ in_log s.file.items k.some;
      others = in_log s.file.items k.others;
      parts = among m k.some k.others k.parts;
      printed = prefix_more k.some k.has;
    },
    subst (λ (a : _). Acknowledges ack_contents first_acks a due) (sym same) done,
  )
  fails_more ack_contents first_acks acks new_acks m due failed.Closed done k same = absurd k

-- what was acknowledged stays
pub acks_stay : {A : Type 0} (contents : A → Option (List ℕ)) (first acks new : Option (Watched A)) (due : List ℕ) → Acknowledges contents first acks due → new ≡ acks → Acknowledges contents first new due
acks_stay contents first acks new due done same = subst (λ (a : _). Acknowledges contents first a due) (sym same) done

-- a sink wants what it wanted
pub wants_more : {W : Type 0} (contents : W → Option (List ℕ)) (s new : LineSink W) (m : List Selected) (f : Filter) (c : JsonRecorder) → HasLines contents s new m → IsRecorderFor s f c → IsRecorderFor new f c
wants_more contents s new m f c h w = record { filter = w.filter; options = w.options ∙ sym h.options; added = w.added ∙ sym h.added }

-- no line yet
pub lines_at_first : {W : Type 0} (contents : W → Option (List ℕ)) (s : LineSink W) → HasLines contents s s []
lines_at_first contents s = record {
  text = [];
  form = refl;
  name = refl;
  options = refl;
  added = refl;
  are = record { texts = []; are = tt; joined = refl };
  written = writes_none (contents (inner_of s.writer)) (bytes_of s.waiting);
}
