-- The log of a handle, by the log of its part.
use Rattle.std.proofs.Common.{◌≡◌, Bool, true, false, List, length, Option, None, Some, Result, Ok, Err, refl, sym, ap, ◌∙◌, subst}
use Rattle.c_handles.specs.declared.view.View.{View}
use Rattle.feed_checks.specs.declared.verdict.Verdict.{Verdict}
use Rattle.feed_checks.specs.declared.verdict.Verdict.TheVariants.{Memory}
use Rattle.feed_transactions.specs.Changes.{Committed}
use Rattle.feed_change_log.specs.PushedLogs.{recorder_in}
use Rattle.library_log.specs.ShownRecorders.{IsDoneShown}
use Rattle.library_log.specs.ReadLogs.{log_in, has_newest, fault_in, file_in, filter_in, lines_in, shown_in}
use Rattle.library_log.specs.ShownTransactions.{HasShown}
use Rattle.library_log.specs.declared.part.Part.{Part}
use Rattle.library_log.specs.declared.part.Part.TheVariants.{Log}
use Rattle.library_log.specs.declared.read_log.ReadLog.{ReadLog}
use Rattle.cuvragyen.specs.Exports.{log_of, open_log, GoesTo, OnLog, HasHeader, Shows}
use Rattle.cuvragyen.specs.VerdictNumbers.{verdict_number}
use Rattle.cuvragyen.specs.declared.logs.LogHeader.{LogHeader}

abbrev log_or : ReadLog → Option ReadLog → ReadLog
log_or s None = s
log_or s (Some t) = t

pub goes_to : (P : ReadLog → ReadLog → Type 0) (p : Part) (old new : ReadLog) → p ≡ Log old → P old new → OnLog (Some p) (Some (Log new)) P
goes_to P p old new at h s is = record { after = new; is = refl; holds = subst (λ x. P x new) (ap (log_or old) (sym (ap log_of at) ∙ is)) h }

pub through : (P : ReadLog → ReadLog → Type 0) (a b : Option Part) (p q : Part) → OnLog (Some p) (Some q) P → a ≡ Some p → b ≡ Some q → OnLog a b P
through P a b p q h old new = subst (λ x. OnLog x b P) (sym old) (subst (λ y. OnLog (Some p) y P) (sym new) h)

abbrev holds_of : Bool → Type 0
holds_of true = Unit {0}
holds_of false = ⊥

pub header_there : (s : ReadLog) (old new : LogHeader) → true ≡ has_newest s → ((t : Committed) → IsDoneShown (recorder_in (log_in s)) t → (new.time ≡ t.commit.timestamp) × ((new.server_id ≡ t.commit.server_id) × (new.position ≡ t.commit.log_pos))) → HasHeader s old new 1
header_there s old new is h = record { number = rw (sym is) refl; some = λ _ t taken. h t taken; none = λ no. absurd (subst holds_of (is ∙ no) tt) }

abbrev is_shown : Result Bool Verdict → Type 0
is_shown (Ok b) = holds_of b
is_shown (Err v) = ⊥

abbrev is_failed : Result Bool Verdict → Type 0
is_failed (Ok b) = ⊥
is_failed (Err v) = Unit {0}

abbrev outcome : Bool → Result Bool Verdict
outcome b = Ok b

abbrev failed : Verdict → Result Bool Verdict
failed v = Err v

module _ (s new : ReadLog) (old_view view : View) (same : log_in new ≡ log_in s) where
  pub shows_lines : true ≡ has_newest s → (has_newest s ≡ true → (t : Committed) → IsDoneShown (recorder_in (log_in s)) t → HasShown (filter_in s) (lines_in s) (file_in s) (recorder_in (log_in s)) t (shown_in new)) → view.len ≡ length (shown_in new) → Shows s new old_view view 1
  shows_lines is lines len = record { returned = outcome true; number = refl; there = is; lines = lines; err = tt; len = λ _. len; none = λ e. absurd (subst is_shown e tt); kept = tt; log = same }

  pub shows_none : false ≡ has_newest s → (has_newest s ≡ true → (t : Committed) → IsDoneShown (recorder_in (log_in s)) t → HasShown (filter_in s) (lines_in s) (file_in s) (recorder_in (log_in s)) t (shown_in new)) → view.len ≡ 0 → Shows s new old_view view 0
  shows_none is lines len = record { returned = outcome false; number = refl; there = is; lines = lines; err = tt; len = λ e. absurd (subst is_shown (sym e) tt); none = λ _. len; kept = tt; log = same }

pub shows_fault : (s new : ReadLog) (view : View) (v : Verdict) → log_in new ≡ log_in s → (failed v ≡ failed Memory) × (fault_in new ≡ Some Memory) → Shows s new view view (verdict_number v)
shows_fault s new view v same h = record { returned = failed v; number = refl; there = tt; lines = tt; err = h; len = λ e. absurd (subst is_failed e tt); none = λ e. absurd (subst is_failed e tt); kept = refl; log = same }
