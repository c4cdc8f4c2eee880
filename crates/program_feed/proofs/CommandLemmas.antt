-- A command's text after its writer was flushed.
use Rattle.std.proofs.Common.{◌≡◌, ◌↔◌, ℕ, Bool, IsErrOf, Ok, Err, List, Option, Some, None, Result, refl, sym, ap, subst, ◌∙◌}
use Rattle.std.specs.Io.KnownBytes.{Keeps, Appends}
use Rattle.std.proofs.KnownBytes.{Appends-kept}
use Rattle.feed_checks.specs.declared.verdict.Verdict.{Verdict}
use Rattle.feed_checks.specs.declared.verdict.Verdict.TheVariants as verdicts
use Rattle.feed_transactions.specs.InterruptedWrites.{IsInterruptedWrite}
use Rattle.feed_transactions.specs.Rules.{Rules}
use Rattle.feed_transactions.specs.Reports.{Report, ReportsFile}
use Rattle.feed_replication.specs.Rehearsing.{Rehearses, FollowsTheLog}
use Rattle.feed_replication.specs.Sending.{Serves}
use Rattle.feed_replication.specs.declared.format.PayloadFormat.{PayloadFormat as Format}
use Rattle.feed_replication.specs.declared.requests.RequestError.{RequestError}
use Rattle.feed_replication.specs.declared.requests.RequestError.TheVariants as errors
use Rattle.feed_replication.specs.declared.served.Refusal.{Refusal}
use Rattle.feed_replication.specs.declared.served.Served.{Served}
use Rattle.feed_replication.specs.declared.step.Step.{Step}
use Rattle.program_feed.specs.Commands.{WritesBytes}

-- what was appended before the flush
pub appends_kept : (first before mid after : Option (List ℕ)) (bytes : List ℕ) → first ≡ before → Appends first mid bytes → Keeps mid after → Appends before after bytes
appends_kept first before mid after bytes e h k = subst (λ (o : Option (List ℕ)). Appends o after bytes) e (Appends-kept first mid after bytes h k)

pub report_kept : (r : Rules) (input unread first before mid after : Option (List ℕ)) (v : Verdict) → first ≡ before → ReportsFile r (record { input = input; unread = unread; before = first; written = mid }) v
    → Keeps mid after → ReportsFile r (record { input = input; unread = unread; before = before; written = after }) v
report_kept r None unread first before mid after v e h k = tt
report_kept r (Some b) unread first before mid after v e h k = (h.0, appends_kept first before mid after h.0 e h.1 k, h.2)

pub serves_kept : (r : Rules) (format : Format) (limit : ℕ) (asked : Result ℕ Refusal) (input unread first before mid after : Option (List ℕ)) (s : Served) → first ≡ before
    → Serves r format limit asked (record { input = input; unread = unread; before = first; written = mid }) s → Keeps mid after
    → Serves r format limit asked (record { input = input; unread = unread; before = before; written = after }) s
serves_kept r format limit asked None unread first before mid after s e h k = tt
serves_kept r format limit asked (Some b) unread first before mid after s e h k = (h.0, appends_kept first before mid after h.0 e h.1 k, h.2)

pub rehearses_kept : (report : Report) (first before mid after : Option (List ℕ)) (v : Verdict) → first ≡ before → Rehearses report first mid v → Keeps mid after → Rehearses report before after v
rehearses_kept report first before mid after verdicts.Memory e h k = (h.0, appends_kept first before mid after _ e h.1 k)
rehearses_kept report first before mid after verdicts.Write e h k = (h.0, h.1, h.2, appends_kept first before mid after _ e h.3 k)
rehearses_kept report first before mid after v e h k = (appends_kept first before mid after _ e h.0 k, h.1)

pub follows_kept : (r : Rules) (format : Format) (b : List ℕ) (steps : List Step) (first before mid after : Option (List ℕ)) (v : Verdict) → first ≡ before
    → FollowsTheLog r format b steps first mid v → Keeps mid after → FollowsTheLog r format b steps before after v
follows_kept r format b steps first before mid after verdicts.Memory e h k = (h.0, appends_kept first before mid after _ e h.1 k)
follows_kept r format b steps first before mid after verdicts.Write e h k = (h.0, h.1, h.2, appends_kept first before mid after _ e h.3 k)
follows_kept r format b steps first before mid after v e h k = (h.0, h.1, appends_kept first before mid after _ e h.2 k)

pub bytes_kept : (bytes : List ℕ) (first before mid after : Option (List ℕ)) (failed failed_then : Bool) (v : Verdict) → first ≡ before → failed ≡ failed_then
    → WritesBytes bytes first mid failed_then v → Keeps mid after → WritesBytes bytes before after failed v
bytes_kept bytes first before mid after failed failed_then verdicts.End e f h k = appends_kept first before mid after bytes e h k
bytes_kept bytes first before mid after failed failed_then verdicts.Write e f h k = (
  record { prefix = h.0.prefix; suffix = h.0.suffix; parts = h.0.parts; written = appends_kept first before mid after h.0.prefix e h.0.written k },
  f ∙ h.1,
)
bytes_kept bytes first before mid after failed failed_then v e f h k = absurd h

pub bytes_interrupted : (bytes : List ℕ) (old new : Option (List ℕ)) (failed : Bool) (v : Verdict) → IsInterruptedWrite old new bytes failed v → WritesBytes bytes old new failed v
bytes_interrupted bytes old new failed v h = rw h.0 (h.1, h.2)

-- a request isn't made for a name that is too long, and only then not for that
pub error_cause : {T : Type 0} (error : RequestError) (Long : Type 0) → (IsErrOf {T = T} (Err error) errors.NameTooLong ↔ Long) → error ≡ errors.NameTooLong ↔ Long
error_cause error Long h = ((λ e. h.0 (ap Err e)), (λ long. let e = h.1 long in cc))

pub not_long : {T : Type 0} (packet : T) (Long : Type 0) → (IsErrOf (Ok packet) errors.NameTooLong ↔ Long) → Long → ⊥
not_long packet Long h long = let e = h.1 long in cc

-- nothing was written
pub unused_kept : {W : Type 0} (contents : W → Option (List ℕ)) (x y : W) → y ≡ x → Keeps (contents x) (contents y)
unused_kept {W} contents x y e = subst (λ (w : W). Keeps (contents x) (contents w)) (sym e) (keeps_same (contents x))
  where
    keeps_same : (o : Option (List ℕ)) → Keeps o o
    keeps_same None = tt
    keeps_same (Some b) = refl
