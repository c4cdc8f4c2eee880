-- What the commands of `binlog-feed` write, and how they end, for any reader and any writer.
use Rattle.std.specs.Prelude.{◌≡◌, ◌⊎◌, ◌<◌, ◌↔◌, Bool, true, ℕ, List, length, Option, Result}
use Rattle.std.specs.Io.KnownBytes.{Keeps, Appends}
use Rattle.feed_checks.specs.declared.verdict.Verdict.{Verdict}
use Rattle.feed_checks.specs.declared.verdict.Verdict.TheVariants as verdicts
use Rattle.feed_transactions.specs.InterruptedWrites.{WritesPrefix}
use Rattle.feed_transactions.specs.Rules.{Rules}
use Rattle.feed_transactions.specs.Reports.{Io, ReportsFile, IsDeviceFailure}
use Rattle.feed_replication.specs.Headline.{IsFollowable}
use Rattle.feed_replication.specs.RequestFields.{IsRequested}
use Rattle.feed_replication.specs.Requests.{dump_request}
use Rattle.feed_replication.specs.Rehearsing.{Rehearses, FollowsTheLog, IsRunFailure, whole_steps}
use Rattle.feed_replication.specs.Runs.{run}
use Rattle.feed_replication.specs.Sending.{Serves, IsServedFailure}
use Rattle.feed_replication.specs.Streams.{program_limit}
use Rattle.feed_replication.specs.declared.format.PayloadFormat.{PayloadFormat as Format}
use Rattle.feed_replication.specs.declared.format.PayloadFormat.TheVariants as formats
use Rattle.feed_replication.specs.declared.requests.RequestError.{RequestError}
use Rattle.feed_replication.specs.declared.requests.RequestError.TheVariants as errors
use Rattle.feed_replication.specs.declared.served.Served.{Served}
use Rattle.feed_replication.specs.declared.served.Refusal.{Refusal}
use Rattle.program_feed.specs.Endings.{IsVerdictEnding, IsServedEnding, IsRequestErrorEnding}
use Rattle.program_feed.specs.Inputs.{IsWhole, IsInputFailure}
use Rattle.program_feed.specs.Outputs.{verdict_after, served_after}
use Rattle.program_feed.specs.declared.endings.Ending.{Ending}
use Rattle.program_feed.specs.declared.serving.Replica.{Replica}
use Rattle.program_feed.specs.declared.serving.Replica.TheVariants.{Plain, SemiSync}

-- The bytes of a command's reader and writer before and after it, where they are known, and which of their calls failed.
pub record Devices : Type 0 where
  -- the bytes that the reader had to give, and those that it still has
  pub input : Option (List ℕ)
  pub unread : Option (List ℕ)
  -- the bytes that the writer held before, and those that it holds after
  pub before : Option (List ℕ)
  pub written : Option (List ℕ)
  pub read_failed : Bool
  pub write_failed : Bool
  pub flush_failed : Bool

-- those of the reader and the writer alone
abbrev pub io_of : Devices → Io
io_of d = record { input = d.input; unread = d.unread; before = d.before; written = d.written }

-- ---- report

-- the report of the log, as far as a verdict promises; the run ends with this verdict, or with that of a failed flush
pub record WritesReport (r : Rules) (d : Devices) (ending : Ending) : Type 0 where
  pub verdict : Verdict
  pub report : ReportsFile r (io_of d) verdict
  pub blamed : IsDeviceFailure verdict d.read_failed d.write_failed
  pub ending_is : IsVerdictEnding (verdict_after d.flush_failed verdict) ending

-- ---- a command that reads its input before it writes

-- The input couldn't be read, and nothing was written.
pub record HasNoInput (failed : Bool) (before written : Option (List ℕ)) (ending : Ending) : Type 0 where
  pub verdict : Verdict
  pub cause : IsInputFailure verdict failed
  pub kept : Keeps before written
  pub ending_is : IsVerdictEnding verdict ending

-- ---- request

-- The request wasn't made, and nothing was written: its name is longer than 511 bytes, or out of memory.
pub record MakesNoRequest (name : List ℕ) (before written : Option (List ℕ)) (ending : Ending) : Type 0 where
  pub error : RequestError
  pub too_long : error ≡ errors.NameTooLong ↔ (511 < length name)
  pub kept : Keeps before written
  pub ending_is : IsRequestErrorEnding error ending

-- all bytes were written, or the writer failed after a prefix of them
abbrev pub WritesBytes : List ℕ → Option (List ℕ) → Option (List ℕ) → Bool → Verdict → Type 0
WritesBytes bytes before written failed verdicts.End = Appends before written bytes
WritesBytes bytes before written failed verdicts.Write = WritesPrefix before written bytes × (failed ≡ true)
WritesBytes bytes before written failed _ = ⊥

-- The request was made and written.
pub record MakesRequest (position server : ℕ) (name : List ℕ) (before written : Option (List ℕ)) (write_failed flush_failed : Bool) (ending : Ending) : Type 0 where
  pub short : 511 < length name → ⊥
  pub verdict : Verdict
  pub bytes : WritesBytes (dump_request position server name) before written write_failed verdict
  pub ending_is : IsVerdictEnding (verdict_after flush_failed verdict) ending

-- `request`: there was none, or it was written
abbrev pub WritesRequest : ℕ → ℕ → List ℕ → Option (List ℕ) → Option (List ℕ) → Bool → Bool → Ending → Type 0
WritesRequest position server name before written write_failed flush_failed ending =
    MakesNoRequest name before written ending ⊎ MakesRequest position server name before written write_failed flush_failed ending

-- ---- serve, serve-semi

-- the format of the payloads for a replica
abbrev pub format_for : Replica → Format
format_for Plain = formats.Plain
format_for SemiSync = formats.SemiSync

-- The input is the request, and the answer to it was written, as far as the result promises.
pub record Answers (r : Rules) (format : Format) (name : List ℕ) (question : Option (List ℕ)) (d : Devices) (ending : Ending) : Type 0 where
  pub request : List ℕ
  pub whole : IsWhole question request
  pub served : Served
  pub serves : (asked : Result ℕ Refusal) → IsRequested request name asked → Serves r format program_limit asked (io_of d) served
  pub blamed : IsServedFailure served d.read_failed d.write_failed
  pub ending_is : IsServedEnding (served_after d.flush_failed served) ending

-- `serve` and `serve-semi`: the input couldn't be read, or the answer was written
abbrev pub WritesAnswer : Rules → Format → List ℕ → Option (List ℕ) → Bool → Devices → Ending → Type 0
WritesAnswer r format name question input_failed d ending =
    HasNoInput input_failed d.before d.written ending ⊎ Answers r format name question d ending

-- ---- rehearse

-- The input is the log, and what a follower prints of it was written, as far as the verdict promises.
pub record RunsFollower (r : Rules) (counts : List ℕ) (d : Devices) (ending : Ending) : Type 0 where
  pub log : List ℕ
  pub whole : IsWhole d.input log
  pub verdict : Verdict
  pub rehearses : Rehearses (run r formats.Plain log (whole_steps log counts)) d.before d.written verdict
  pub follows : IsFollowable r formats.Plain log → FollowsTheLog r formats.Plain log (whole_steps log counts) d.before d.written verdict
  pub blamed : IsRunFailure verdict d.write_failed
  pub ending_is : IsVerdictEnding (verdict_after d.flush_failed verdict) ending

-- `rehearse`: the input couldn't be read, or what a follower prints was written
abbrev pub WritesRehearsal : Rules → List ℕ → Devices → Ending → Type 0
WritesRehearsal r counts d ending = HasNoInput d.read_failed d.before d.written ending ⊎ RunsFollower r counts d ending
