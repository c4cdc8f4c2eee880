-- What a follower's state represents after the bytes received so far, and how the next bytes change it; for any rules and any format of the payloads.
use Rattle.std.specs.Prelude.{◌≡◌, ℕ, Bool, true, List, ◌++◌, Option, Some, None}
use Rattle.std.specs.Io.KnownBytes.{Appends}
use Rattle.feed_checks.specs.declared.verdict.Verdict.{Verdict}
use Rattle.feed_checks.specs.declared.verdict.Verdict.TheVariants as verdicts
use Rattle.feed_checks.specs.EventFields.{Event}
use Rattle.feed_transactions.specs.RecordedTexts.{IsOpenText}
use Rattle.feed_transactions.specs.Rules.{Rules}
use Rattle.feed_checks.specs.LogFormat.{joined}
use Rattle.feed_replication.specs.declared.follower.Follower.{Follower}
use Rattle.feed_replication.specs.declared.format.PayloadFormat.{PayloadFormat as Format}
use Rattle.feed_replication.specs.Streams.{stream_texts, stream_verdict}
use Rattle.feed_replication.specs.Acknowledgements.{acknowledgements}
use Rattle.feed_replication.specs.AnswerReaders as answer

-- the maximum length of a payload
abbrev pub limit_of : {F : Type 0} → Follower F → ℕ
limit_of f = answer.limit_of f.answer

-- the verdict that the follower keeps, if its stream is over
abbrev pub verdict_in : {F : Type 0} → Follower F → Option Verdict
verdict_in f = answer.verdict_in f.answer

-- the format of its payloads
abbrev pub format_of : {F : Type 0} → Follower F → Format
format_of f = answer.format_of f.answer

-- its checksum function
abbrev pub checksum_of : {F : Type 0} → Follower F → F
checksum_of f = answer.checksum_of f.answer

-- the server id in its requests
abbrev pub server_of : {F : Type 0} → Follower F → ℕ
server_of f = answer.server_of f.answer

-- the name of the log in its requests
abbrev pub name_of : {F : Type 0} → Follower F → List ℕ
name_of f = answer.name_of f.answer

-- the position of its last request
abbrev pub asked_position_of : {F : Type 0} → Follower F → ℕ
asked_position_of f = answer.asked_position_of f.answer

-- the position of its next request
abbrev pub next_position_of : {F : Type 0} → Follower F → ℕ
next_position_of f = answer.next_position_of f.answer

-- the acknowledgements that are due
abbrev pub due_of : {F : Type 0} → Follower F → List ℕ
due_of f = answer.due_of f.answer

-- server id, name, format, limit and checksum function of the follower are unchanged
abbrev pub KeepsSettings : {F : Type 0} → Follower F → Follower F → Type 0
KeepsSettings old new = answer.KeepsSettings old.answer new.answer

-- the fault that ended its stream, if one did
abbrev pub stream_fault : {F : Type 0} → Follower F → Option Verdict
stream_fault f = answer.stream_fault f.answer

-- ---- what a follower's state represents

-- the follower has taken these payloads of the stream s; `past` are their events, the newest first
abbrev pub HasTaken : {F : Type 0} → Rules → Format → Follower F → List ℕ → List (List ℕ) → List Event → Type 0
HasTaken r format f s ps past = answer.HasTaken IsOpenText r format f.answer s ps past past

-- it resumes from the position in the last commit line of the stream's text, or from that of the last request
abbrev pub ResumesAfter : {F : Type 0} → Rules → Format → Follower F → List ℕ → Type 0
ResumesAfter r format f s = answer.ResumesAfter r format f.answer s

-- the follower's state represents these bytes: it wrote what they show, and its stream goes on or is over
abbrev pub RepresentsStream : {F : Type 0} → Rules → Format → Follower F → List ℕ → Type 0
RepresentsStream r format f s = answer.RepresentsStream IsOpenText r format f.answer s

-- a follower before the first byte of an answer of this format, and its request
abbrev pub Starts : {F : Type 0} → Format → ℕ → ℕ → List ℕ → ℕ → F → Follower F → List ℕ → Type 0
Starts format position server name limit checksum f question = answer.Starts IsOpenText format position server name limit checksum f.answer question

-- ---- feeding a follower: `before` are the texts of the stream before, `all` those of the stream after

-- all texts after `before` were written
pub record WritesAllNew (before all : List (List ℕ)) (old new : Option (List ℕ)) : Type 0 where
  pub rest : List (List ℕ)
  pub is_all : all ≡ before ++ rest
  pub written : Appends old new (joined rest)

-- the first few texts after `before` were written, each complete
pub record WritesSomeNew (before all : List (List ℕ)) (old new : Option (List ℕ)) : Type 0 where
  pub some : List (List ℕ)
  pub more : List (List ℕ)
  pub is_all : all ≡ (before ++ some) ++ more
  pub written : Appends old new (joined some)

-- a prefix of the text after that of `before` was written
pub record WritesPrefixOfNew (before all : List (List ℕ)) (old new : Option (List ℕ)) : Type 0 where
  pub text : List ℕ
  pub more : List ℕ
  pub prefix : joined all ≡ joined before ++ (text ++ more)
  pub written : Appends old new text

-- the result of a call of `feed`; the bytes received were s before it and are t after it
abbrev pub IsFed : {F : Type 0} → Rules → Format → ℕ → List ℕ → List ℕ → Follower F → Option (List ℕ) → Option (List ℕ) → Option Verdict → Type 0
-- no verdict: all new texts, and the stream goes on
IsFed r format limit s t f old new None =
    WritesAllNew (stream_texts r format limit s) (stream_texts r format limit t) old new
    × (stream_verdict r format limit t ≡ verdicts.Closed) × RepresentsStream r format f t
-- out of memory: the first few, each complete
IsFed r format limit s t f old new (Some verdicts.Memory) = WritesSomeNew (stream_texts r format limit s) (stream_texts r format limit t) old new
-- the writer failed: a prefix of their text
IsFed r format limit s t f old new (Some verdicts.Write) = WritesPrefixOfNew (stream_texts r format limit s) (stream_texts r format limit t) old new
-- any other verdict: all new texts
IsFed r format limit s t f old new (Some v) =
    WritesAllNew (stream_texts r format limit s) (stream_texts r format limit t) old new × (stream_verdict r format limit t ≡ v)
    × RepresentsStream r format f t

-- `Write` is returned only if the writer failed, and `Read` never
abbrev pub IsWriterFailure : Option Verdict → Bool → Type 0
IsWriterFailure (Some verdicts.Read) failed = ⊥
IsWriterFailure (Some verdicts.Write) failed = failed ≡ true
IsWriterFailure _ failed = Unit {0}

-- ---- acknowledgements that are due, given those of the stream before and after a call

-- all acknowledgements after `before` became due
pub record AddsAllDue (before all : List (List ℕ)) (old new : List ℕ) : Type 0 where
  pub rest : List (List ℕ)
  pub is_all : all ≡ before ++ rest
  pub waits : new ≡ old ++ joined rest

-- the first few acknowledgements after `before` became due
pub record AddsSomeDue (before all : List (List ℕ)) (old new : List ℕ) : Type 0 where
  pub some : List (List ℕ)
  pub more : List (List ℕ)
  pub is_all : all ≡ (before ++ some) ++ more
  pub waits : new ≡ old ++ joined some

-- all acknowledgements after `before` became due; after `Memory` or `Write` only the first few
abbrev pub AddsDue : List (List ℕ) → List (List ℕ) → List ℕ → List ℕ → Option Verdict → Type 0
AddsDue before all old new (Some verdicts.Memory) = AddsSomeDue before all old new
AddsDue before all old new (Some verdicts.Write) = AddsSomeDue before all old new
AddsDue before all old new v = AddsAllDue before all old new

-- the acknowledgements that became due: those that t asks for and s doesn't; after `Memory` or `Write` only the first few
abbrev pub Acknowledges : {F : Type 0} → Rules → Follower F → List ℕ → List ℕ → Follower F → Option Verdict → Type 0
Acknowledges r f s t g v =
    AddsDue (acknowledgements r (format_of f) (limit_of f) (name_of f) s) (acknowledgements r (format_of f) (limit_of f) (name_of f) t) (due_of f) (due_of g) v
