-- What the reader of a server's answer has taken of the bytes received so far; for any recorder, any rules and any format of the payloads.
use Rattle.std.specs.Prelude.{◌≡◌, ◌⊎◌, ℕ, true, List, [], ◌∷◌, ◌++◌, map, Option, Some, None, unwrap_or}
use Rattle.wire_packets.specs.CodecState as codec
use Rattle.feed_checks.specs.declared.verdict.Verdict.{Verdict}
use Rattle.feed_checks.specs.declared.verdict.Verdict.TheVariants as verdicts
use Rattle.feed_checks.specs.EventFields.{Event}
use Rattle.feed_checks.specs.PastLists.{onto}
use Rattle.feed_transactions.specs.FeedStates.{RepresentsRecorded}
use Rattle.feed_transactions.specs.ReportLaws.{Each}
use Rattle.feed_transactions.specs.Recorders.{HasOpen}
use Rattle.feed_transactions.specs.Rules.{Rules, Judge}
use Rattle.feed_transactions.specs.Transactions.{Transaction}
use Rattle.feed_replication.specs.Requests.{dump_request}
use Rattle.feed_replication.specs.declared.format.PayloadFormat.{PayloadFormat as Format}
use Rattle.feed_replication.specs.Streams.{holds_event, event_in, stream_transactions, stream_verdict}
use Rattle.feed_replication.specs.Acknowledgements.{acknowledgements}
use Rattle.feed_replication.specs.ResumePositions.{last_position, position_after}
use Rattle.feed_replication.specs.declared.answer_reader.AnswerReader.{AnswerReader}

-- the maximum length of a payload
abbrev pub limit_of : {K F : Type 0} → AnswerReader K F → ℕ
limit_of a = codec.codec_limit a.incoming.codec

-- the verdict that is kept, if the stream is over
abbrev pub verdict_in : {K F : Type 0} → AnswerReader K F → Option Verdict
verdict_in a = a.verdict

-- the format of the payloads
abbrev pub format_of : {K F : Type 0} → AnswerReader K F → Format
format_of a = a.format

-- the checksum function
abbrev pub checksum_of : {K F : Type 0} → AnswerReader K F → F
checksum_of a = a.checksum

-- the server id in the requests
abbrev pub server_of : {K F : Type 0} → AnswerReader K F → ℕ
server_of a = a.server

-- the name of the log in the requests
abbrev pub name_of : {K F : Type 0} → AnswerReader K F → List ℕ
name_of a = a.name.bytes.items

-- the position of the last request
abbrev pub asked_position_of : {K F : Type 0} → AnswerReader K F → ℕ
asked_position_of a = a.asked_position

-- the position of the next request
abbrev pub next_position_of : {K F : Type 0} → AnswerReader K F → ℕ
next_position_of a = a.position

-- the acknowledgements that are due
abbrev pub due_of : {K F : Type 0} → AnswerReader K F → List ℕ
due_of a = a.due_acks.items

-- the bytes that were received and aren't taken
abbrev pub received_of : {K F : Type 0} → AnswerReader K F → List ℕ
received_of a = a.incoming.received.items

-- the recorder
abbrev pub recorder_in : {K F : Type 0} → AnswerReader K F → K
recorder_in a = a.transactions.transaction.recorder

-- the same reader with this verdict
abbrev pub with_verdict : {K F : Type 0} → AnswerReader K F → Option Verdict → AnswerReader K F
with_verdict a v = record a { verdict = v }

-- server id, name, format, limit and checksum function are unchanged
pub record KeepsSettings {K F : Type 0} (old new : AnswerReader K F) : Type 0 where
  pub server : server_of new ≡ server_of old
  pub name : name_of new ≡ name_of old
  pub format : format_of new ≡ format_of old
  pub limit : limit_of new ≡ limit_of old
  pub checksum : checksum_of new ≡ checksum_of old

-- only the bytes received and what was taken of them changed
pub record KeepsProgress {K F : Type 0} (old new : AnswerReader K F) : Type 0 where
  pub position : next_position_of new ≡ next_position_of old
  pub asked_position : asked_position_of new ≡ asked_position_of old
  pub due_acks : due_of new ≡ due_of old
  pub verdict : verdict_in new ≡ verdict_in old
  pub settings : KeepsSettings old new

-- only the position of the next request and the acknowledgements that are due changed
pub record KeepsTaken {K F : Type 0} (old new : AnswerReader K F) : Type 0 where
  pub received : received_of new ≡ received_of old
  pub recorder : recorder_in new ≡ recorder_in old
  pub asked_position : asked_position_of new ≡ asked_position_of old
  pub verdict : verdict_in new ≡ verdict_in old
  pub settings : KeepsSettings old new

-- the fault in a verdict; `End` and `Closed` are none
abbrev pub fault_among : Option Verdict → Option Verdict
fault_among None = None
fault_among (Some verdicts.End) = None
fault_among (Some verdicts.Closed) = None
fault_among (Some v) = Some v

-- the fault that ended the stream, if one did
abbrev pub stream_fault : {K F : Type 0} → AnswerReader K F → Option Verdict
stream_fault a = fault_among (verdict_in a)

-- ---- events that were taken, the newest first

-- no event has a fault after the events before it; the newest event comes first
abbrev pub AreGood : Judge → List Event → Type 0
AreGood judge [] = Unit {0}
AreGood judge (e ∷ past) = (judge past e ≡ None) × AreGood judge past

-- the transactions that these events showed, in log order; the list of events begins with the newest
abbrev pub shown_in : Rules → List Event → List Transaction
shown_in r [] = []
shown_in r (e ∷ past) = shown_in r past ++ r.shows past e

-- The payloads hold these events, and none of the events is a fault.
pub record AreGoodPayloads (r : Rules) (format : Format) (ps : List (List ℕ)) (past : List Event) : Type 0 where
  pub each : Each (λ p. holds_event format p ≡ true) ps
  pub events : past ≡ onto [] (map (event_in format) ps)
  pub good : AreGood r.fault past

-- ---- what a reader's state represents

-- the reader has taken these payloads of the stream s; `past` are their events, the newest first, and `completed` those of them that were completed
pub record HasTaken {K F : Type 0} (IsOpen : HasOpen K) (r : Rules) (format : Format) (a : AnswerReader K F) (s : List ℕ) (ps : List (List ℕ)) (past completed : List Event) : Type 0 where
  pub codec : codec.HasRead a.incoming.codec 1 s ps a.incoming.gathered.items a.incoming.received.items
  pub good : AreGoodPayloads r format ps past
  pub transactions : RepresentsRecorded IsOpen a.transactions past
  pub position_is : next_position_of a ≡ unwrap_or (last_position (shown_in r completed)) (asked_position_of a)

-- the stream goes on: each complete packet was taken, and no verdict was returned
pub record IsRunning {K F : Type 0} (IsOpen : HasOpen K) (r : Rules) (format : Format) (a : AnswerReader K F) (s : List ℕ) : Type 0 where
  pub payloads : List (List ℕ)
  pub past : List Event
  pub taken : HasTaken IsOpen r format a s payloads past past
  pub halts : codec.Halts (limit_of a) 1 payloads a.incoming.gathered.items a.incoming.received.items None
  pub no_verdict : verdict_in a ≡ None

-- the stream is over: no further bytes change its verdict, transactions and acknowledgements
pub record HasEnded {K F : Type 0} (r : Rules) (format : Format) (a : AnswerReader K F) (s : List ℕ) (v : Verdict) : Type 0 where
  pub has_verdict : verdict_in a ≡ Some v
  pub verdict_is : (more : List ℕ) → stream_verdict r format (limit_of a) (s ++ more) ≡ v
  pub transactions_stay : (more : List ℕ) → stream_transactions r format (limit_of a) (s ++ more) ≡ stream_transactions r format (limit_of a) s
  pub acknowledgements_stay : (more : List ℕ) → acknowledgements r format (limit_of a) (name_of a) (s ++ more) ≡ acknowledgements r format (limit_of a) (name_of a) s

-- it resumes from the position in the last commit line of the stream's text, or from that of the last request
abbrev pub ResumesAfter : {K F : Type 0} → Rules → Format → AnswerReader K F → List ℕ → Type 0
ResumesAfter r format a s = next_position_of a ≡ position_after r format (limit_of a) s (asked_position_of a)

-- the reader's state represents these bytes: what they show was dealt with, and the stream goes on or is over
abbrev pub RepresentsStream : {K F : Type 0} → HasOpen K → Rules → Format → AnswerReader K F → List ℕ → Type 0
RepresentsStream IsOpen r format a s = ResumesAfter r format a s × (IsRunning IsOpen r format a s ⊎ ((v : Verdict) × HasEnded r format a s v))

-- a reader before the first byte of an answer of this format, and its request
pub record Starts {K F : Type 0} (IsOpen : HasOpen K) (format : Format) (position server : ℕ) (name : List ℕ) (limit : ℕ) (checksum : F) (a : AnswerReader K F) (question : List ℕ) : Type 0 where
  pub after : (r : Rules) → RepresentsStream IsOpen r format a []
  pub request : question ≡ dump_request position server name
  pub asked_position : asked_position_of a ≡ position
  pub server_is : server_of a ≡ server
  pub name_is : name_of a ≡ name
  pub format_is : format_of a ≡ format
  pub limit_is : limit_of a ≡ limit
  pub checksum_is : checksum_of a ≡ checksum
  pub none_waits : due_of a ≡ []
  pub no_verdict : verdict_in a ≡ None
