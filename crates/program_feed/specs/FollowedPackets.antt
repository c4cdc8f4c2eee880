-- What `follow` writes of the packets that it reads, and how it ends, for any reader and any writer.
use Rattle.std.specs.Prelude.{◌≡◌, ◌⊎◌, ◌≤◌, true, ◌||◌, ℕ, List, ◌++◌, length, take, Option}
use Rattle.std.specs.Io.KnownBytes.{Consumes, Appends, IsAtEnd}
use Rattle.feed_checks.specs.LogFormat.{joined}
use Rattle.feed_checks.specs.declared.verdict.Verdict.{Verdict}
use Rattle.feed_checks.specs.declared.verdict.Verdict.TheVariants as verdicts
use Rattle.feed_transactions.specs.Rules.{Rules}
use Rattle.feed_replication.specs.Streams.{stream_texts, stream_verdict, program_limit}
use Rattle.feed_replication.specs.declared.format.PayloadFormat.TheVariants.{Plain}
use Rattle.program_feed.specs.Commands.{Devices}
use Rattle.program_feed.specs.Endings.{IsVerdictEnding}
use Rattle.program_feed.specs.declared.endings.Ending.{Ending}

-- the texts of the transactions that the packets show
abbrev pub packet_texts : Rules → List ℕ → List (List ℕ)
packet_texts r read = stream_texts r Plain program_limit read

-- the verdict of the packets
abbrev pub packet_verdict : Rules → List ℕ → Verdict
packet_verdict r read = stream_verdict r Plain program_limit read

-- no further bytes change the verdict
abbrev pub IsFinal : Rules → List ℕ → Verdict → Type 0
IsFinal r read v = (more : List ℕ) → packet_verdict r (read ++ more) ≡ v

-- `text` is as much of the text of the bytes that were read as the verdict promises
abbrev pub IsFollowedText : Rules → List ℕ → Option (List ℕ) → List ℕ → Verdict → Type 0
-- out of memory: the texts of the first few transactions, each complete
IsFollowedText r read unread text verdicts.Memory = (j : ℕ) × (text ≡ joined (take j (packet_texts r read)))
-- a write or a flush failed: a prefix of the text
IsFollowedText r read unread text verdicts.Write = (more : List ℕ) × (text ++ more ≡ joined (packet_texts r read))
-- the reader failed before the packets had a verdict: the whole text
IsFollowedText r read unread text verdicts.Read = (text ≡ joined (packet_texts r read)) × (packet_verdict r read ≡ verdicts.Closed)
-- the reader ended before that: the whole text
IsFollowedText r read unread text verdicts.Closed = (text ≡ joined (packet_texts r read)) × (IsAtEnd unread ⊎ IsFinal r read verdicts.Closed) × (packet_verdict r read ≡ verdicts.Closed)
-- any other verdict: the whole text, and the verdict of the packets, whatever follows them
IsFollowedText r read unread text v = (text ≡ joined (packet_texts r read)) × IsFinal r read v

-- before the last read, which takes at most 65,536 bytes, the packets had no verdict: so no more is read once they have one
pub record EndsReading (r : Rules) (read : List ℕ) : Type 0 where
  pub earlier : List ℕ
  pub last : List ℕ
  pub parts : read ≡ earlier ++ last
  pub goes_on : packet_verdict r earlier ≡ verdicts.Closed
  pub most : length last ≤ 0x1_0000

-- Some bytes were read, and such a text of them was appended to what the writer held.
pub record FollowsPackets (r : Rules) (d : Devices) (v : Verdict) : Type 0 where
  pub read : List ℕ
  pub consumed : Consumes d.input d.unread read
  pub ends : EndsReading r read
  pub text : List ℕ
  pub appended : Appends d.before d.written text
  pub is : IsFollowedText r read d.unread text v

-- `Read` is returned only if the reader failed, and `Write` only if a write or a flush failed; a failed flush is `Write`
abbrev pub IsFollowFailure : Verdict → Devices → Type 0
IsFollowFailure verdicts.Read d = d.read_failed ≡ true
IsFollowFailure verdicts.Write d = (d.write_failed || d.flush_failed) ≡ true
IsFollowFailure _ d = Unit {0}

-- `follow`
pub record WritesFollowed (r : Rules) (d : Devices) (ending : Ending) : Type 0 where
  pub verdict : Verdict
  pub follows : FollowsPackets r d verdict
  pub blamed : IsFollowFailure verdict d
  pub flush : d.flush_failed ≡ true → verdict ≡ verdicts.Write
  pub ending_is : IsVerdictEnding verdict ending
