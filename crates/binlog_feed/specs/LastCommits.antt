-- The last commit line of the feed's text.
use Rattle.std.specs.Prelude.{◌≡◌, List, length}
use Rattle.feed_transactions.specs.TransactionTexts.{text_of}
use Rattle.feed_transactions.specs.Transactions.{Transaction}
use Rattle.feed_resume.specs.Kept.{kept}
use Rattle.feed_replication.specs.ResumePositions.{last_position}

-- the text of these transactions ends with a commit line, unless there are none, and the number in it is the position of the last of them
abbrev pub EndsWithLastCommit : List Transaction → Type 0
EndsWithLastCommit ts = kept (text_of ts) ≡ (length (text_of ts), last_position ts)
