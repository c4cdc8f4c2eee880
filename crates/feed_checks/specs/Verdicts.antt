-- The names and the exit status that the program gives verdicts.
use Rattle.std.specs.Prelude.{ℕ, List, codes}
use Rattle.feed_checks.specs.declared.verdict.Verdict.{Verdict}
use Rattle.feed_checks.specs.declared.verdict.Verdict.TheVariants.{End, Closed, Mark, TooLarge, OutOfNumber, ServerError, NotAnEvent, Frame, Algorithm, Checksum, Size, Body, NoTableMap, Row, Outside, Inside, Unshown, UnknownKind, Memory, Read, Write}

-- the name of a verdict
abbrev pub verdict_name : Verdict → List ℕ
verdict_name End = codes "End"
verdict_name Closed = codes "Closed"
verdict_name Mark = codes "Mark"
verdict_name TooLarge = codes "TooLarge"
verdict_name OutOfNumber = codes "OutOfNumber"
verdict_name ServerError = codes "ServerError"
verdict_name NotAnEvent = codes "NotAnEvent"
verdict_name Frame = codes "Frame"
verdict_name Algorithm = codes "Algorithm"
verdict_name Checksum = codes "Checksum"
verdict_name Size = codes "Size"
verdict_name Body = codes "Body"
verdict_name NoTableMap = codes "NoTableMap"
verdict_name Row = codes "Row"
verdict_name Outside = codes "Outside"
verdict_name Inside = codes "Inside"
verdict_name Unshown = codes "Unshown"
verdict_name UnknownKind = codes "UnknownKind"
verdict_name Memory = codes "Memory"
verdict_name Read = codes "Read"
verdict_name Write = codes "Write"

-- 0 for `End`, else 1
abbrev pub verdict_status : Verdict → ℕ
verdict_status End = 0
verdict_status _ = 1
