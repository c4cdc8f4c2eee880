-- Recorders of lines and of records, as recorders of what is shown.
use Rattle.std.proofs.Common.{Result, Ok, Err, OnOk}
use Rattle.feed_transactions.specs.Recorders.{Stays}
use Rattle.changes_lines.specs.RecordedLines.{IsLikeJson}
use Rattle.changes_lines.specs.declared.recorder.JsonRecorder.{JsonRecorder}
use Rattle.library_log.specs.declared.recorder.RecordRecorder.{RecordRecorder}
use Rattle.library_log.specs.ShownRecorders.{IsLikeShown}
use Rattle.library_log.specs.declared.shown_recorder.ShownRecorder.{ShownRecorder}
use Rattle.library_log.specs.declared.shown_recorder.ShownRecorder.TheVariants as variants

lines_stay : (x y : JsonRecorder) → Stays IsLikeJson x y → Stays IsLikeShown (variants.Lines x) (variants.Lines y)
lines_stay x y h (variants.Lines made) like = h made like
lines_stay x y h (variants.Record made) like = absurd like

record_stays : (x y : RecordRecorder) → Stays IsLikeShown (variants.Record x) (variants.Record y)
record_stays x y (variants.Lines made) like = absurd like
record_stays x y (variants.Record made) like = tt

pub lines_like : {A E : Type 0} (r : Result A E) (x y : JsonRecorder) → OnOk r (Stays IsLikeJson x y) → OnOk r (Stays IsLikeShown (variants.Lines x) (variants.Lines y))
lines_like (Ok a) x y h = lines_stay x y h
lines_like (Err e) x y h = tt

pub record_like : {A E : Type 0} (r : Result A E) (x y : RecordRecorder) → OnOk r (Stays IsLikeShown (variants.Record x) (variants.Record y))
record_like (Ok a) x y = record_stays x y
record_like (Err e) x y = tt
