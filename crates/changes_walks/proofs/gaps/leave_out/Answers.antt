use Rattle.std.proofs.Common.{refl, ◌++◌}
use Rattle.std.proofs.lemmas.Result.{IfOk-weaker}
use Rattle.events_frames.specs.Sources.{event_of, waiting_of}
use Rattle.changes_commands.specs.LogReaders.{left_in}
use Rattle.changes_walks.proofs.GapLemmas.{leaves_out, next_back}
use Rattle.changes_walks.proofs.gaps.leave_out.Goals as goal

pub returns-in-Ok-passed : goal.returns-in-Ok-passed
returns-in-Ok-passed g c = λ b is.
    let next = next_back c.args.unread.items b (left_in g.R.Read.remaining c.args.reader) (left_in g.R.Read.remaining c.put_back.new.self) is c.in-Ok.ensures.ok (waiting_of c.new-source.result) c.new-source.ensures.waiting in
    let passes = c.in-Ok-passed.ensures (c.args.unread.items ++ b) (rw c.new-watched.ensures.inner next) in
    IfOk-weaker c.put_rest-place.result _ _ (λ offset put.
    leaves_out c.args.stop c.args.is_first c.args.beginning.now (c.args.unread.items ++ b) c.in-Ok-passed.passed.offset c.in-Ok-passed.passed.has_newest (event_of c.pass-passed.new.source) (waiting_of c.pass-passed.new.source) _ passes
    _ refl _ (rw c.into_inner-reader.ensures at put.1) offset put.0) c.put_rest-place.ensures
