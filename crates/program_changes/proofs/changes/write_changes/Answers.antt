use Rattle.std.proofs.Common.{[], ◌∙◌}
use Rattle.feed_transactions.specs.Checks.{fault_of}
use Rattle.changes_walks.specs.SourceStates.{known_in}
use Rattle.program_changes.proofs.LentSinkLemmas.{lent}
use Rattle.program_changes.proofs.LineSinkLemmas.{end_blamed, finishes, like_itself, sink_wants}
use Rattle.program_changes.specs.FollowedLineLaws.{lines_at_first}
use Rattle.program_changes.specs.LineSinks.{FailsLines, HasLines}
use Rattle.program_changes.specs.declared.changes.LentSink.{LentSink}
use Rattle.program_changes.proofs.changes.write_changes.Goals as goal

pub returns-clause-writes : goal.returns-clause-writes
returns-clause-writes g c = λ sum k b is.
    let chosen = c.selection_of-selection.result in
    let sink = c.args.sink.now.0.now in
    record {
      filter = chosen.filter;
      filter_is = c.selection_of-selection.ensures.filter;
      writes = record {
        sink = c.walk_log-end.new.sink.0.now;
        end = c.walk_log-end.result.end;
        walked = rw (← c.selection_of-selection.ensures.start, ← c.selection_of-selection.ensures.stop)
            (lent (λ (s : LentSink _). s.0.now) (fault_of sum) (HasLines g.W.Write.contents sink) (FailsLines g.W.Write.contents sink) chosen.filter chosen.range.start chosen.range.stop [] c.walk_log-end.new.sink (known_in c.args.sources.now) b c.walk_log-end.result.end
            (c.walk_log-end.ensures.ends sum k b c.args.sink.now [] (λ newest like. sink_wants sink chosen.filter c.new-recorder.result newest (c.new-recorder.ensures.filter ∙ c.table_filter.ensures) c.new-recorder.ensures.options c.new-recorder.ensures.added (like c.new-recorder.result like_itself)) is (lines_at_first g.W.Write.contents sink)));
        finished = finishes _ _ _ _ _ _ _ c.end_after.ensures c.write_waiting-written.ensures.ok c.write_waiting-written.ensures.fault;
      };
    }

pub returns-clause-blamed : goal.returns-clause-blamed
returns-clause-blamed g c = λ b is. end_blamed _ _ _ _ c.end_after.ensures (c.walk_log-end.ensures.blamed b is)
