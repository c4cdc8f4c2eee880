use Rattle.std.proofs.Common.{sym, ◌∙◌}
use Rattle.program_changes.specs.PrintedAnswers.{asked_by}
use Rattle.program_changes.proofs.FollowedLineLemmas.{acknowledges_none, prints_none}
use Rattle.program_changes.proofs.LineSinkLemmas.{like_itself, sink_wants}
use Rattle.program_changes.proofs.follow.print_answer.Goals as goal

pub returns-in-Ok : goal.returns-in-Ok
returns-in-Ok g c = record {
  prints = λ sum k j begins is_new. record {
    filter = c.filter_of-filter.result;
    filter_is = c.filter_of-filter.ensures;
    follows = c.in-Ok.ensures.follows sum k (asked_by c.args.options.now sum) j begins
        (λ newest like. sink_wants c.args.printer.now.sink c.filter_of-filter.result c.new-recorder.result newest (c.new-recorder.ensures.filter ∙ c.table_filter.ensures) (c.new-recorder.ensures.options ∙ c.table_options.ensures ∙ sym is_new.options_are) (c.new-recorder.ensures.added ∙ sym is_new.added_is) (like c.new-recorder.result like_itself))
        c.args.printer.now (prints_none g.W.Write.contents c.args.printer.now.sink, acknowledges_none g.A.Write.contents c.args.printer.now.acks) is_new.none_waits;
  };
}

pub follow_logs-requires-clause-callable : goal.follow_logs-requires-clause-callable
follow_logs-requires-clause-callable g c = c.requires.callable

pub follow_logs-requires-clause-answer : goal.follow_logs-requires-clause-answer
follow_logs-requires-clause-answer g c = c.requires.answer
