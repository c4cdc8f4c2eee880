use Rattle.std.proofs.Common.{refl, sym, ap, ◌∙◌}
use Rattle.events_frames.specs.Headers.{event_header_of}
use Rattle.program_changes.proofs.CountSinkLemmas.{counts_none, counts_more}
use Rattle.program_changes.proofs.stats.StatsSinkTransactionSinkStatsRecorder.take.Goals as goal

pub returns-then-not-takes_header-clause-ok : goal.returns-then-not-takes_header-clause-ok
returns-then-not-takes_header-clause-ok c = λ first m t alike d has.
    let taken = sym (c.takes_header.ensures t (ap event_header_of c.commit_header.ensures ∙ d.commit)) ∙ c.if-not-takes_header.true in
    counts_none first c.args.self.now c.args.filter m t taken has

pub returns-clause-ok : goal.returns-clause-ok
returns-clause-ok c = λ first m t alike d has.
    let taken = sym (c.takes_header.ensures t (ap event_header_of c.commit_header.ensures ∙ d.commit)) ∙ c.if-not-takes_header.false in
    counts_more first c.args.self.now _ c.args.filter m t c.args.newest.now taken alike d has refl c.in-Ok.ensures.added
