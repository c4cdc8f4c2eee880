use Rattle.std.proofs.Common.{◌∙◌, arith}
use Rattle.events_frames.specs.Headers.{event_header_of}
use Rattle.library_log.proofs.ElementLemmas.{statement_added}
use Rattle.library_log.proofs.records.put_statement.Goals as goal

pub returns-clause-added : goal.returns-clause-added
returns-clause-added c = λ q has.
    statement_added _ _ _ _ _ _ _ _ _ (event_header_of c.args.header) q (c.len-start.ensures ∙ c.args.out.now.ok.0) c.put_text-2.new.out.ok.0 has.schema has.query c.in_ok-begin_change.ensures.appended c.in_ok-put_text.ensures.appended c.in_ok-put_text-2.ensures.appended c.set_len.ensures.written c.in_ok-begin_change.ensures.small c.put_text.ensures.small c.put_text-2.ensures.small (omega arith)
