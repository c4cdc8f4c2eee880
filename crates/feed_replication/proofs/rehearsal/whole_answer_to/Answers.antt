use Rattle.std.proofs.Common.{Some, ◌∙◌, ap, sym}
use Rattle.wire_buf.specs.Watched.{inner_of}
use Rattle.feed_transactions.specs.Rules.{rules}
use Rattle.feed_replication.specs.Streams.{program_limit}
use Rattle.feed_replication.specs.Serving.{answer_bytes}
use Rattle.feed_replication.specs.RequestedPackets.{served}
use Rattle.feed_replication.proofs.FieldLemmas.{answered}
use Rattle.feed_replication.proofs.RehearsalLemmas.{whole-answer}
use Rattle.feed_replication.proofs.rehearsal.whole_answer_to.Goals as goal

pub returns-clause-ok : goal.returns-clause-ok
returns-clause-ok g c = λ sum k position server fits is.
    ap (λ v. v.items) c.into_inner.ensures
    ∙ whole-answer (served (rules sum) c.args.format program_limit c.args.request.now c.args.name.now) _ c.args.there.now _ _ (Some (inner_of c.serve_as-served.new.reader).now) c.serve_as-served.result (sym c.has_ended_early.ensures ∙ c.if-has_ended_early.false) (ap (λ s. s.now) c.new-reader.ensures.inner) (ap (λ v. v.items) c.new-writer.ensures.inner ∙ c.new.ensures.items) (c.serve_as-served.ensures.serves sum k)
    ∙ ap (λ q. answer_bytes (served (rules sum) c.args.format program_limit q c.args.name.now c.args.there.now)) is
    ∙ ap answer_bytes (answered (rules sum) c.args.format program_limit position server c.args.name.now c.args.there.now fits)
