use Rattle.std.proofs.Common.{[], Some, refl, ◌∙◌, ap, sym}
use Rattle.wire_buf.specs.Watched.{inner_of}
use Rattle.feed_transactions.specs.Rules.{rules}
use Rattle.feed_replication.specs.Streams.{program_limit}
use Rattle.feed_replication.specs.Serving.{answer_to, answer_bytes}
use Rattle.feed_replication.specs.RequestedPackets.{requested}
use Rattle.feed_replication.proofs.FieldLemmas.{answered}
use Rattle.feed_replication.proofs.FileLemmas.{is_requested}
use Rattle.binlog_feed.proofs.ApplyLemmas.{whole_is}
use Rattle.binlog_feed.proofs.change_rehearsal.whole_answer.Goals as goal

pub returns-clause-ok : goal.returns-clause-ok
returns-clause-ok g c = λ sum k position server fits is.
    let asked = requested c.args.request.now [] in
    ap (λ v. v.items) c.into_inner.ensures
    ∙ whole_is (rules sum) c.args.format program_limit asked _ c.args.there.now _ _ (Some (inner_of c.serve_in-served.new.reader).now) c.serve_in-served.result (sym c.has_ended_early.ensures ∙ c.if-has_ended_early.false) (ap (λ s. s.now) c.new-reader.ensures.inner) (ap (λ v. v.items) c.new-writer.ensures.inner ∙ c.new.ensures.items) (c.serve_in-served.ensures.serves sum asked k (is_requested c.args.request.now [] asked refl))
    ∙ ap (λ q. answer_bytes (answer_to (rules sum) c.args.format program_limit (requested q []) c.args.there.now)) is
    ∙ ap answer_bytes (answered (rules sum) c.args.format program_limit position server [] c.args.there.now fits)
