use Rattle.std.proofs.Common.{◌≡◌, ℕ, List, [], Some, ◌∙◌, ap, sym, subst, take}
use Rattle.std.specs.Prelude.{min}
use Rattle.wire_buf.specs.Watched.{inner_of}
use Rattle.feed_transactions.specs.Rules.{rules}
use Rattle.feed_replication.specs.Acknowledgements.{acknowledgements}
use Rattle.feed_replication.specs.Requests.{dump_request}
use Rattle.feed_checks.specs.declared.verdict.Verdict.TheVariants.{Memory}
use Rattle.feed_replication.specs.ResumePositions.{position_after}
use Rattle.feed_replication.specs.declared.format.PayloadFormat.{PayloadFormat as Format}
use Rattle.feed_replication.specs.Streams.{stream_verdict, program_limit}
use Rattle.feed_replication.specs.Following.{format_of, limit_of, asked_position_of, server_of, name_of, due_of, ResumesAfter, RepresentsStream, IsFed, AddsDue}
use Rattle.feed_replication.specs.Serving.{answer, answer_bytes}
use Rattle.feed_replication.specs.Runs.{resume_position, step_acknowledgements}
use Rattle.feed_replication.proofs.AcknowledgedLemmas.{waits-none}
use Rattle.feed_replication.proofs.RehearsalLemmas.{Steps, takes, acknowledges, takes-nothing, prefix-is, answer-of, blamed}
use Rattle.feed_replication.proofs.rehearsal.run_step.Goals as goal

pub returns-in_default-clause-takes : goal.returns-in_default-clause-takes
returns-in_default-clause-takes g c = λ sum k before h i.
    let all = step_acknowledgements (rules sum) c.args.format c.args.name.now c.args.binlog.now before c.args.step in (
      takes-nothing (rules sum) c.args.format c.args.name.now c.args.binlog.now c.again.new.self before c.args.step _,
      subst (λ (x : List ℕ). AddsDue [] all x (due_of c.again.new.self) (Some Memory)) c.again.ensures.due_acks (waits-none all (due_of c.again.new.self)),
    )

pub returns-in-Err-clause-takes : goal.returns-in-Err-clause-takes
returns-in-Err-clause-takes g c = λ sum k before h i.
    let all = step_acknowledgements (rules sum) c.args.format c.args.name.now c.args.binlog.now before c.args.step in
    rw c.in-Err.ensures.err (
      takes-nothing (rules sum) c.args.format c.args.name.now c.args.binlog.now c.again.new.self before c.args.step _,
      subst (λ (x : List ℕ). AddsDue [] all x (due_of c.again.new.self) (Some Memory)) c.again.ensures.due_acks (waits-none all (due_of c.again.new.self)),
    )

pub returns-clause-takes : goal.returns-clause-takes
returns-clause-takes g c = λ sum k before h i.
    let r = rules sum in
    let own : ResumesAfter r (format_of c.args.follower.now) c.args.follower.now h.stream = subst (λ x. ResumesAfter r x c.args.follower.now h.stream) (sym h.format_is) h.printed in
    let from = c.in-Ok.ensures.asked_position r h.stream own ∙ ap (λ x. position_after r x (limit_of c.args.follower.now) h.stream (asked_position_of c.args.follower.now)) h.format_is in
    let asks : asked_position_of c.again.new.self ≡ resume_position before = from ∙ h.asks in
    let request = c.deref.ensures.value ∙ c.in-Ok.ensures.request r h.stream own ∙ ap (λ x. dump_request (position_after r x (limit_of c.args.follower.now) h.stream (asked_position_of c.args.follower.now)) (server_of c.args.follower.now) (name_of c.args.follower.now)) h.format_is ∙ ap (λ q. dump_request q (server_of c.args.follower.now) (name_of c.args.follower.now)) (sym from) ∙ ap (λ n. dump_request (asked_position_of c.again.new.self) (server_of c.args.follower.now) n) h.name_is in
    let same : format_of c.again.new.self ≡ c.args.format = c.in-Ok.ensures.settings.format ∙ h.format_is in
    let after : format_of c.feed.new.self ≡ c.args.format = c.feed.ensures.settings.format ∙ same in
    let there = prefix-is c.args.step.size c.args.binlog.now c.min.result c.min.ensures in
    let piece = c.arrived.ensures in
    let bytes = c.deref-2.ensures.value ∙ c.in-Ok-whole_answer_to.ensures.ok sum k (asked_position_of c.again.new.self) (server_of c.args.follower.now) c.in-Ok.ensures.position request in
    let none = λ (x : Format). acknowledgements r x (limit_of c.again.new.self) (name_of c.again.new.self) [] in
    let asked = λ (x : Format). acknowledgements r x (limit_of c.again.new.self) (name_of c.again.new.self) c.arrived.result.now in
    let heard = c.feed.ensures.acknowledged sum (λ bytes v small fits e. k bytes v small fits (record { shown = e.shown; shows = e.shows; says = record { met = subst (λ f. g.F.Fn.post f (e.shown, tt) v) (ap (λ f. f.now) c.in-Ok.ensures.settings.checksum ∙ c.requires.keeps) e.says.met } })) [] (c.in-Ok.ensures.after r) in
    let step : Steps r c.args.format c.args.name.now c.args.binlog.now before c.args.step c.feed.new.self c.finish.new.self c.arrived.result.now c.feed.result c.finish.result = record {
      piece_is = piece
          ∙ ap (take c.args.step.count) bytes
          ∙ ap (λ x. take c.args.step.count (answer_bytes (answer r c.args.format program_limit x (asked_position_of c.again.new.self)))) there
          ∙ ap (λ q. take c.args.step.count (answer_bytes (answer r c.args.format program_limit (take c.args.step.size c.args.binlog.now) q))) asks;
      limit_is = c.finish.ensures.settings.limit ∙ c.feed.ensures.settings.limit ∙ c.in-Ok.ensures.settings.limit ∙ h.limit_is;
      asked_is = c.finish.ensures.asked_position ∙ c.feed.ensures.asked_position ∙ asks;
      name_is = c.finish.ensures.settings.name ∙ c.feed.ensures.settings.name ∙ c.in-Ok.ensures.settings.name ∙ h.name_is;
      format_is = c.finish.ensures.settings.format ∙ after;
      printed = subst (λ (x : Format). ResumesAfter r x c.feed.new.self c.arrived.result.now → ResumesAfter r x c.finish.new.self c.arrived.result.now) after (c.finish.ensures.printed r c.arrived.result.now);
      answer_is = answer-of c.finish.result _ _ _ c.feed.result c.feed.ensures.verdict c.finish.ensures.stays;
      verdict_is = λ st. subst (λ (x : Format). RepresentsStream r x c.feed.new.self c.arrived.result.now → c.finish.result ≡ stream_verdict r x (limit_of c.feed.new.self) c.arrived.result.now) after (c.finish.ensures.verdict r c.arrived.result.now) st ∙ ap (λ n. stream_verdict r c.args.format n c.arrived.result.now) (c.feed.ensures.settings.limit ∙ c.in-Ok.ensures.settings.limit ∙ h.limit_is);
    } in
    let fed : IsFed r c.args.format (limit_of c.again.new.self) [] c.arrived.result.now c.feed.new.self (g.W.Write.contents (inner_of c.args.writer.now)) (g.W.Write.contents (inner_of c.feed.new.writer)) c.feed.result =
    subst (λ (x : Format). IsFed r x (limit_of c.again.new.self) [] c.arrived.result.now c.feed.new.self (g.W.Write.contents (inner_of c.args.writer.now)) (g.W.Write.contents (inner_of c.feed.new.writer)) c.feed.result) same (c.feed.ensures.fed sum (λ bytes v small fits e. k bytes v small fits (record { shown = e.shown; shows = e.shows; says = record { met = subst (λ f. g.F.Fn.post f (e.shown, tt) v) (ap (λ f. f.now) c.in-Ok.ensures.settings.checksum ∙ c.requires.keeps) e.says.met } })) [] (c.in-Ok.ensures.after r)) in (
      takes r c.args.format c.args.name.now c.args.binlog.now before c.args.step c.again.new.self c.feed.new.self c.finish.new.self _ _ _ c.feed.result c.finish.result i (c.in-Ok.ensures.settings.limit ∙ h.limit_is) step fed,
      acknowledges r c.args.format c.args.name.now c.args.binlog.now before c.args.step c.again.new.self c.feed.new.self c.finish.new.self c.arrived.result.now (g.W.Write.contents (inner_of c.args.writer.now)) (g.W.Write.contents (inner_of c.feed.new.writer)) (due_of c.args.follower.now) (due_of c.finish.new.self) c.feed.result c.finish.result i (c.in-Ok.ensures.settings.limit ∙ h.limit_is) (c.in-Ok.ensures.settings.name ∙ h.name_is) step fed
          (subst (λ (x : List ℕ). AddsDue (none c.args.format) (asked c.args.format) x (due_of c.finish.new.self) c.feed.result) c.again.ensures.due_acks
          (subst (λ (x : List ℕ). AddsDue (none c.args.format) (asked c.args.format) (due_of c.again.new.self) x c.feed.result) (sym c.finish.ensures.due_acks)
          (subst (λ (x : Format). AddsDue (none x) (asked x) (due_of c.again.new.self) (due_of c.feed.new.self) c.feed.result) same heard))),
    )

pub returns-clause-blamed : goal.returns-clause-blamed
returns-clause-blamed g c =
    blamed c.feed.result c.finish.result _ (λ none. c.finish.ensures.closed (c.feed.ensures.verdict ∙ none)) (answer-of c.finish.result _ _ _ c.feed.result c.feed.ensures.verdict c.finish.ensures.stays) (c.feed.ensures.blamed c.in-Ok.ensures.verdict)
