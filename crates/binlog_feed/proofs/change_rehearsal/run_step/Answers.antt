use Rattle.std.proofs.Common.{◌≡◌, ◌∙◌, ap, sym, subst, take}
use Rattle.std.specs.Prelude.{min}
use Rattle.feed_transactions.specs.Rules.{rules}
use Rattle.feed_checks.specs.declared.verdict.Verdict.TheVariants.{Closed}
use Rattle.feed_replication.specs.Requests.{dump_request}
use Rattle.feed_replication.specs.Runs.{resume_position}
use Rattle.feed_replication.specs.Serving.{answer, answer_bytes}
use Rattle.feed_replication.specs.Streams.{program_limit}
use Rattle.feed_replication.proofs.RehearsalLemmas.{prefix-is}
use Rattle.binlog_feed.specs.ChangeFollowing.{asked_position_of, server_of, name_of}
use Rattle.binlog_feed.specs.ChangeRunSteps.{AppliesBy}
use Rattle.binlog_feed.proofs.ApplyLemmas.{step_applied, step_none, is_run_reading}
use Rattle.binlog_feed.proofs.change_rehearsal.run_step.Goals as goal

pub returns-in_default-clause-applies : goal.returns-in_default-clause-applies
returns-in_default-clause-applies g c = λ sum k before h i. step_none g.A.Applier.has_applied sum c.args.format c.args.binlog.now before c.args.step c.again.new.self c.args.applier.now

pub returns-in-Err-clause-applies : goal.returns-in-Err-clause-applies
returns-in-Err-clause-applies g c = λ sum k before h i. rw c.in-Err.ensures.err (step_none g.A.Applier.has_applied sum c.args.format c.args.binlog.now before c.args.step c.again.new.self c.args.applier.now)

pub returns-in-Ok-apply_piece-clause-applies : goal.returns-in-Ok-apply_piece-clause-applies
returns-in-Ok-apply_piece-clause-applies g c = λ sum k before h i.
    let asks : asked_position_of c.again.new.self ≡ resume_position before = c.in-Ok.ensures.asked_position h.dealt h.resumes ∙ h.asks in
    let request = c.deref.ensures.value
    ∙ c.in-Ok.ensures.request h.dealt h.resumes
    ∙ ap (λ q. dump_request q (server_of c.args.follower.now) (name_of c.args.follower.now)) (h.asks ∙ sym asks)
    ∙ ap (dump_request (asked_position_of c.again.new.self) (server_of c.args.follower.now)) h.name_is in
    let there = prefix-is c.args.step.size c.args.binlog.now c.min.result c.min.ensures in
    let piece = c.arrived.ensures in
    let bytes = c.deref-2.ensures.value ∙ c.in-Ok-whole_answer.ensures.ok sum k (asked_position_of c.again.new.self) (server_of c.args.follower.now) c.in-Ok.ensures.position request in
    let stream_is = piece
    ∙ ap (take c.args.step.count) bytes
    ∙ ap (λ x. take c.args.step.count (answer_bytes (answer (rules sum) c.args.format program_limit x (asked_position_of c.again.new.self)))) there
    ∙ ap (λ q. take c.args.step.count (answer_bytes (answer (rules sum) c.args.format program_limit (take c.args.step.size c.args.binlog.now) q))) asks in
    let settings = c.in-Ok.ensures.settings in
    let later = c.in-Ok-apply_piece.ensures.settings in
    let reading = is_run_reading sum c.args.format c.again.new.self (settings.format ∙ h.format_is) (settings.limit ∙ h.limit_is) (settings.name ∙ h.name_is) in
    let applied = c.in-Ok-apply_piece.ensures.applies sum (λ bytes v small fits e. k bytes v small fits (record { shown = e.shown; shows = e.shows; says = record { met = subst (λ f. g.F.Fn.post f (e.shown, tt) v) (ap (λ f. f.now) settings.checksum ∙ c.requires.keeps) e.says.met } })) (c.in-Ok.ensures.at sum) in
    step_applied g.A.Applier.has_applied sum c.args.format c.args.binlog.now before c.args.step i c.apply_piece.new.follower c.arrived.result.now stream_is (c.in-Ok-apply_piece.ensures.asked_position ∙ asks) (later.limit ∙ settings.limit ∙ h.limit_is) (later.name ∙ settings.name ∙ h.name_is) (later.format ∙ settings.format ∙ h.format_is) c.args.applier.now c.apply_piece.new.applier Closed
    (subst (λ x. AppliesBy g.A.Applier.has_applied x c.apply_piece.new.follower c.arrived.result.now c.args.applier.now c.apply_piece.new.applier Closed) reading applied)

pub returns-clause-applies : goal.returns-clause-applies
returns-clause-applies g c = λ sum k before h i.
    let asks : asked_position_of c.again.new.self ≡ resume_position before = c.in-Ok.ensures.asked_position h.dealt h.resumes ∙ h.asks in
    let request = c.deref.ensures.value
    ∙ c.in-Ok.ensures.request h.dealt h.resumes
    ∙ ap (λ q. dump_request q (server_of c.args.follower.now) (name_of c.args.follower.now)) (h.asks ∙ sym asks)
    ∙ ap (dump_request (asked_position_of c.again.new.self) (server_of c.args.follower.now)) h.name_is in
    let there = prefix-is c.args.step.size c.args.binlog.now c.min.result c.min.ensures in
    let piece = c.arrived.ensures in
    let bytes = c.deref-2.ensures.value ∙ c.in-Ok-whole_answer.ensures.ok sum k (asked_position_of c.again.new.self) (server_of c.args.follower.now) c.in-Ok.ensures.position request in
    let stream_is = piece
    ∙ ap (take c.args.step.count) bytes
    ∙ ap (λ x. take c.args.step.count (answer_bytes (answer (rules sum) c.args.format program_limit x (asked_position_of c.again.new.self)))) there
    ∙ ap (λ q. take c.args.step.count (answer_bytes (answer (rules sum) c.args.format program_limit (take c.args.step.size c.args.binlog.now) q))) asks in
    let settings = c.in-Ok.ensures.settings in
    let later = c.in-Err-apply_piece.ensures.settings in
    let reading = is_run_reading sum c.args.format c.again.new.self (settings.format ∙ h.format_is) (settings.limit ∙ h.limit_is) (settings.name ∙ h.name_is) in
    let applied = c.in-Err-apply_piece.ensures.applies sum (λ bytes v small fits e. k bytes v small fits (record { shown = e.shown; shows = e.shows; says = record { met = subst (λ f. g.F.Fn.post f (e.shown, tt) v) (ap (λ f. f.now) settings.checksum ∙ c.requires.keeps) e.says.met } })) (c.in-Ok.ensures.at sum) in
    step_applied g.A.Applier.has_applied sum c.args.format c.args.binlog.now before c.args.step i c.apply_piece.new.follower c.arrived.result.now stream_is (c.in-Err-apply_piece.ensures.asked_position ∙ asks) (later.limit ∙ settings.limit ∙ h.limit_is) (later.name ∙ settings.name ∙ h.name_is) (later.format ∙ settings.format ∙ h.format_is) c.args.applier.now c.apply_piece.new.applier c.in-Err-apply_piece.verdict
    (subst (λ x. AppliesBy g.A.Applier.has_applied x c.apply_piece.new.follower c.arrived.result.now c.args.applier.now c.apply_piece.new.applier c.in-Err-apply_piece.verdict) reading applied)
