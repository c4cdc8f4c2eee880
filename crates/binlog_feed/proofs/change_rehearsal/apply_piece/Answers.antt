use Rattle.std.proofs.Common.{true, false, Ok, Err, sym, subst, ◌∙◌}
use Rattle.std.proofs.lemmas.Result.{err_from_is_err_and}
use Rattle.feed_checks.specs.Sums.{IsChecksumFunction}
use Rattle.binlog_feed.specs.ChangeFollowing.{reading_of}
use Rattle.feed_replication.proofs.FollowLemmas.{settings_then}
use Rattle.binlog_feed.proofs.ApplyLemmas.{handed_none, handed_one, handed_all, handed_end, nothing_applied, takes_of}
use Rattle.binlog_feed.proofs.change_rehearsal.apply_piece.Goals as goal

pub returns-in_err-receive-clause-applies : goal.returns-in_err-receive-clause-applies
returns-in_err-receive-clause-applies g c =
    let e = err_from_is_err_and c.from_residual.result c.from_residual.ensures.1 in
    rw (e.1, e.2) (λ sum k at. nothing_applied g.A.Applier.has_applied (reading_of sum c.args.follower.now) _ c.args.piece.now c.args.applier.now _ (c.in_err-receive.ensures.memory_only at.goes_on))

pub loop-found-init : goal.loop-found-init
loop-found-init g c = record {
  handed = λ sum k at. handed_none g.A.Applier.has_applied (reading_of sum c.args.follower.now) _ c.args.piece.now c.args.applier.now (c.in_ok-receive.ensures.ok sum _ _ _ _ at);
  asked_position = c.in_ok-receive.ensures.asked_position;
  settings = c.in_ok-receive.ensures.settings;
}

pub returns-in_err-found-clause-applies : goal.returns-in_err-found-clause-applies
returns-in_err-found-clause-applies g c =
    let e = err_from_is_err_and c.from_residual-in_err-found.result c.from_residual-in_err-found.ensures.1 in
    let settings = c.loop-found.invariant.settings in
    rw (e.1, e.2) (λ sum k at.
    let w = c.loop-found.invariant.handed sum k at in
    handed_end g.A.Applier.has_applied (reading_of sum c.args.follower.now) c.loop-found.follower c.advance.new.self c.args.piece.now c.args.applier.now c.loop-found.applier w _
    (takes_of sum c.args.follower.now c.loop-found.follower c.advance.new.self c.args.piece.now w.dealt w.lent w.acks (Err c.in_err-found.field-0.0) settings (c.in_err-found.ensures.takes sum (subst (λ x. IsChecksumFunction g.F.Fn x sum) (sym settings.checksum) k) c.args.piece.now w.dealt w.lent w.acks) w.at))

pub returns-in_err-found-clause-settings : goal.returns-in_err-found-clause-settings
returns-in_err-found-clause-settings g c = settings_then _ _ _ c.loop-found.invariant.settings c.in_err-found.ensures.settings

pub returns-then-not-found-clause-applies : goal.returns-then-not-found-clause-applies
returns-then-not-found-clause-applies g c = λ sum k at.
    let settings = c.loop-found.invariant.settings in
    let w = c.loop-found.invariant.handed sum k at in
    let takes = rw c.if-not-found.true at (c.in_ok-found.ensures.takes sum (subst (λ x. IsChecksumFunction g.F.Fn x sum) (sym settings.checksum) k) c.args.piece.now w.dealt w.lent w.acks) in
    handed_all g.A.Applier.has_applied (reading_of sum c.args.follower.now) c.loop-found.follower c.advance.new.self c.args.piece.now c.args.applier.now c.loop-found.applier w
    (takes_of sum c.args.follower.now c.loop-found.follower c.advance.new.self c.args.piece.now w.dealt w.lent w.acks (Ok false) settings takes w.at)

pub returns-then-not-found-clause-settings : goal.returns-then-not-found-clause-settings
returns-then-not-found-clause-settings g c = settings_then _ _ _ c.loop-found.invariant.settings c.in_ok-found.ensures.settings

pub loop-found-preserved : goal.loop-found-preserved
loop-found-preserved g c = record {
  handed = λ sum k at.
      let settings = c.loop-found.invariant.settings in
      let w = c.loop-found.invariant.handed sum k at in
      let takes = rw c.if-not-found.false at (c.in_ok-found.ensures.takes sum (subst (λ x. IsChecksumFunction g.F.Fn x sum) (sym settings.checksum) k) c.args.piece.now w.dealt w.lent w.acks) in
      handed_one g.A.Applier.has_applied (reading_of sum c.args.follower.now) c.loop-found.follower c.advance.new.self c.args.piece.now c.args.applier.now c.loop-found.applier w c.apply.new.self
      (takes_of sum c.args.follower.now c.loop-found.follower c.advance.new.self c.args.piece.now w.dealt w.lent w.acks (Ok true) settings takes w.at)
      (λ t has. c.apply.ensures t (c.transaction.ensures t has));
  asked_position = c.in_ok-found.ensures.asked_position ∙ c.loop-found.invariant.asked_position;
  settings = settings_then _ _ _ c.loop-found.invariant.settings c.in_ok-found.ensures.settings;
}

pub loop-found-smaller : goal.loop-found-smaller
loop-found-smaller g c = rw c.if-not-found.false at c.in_ok-found.ensures.shorter
