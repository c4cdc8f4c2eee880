use Rattle.std.proofs.Common.{◌≡◌, ℕ, ◌++◌, take, Some, None, refl, sym, ap, subst, ◌∙◌, arith, true≢false}
use Rattle.std.proofs.lemmas.Grind.{common_steps}
use Rattle.wire_buf.specs.Watched.{inner_of, has_failed}
use Rattle.feed_checks.specs.Sums.{IsChecksumFunction}
use Rattle.feed_transactions.specs.Rules.{rules}
use Rattle.program_feed.proofs.FollowedLemmas.{followed_none, followed_more, followed_end, followed_unflushed, followed_read, followed_closed, blamed_piece, or_right, fed_by, represented}
use Rattle.program_feed.proofs.following.follow_pieces.Goals as goal

pub loop-follower-init : goal.loop-follower-init
loop-follower-init g c = record {
  followed = λ sum k. followed_none (rules sum) _ _ _ _ (c.requires.starts.after (rules sum)) (ap g.W.Write.contents (sym c.unused-flushed.ensures.writer));
  checksum = refl;
  format = c.requires.starts.format_is;
  limit = c.requires.starts.limit_is;
  goes_on = c.requires.starts.no_verdict;
  flushed = c.unused-flushed.ensures.flush;
}

pub returns-in-Ok-eq0-clause-follows : goal.returns-in-Ok-eq0-clause-follows
returns-in-Ok-eq0-clause-follows g c = λ sum k.
    let h = c.loop-follower.invariant in
    let zero : c.in-Ok-eq0.field-0 ≡ 0 = grind (arith, common_steps) in
    followed_closed (rules sum) _ _ _ _ _ _ _ _ _ _ c.finish.result (h.followed sum k) c.in-Ok-eq0.ensures.bytes.0 (ap (λ (n : ℕ). take n c.pull_uninterrupted.new.buf) zero) (c.in-Ok-eq0.ensures.bytes.1 zero (grind (arith, common_steps))) h.goes_on h.limit (c.finish.ensures.closed h.goes_on)

pub returns-in-Ok-eq0-clause-blamed : goal.returns-in-Ok-eq0-clause-blamed
returns-in-Ok-eq0-clause-blamed g c = rw (c.finish.ensures.closed c.loop-follower.invariant.goes_on) tt

pub returns-in-Ok-eq0-clause-flush : goal.returns-in-Ok-eq0-clause-flush
returns-in-Ok-eq0-clause-flush g c = λ yes. absurd (true≢false (sym yes ∙ c.loop-follower.invariant.flushed))

pub returns-in-Err-clause-follows : goal.returns-in-Err-clause-follows
returns-in-Err-clause-follows g c = λ sum k.
    let h = c.loop-follower.invariant in
    followed_read (rules sum) _ _ _ _ _ _ _ _ _ (h.followed sum k) c.in-Err.ensures.bytes h.goes_on h.limit

pub returns-in-Err-clause-blamed : goal.returns-in-Err-clause-blamed
returns-in-Err-clause-blamed g c = c.in-Err.ensures.err

pub returns-in-Err-clause-flush : goal.returns-in-Err-clause-flush
returns-in-Err-clause-flush g c = λ yes. absurd (true≢false (sym yes ∙ c.loop-follower.invariant.flushed))

pub feed-outcome-requires : goal.feed-outcome-requires
feed-outcome-requires g c = record { callable = rw c.loop-follower.invariant.checksum c.requires.callable }

pub returns-then-is_unflushed-clause-follows : goal.returns-then-is_unflushed-clause-follows
returns-then-is_unflushed-clause-follows g c = λ sum k.
    let h = c.loop-follower.invariant in
    let t = h.followed sum k in
    let sums = subst (λ f. IsChecksumFunction g.F.Fn f sum) (sym h.checksum) k in
    let fed = fed_by (rules sum) _ _ t.seen (t.seen ++ take c.in-Ok.taken c.pull_uninterrupted.new.buf) c.feed-outcome.new.self (g.W.Write.contents (inner_of c.new-watched.result)) (g.W.Write.contents (inner_of c.feed-outcome.new.writer)) c.feed-outcome.result h.format h.limit (c.feed-outcome.ensures.fed sum sums t.seen (represented (rules sum) _ _ _ h.format t.represents)) in
    followed_unflushed (rules sum) _ c.feed-outcome.new.self _ _ _ _ _ _ _ _ _ _ _ _ (has_failed c.feed-outcome.new.writer) c.feed-outcome.result t c.in-Ok.ensures.bytes.0 (ap g.W.Write.contents (c.new-watched.ensures.inner ∙ c.into_writer.ensures)) fed c.new-flushed.ensures.kept (c.feed-outcome.ensures.blamed h.goes_on) h.goes_on h.limit (grind (arith, common_steps))

pub returns-then-is_unflushed-clause-blamed : goal.returns-then-is_unflushed-clause-blamed
returns-then-is_unflushed-clause-blamed g c = or_right _ _ (sym c.is_unflushed.ensures ∙ c.if-is_unflushed.true)

pub returns-then-is_unflushed-clause-flush : goal.returns-then-is_unflushed-clause-flush
returns-then-is_unflushed-clause-flush g c = λ yes. refl

pub returns-in-Some-clause-follows : goal.returns-in-Some-clause-follows
returns-in-Some-clause-follows g c = λ sum k.
    let h = c.loop-follower.invariant in
    let t = h.followed sum k in
    let sums = subst (λ f. IsChecksumFunction g.F.Fn f sum) (sym h.checksum) k in
    let fed = fed_by (rules sum) _ _ t.seen (t.seen ++ take c.in-Ok.taken c.pull_uninterrupted.new.buf) c.feed-outcome.new.self (g.W.Write.contents (inner_of c.new-watched.result)) (g.W.Write.contents (inner_of c.feed-outcome.new.writer)) (Some c.in-Some.verdict) h.format h.limit (c.in-Some.ensures.fed sum sums t.seen (represented (rules sum) _ _ _ h.format t.represents)) in
    followed_end (rules sum) _ c.feed-outcome.new.self _ _ _ _ _ _ _ _ _ _ _ _ (has_failed c.feed-outcome.new.writer) c.in-Some.verdict t c.in-Ok.ensures.bytes.0 (ap g.W.Write.contents (c.new-watched.ensures.inner ∙ c.into_writer.ensures)) fed c.new-flushed.ensures.kept (c.in-Some.ensures.blamed h.goes_on) c.in-Some.ensures.verdict (c.in-Some.ensures.settings.limit ∙ h.limit) h.goes_on h.limit (grind (arith, common_steps))

pub returns-in-Some-clause-blamed : goal.returns-in-Some-clause-blamed
returns-in-Some-clause-blamed g c = blamed_piece c.in-Some.verdict _ _ (c.in-Some.ensures.blamed c.loop-follower.invariant.goes_on) c.new-flushed.ensures.write_failed

pub returns-in-Some-clause-flush : goal.returns-in-Some-clause-flush
returns-in-Some-clause-flush g c = λ yes. absurd (true≢false (sym yes ∙ sym c.is_unflushed.ensures ∙ c.if-is_unflushed.false))

pub loop-follower-preserved : goal.loop-follower-preserved
loop-follower-preserved g c =
    let h = c.loop-follower.invariant in
    record {
      followed = λ sum k. (
          let t = h.followed sum k in
          let sums = subst (λ f. IsChecksumFunction g.F.Fn f sum) (sym h.checksum) k in
          let fed = fed_by (rules sum) _ _ t.seen (t.seen ++ take c.in-Ok.taken c.pull_uninterrupted.new.buf) c.feed-outcome.new.self (g.W.Write.contents (inner_of c.new-watched.result)) (g.W.Write.contents (inner_of c.feed-outcome.new.writer)) None h.format h.limit (c.in-None.ensures.fed sum sums t.seen (represented (rules sum) _ _ _ h.format t.represents)) in
          followed_more (rules sum) _ c.feed-outcome.new.self _ _ _ _ _ _ _ _ _ t c.in-Ok.ensures.bytes.0 (ap g.W.Write.contents (c.new-watched.ensures.inner ∙ c.into_writer.ensures)) fed c.new-flushed.ensures.kept);
      checksum = c.in-None.ensures.settings.checksum ∙ h.checksum;
      format = c.in-None.ensures.settings.format ∙ h.format;
      limit = c.in-None.ensures.settings.limit ∙ h.limit;
      goes_on = c.in-None.ensures.verdict;
      flushed = sym c.is_unflushed.ensures ∙ c.if-is_unflushed.false;
    }
