use Rattle.std.proofs.Common.{◌++◌, ◌+◌, ap₂, sym, refl, ◌∙◌}
use Rattle.std.proofs.lemmas.List.{take-append-drop}
use Rattle.changes_resume.proofs.KeptLineLemmas.{nothing_taken, line_taken, rest_taken, ends_line, no_feed_left}
use Rattle.changes_resume.proofs.line_keeper.LineKeeper.take.Goals as goal

pub loop-feed-init : goal.loop-feed-init
loop-feed-init c = nothing_taken _ _

pub end_line-requires : goal.end_line-requires
end_line-requires c = rw c.split_at.ensures.front (ends_line c.loop-feed.rest.now c.in-Some.feed c.in-Some.ensures.0 c.in-Some.ensures.1)

pub loop-feed-preserved : goal.loop-feed-preserved
loop-feed-preserved c = line_taken _ _ _ _ c.loop-feed.rest.now c.split_at.result.0.now c.split_at.result.1.now c.loop-feed.invariant
    (sym (take-append-drop (c.in-Some.feed + 1) c.loop-feed.rest.now) ∙ ap₂ (λ a b. a ++ b) (sym c.split_at.ensures.front) (sym c.split_at.ensures.back)) c.in_ok-end_line.ensures

pub returns : goal.returns
returns c = rest_taken c.args.self.now c.loop-feed.self (record c.loop-feed.self { line = c.extend_from_slice.new.self }) c.args.piece.now c.loop-feed.rest.now c.loop-feed.invariant (no_feed_left c.loop-feed.rest.now c.in_default.ensures) refl refl refl c.in_ok-extend_from_slice.ensures.items
