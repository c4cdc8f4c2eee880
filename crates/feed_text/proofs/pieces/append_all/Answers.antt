use Rattle.std.proofs.Common.{◌++◌, ap, ◌∙◌, arith}
use Rattle.std.proofs.lemmas.List.{take_all}
use Rattle.feed_text.specs.TextPieces.{pieces_text}
use Rattle.feed_text.proofs.PieceLemmas.{piece_put}
use Rattle.feed_text.proofs.pieces.append_all.Goals as goal

pub loop-piece-preserved : goal.loop-piece-preserved
loop-piece-preserved g c = piece_put _ _ _ c.args.pieces.now c.loop-piece.piece-index _ (omega arith) c.loop-piece.invariant c.in-Ok.ensures.items

pub returns-clause-ok : goal.returns-clause-ok
returns-clause-ok g c = c.loop-piece.invariant ∙ ap (λ q. c.args.out.now.items ++ pieces_text q) (take_all c.loop-piece.piece-index c.args.pieces.now (omega arith))
