use Rattle.std.proofs.Common.{◌≡◌, ◌++◌, take}
use Rattle.feed_text.specs.TextPieces.{pieces_text}
use Rattle.feed_text.proofs.pieces.append_all.Given as goal

-- the first pieces are written
abbrev pub invariant-loop-piece : goal.invariant-loop-piece
invariant-loop-piece g l = l.out.items ≡ l.fn.out.items ++ pieces_text (take l.piece-index l.pieces)
