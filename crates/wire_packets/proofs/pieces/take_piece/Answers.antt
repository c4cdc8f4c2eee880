use Rattle.std.proofs.Common.{◌++◌}
use Rattle.wire_packets.proofs.PieceLemmas.{represents_more, stops_before}
use Rattle.wire_packets.proofs.pieces.take_piece.Goals as goal

pub returns-in-Err-clause-takes : goal.returns-in-Err-clause-takes
returns-in-Err-clause-takes c = λ k s st. (_, _, stops_before _ c.args.codec.now k s _ _ _ c.args.piece.now c.fail_with_memory.result st c.fail_with_memory.ensures.limit c.fail_with_memory.ensures.result)

pub returns-clause-takes : goal.returns-clause-takes
returns-clause-takes c = λ k s st.
    c.drain.ensures.takes k (s ++ c.args.piece.now) (represents_more c.args.codec.now k s _ _ _ c.args.piece.now c.extend_from_slice.new.self.items st c.in_default.ensures.ok)
