use Rattle.std.proofs.Common.{ℕ, List, [], Vec, None, take, refl, ap, sym, subst, ◌∙◌, arith}
use Rattle.std.specs.declared.alloc.Global.{Global}
use Rattle.wire_packets.specs.CodecState.{codec_limit}
use Rattle.wire_packets.specs.StreamPieces.{Drains, IsReading, vec_items, joined_pieces}
use Rattle.wire_packets.proofs.PieceLemmas.{drains_none, drains_from, stream_more, stream_all, drains_reading, stops_at_piece}
use Rattle.wire_packets.proofs.pieces.decode_pieces.Goals as goal

pub loop-piece-init : goal.loop-piece-init
loop-piece-init c = record {
  drains = λ k st. drains_from c.args.codec.now k [] [] [] _ [] _ [] _ (drains_none c.args.codec.now k st) refl (sym (ap (λ (v : List (Vec ℕ Global)). vec_items v) c.new-packets.ensures.items)) (sym c.new-packet.ensures.items) (sym c.new-src.ensures.items);
  limit = refl;
}

pub loop-piece-preserved : goal.loop-piece-preserved
loop-piece-preserved c = record {
  drains = λ k st.
      let d = c.loop-piece.invariant.drains k st in
      subst (λ (s : List ℕ). Drains c.take_piece.new.codec k s (vec_items c.take_piece.new.packets.items) c.take_piece.new.packet.items c.take_piece.new.src.items) (sym (stream_more c.args.pieces.now c.loop-piece.piece-index _ c.loop-piece-test.true)) (c.in_default-take_piece.ensures.takes k (joined_pieces (take c.loop-piece.piece-index c.args.pieces.now)) d.state);
  limit = c.take_piece.ensures.limit ∙ c.loop-piece.invariant.limit;
}

pub returns-clause-reading : goal.returns-clause-reading
returns-clause-reading c = λ k st.
    let d = c.loop-piece.invariant.drains k st in
    subst (λ (s : List ℕ). IsReading (codec_limit c.args.codec.now) k s (vec_items c.loop-piece.packets.items) None) (stream_all c.args.pieces.now c.loop-piece.piece-index (omega arith))
    (subst (λ (n : ℕ). IsReading n k (joined_pieces (take c.loop-piece.piece-index c.args.pieces.now)) (vec_items c.loop-piece.packets.items) None) c.loop-piece.invariant.limit
    (drains_reading c.loop-piece.codec k _ _ _ _ d))

pub returns-clause-rests : goal.returns-clause-rests
returns-clause-rests c = λ k st.
    let d = c.loop-piece.invariant.drains k st in
    record {
      bytes = _;
      left = _;
      drains = subst (λ (s : List ℕ). Drains c.loop-piece.codec k s (vec_items c.loop-piece.packets.items) c.loop-piece.packet.items c.loop-piece.src.items) (stream_all c.args.pieces.now c.loop-piece.piece-index (omega arith)) d;
    }

pub returns-in-Err-clause-reading : goal.returns-in-Err-clause-reading
returns-in-Err-clause-reading c = λ k st.
    let d = c.loop-piece.invariant.drains k st in
    let stop = c.in-Err.ensures.takes k (joined_pieces (take c.loop-piece.piece-index c.args.pieces.now)) d.state in
    stops_at_piece (codec_limit c.take_piece.new.codec) (codec_limit c.args.codec.now) k c.args.pieces.now c.loop-piece.piece-index _ (vec_items c.take_piece.new.packets.items) stop.0 stop.1 c.in-Err.fault c.loop-piece-test.true
    stop.2 (c.take_piece.ensures.limit ∙ c.loop-piece.invariant.limit)
