use Rattle.std.proofs.Common.{◌≡◌, ℕ, List, [], ◌++◌, ◌∷◌, Bool, Ok, refl, ap, sym, subst, ◌∙◌, Vec}
use Rattle.std.specs.declared.alloc.Global.{Global}
use Rattle.std.proofs.lemmas.List.{map_push}
use Rattle.wire_packets.specs.CodecState.{Decodes, Stops, codec_limit}
use Rattle.wire_packets.specs.StreamPieces.{vec_items}
use Rattle.wire_packets.proofs.PieceLemmas.{stops_for_memory, drained, pushed}
use Rattle.wire_packets.proofs.pieces.drain.Goals as goal

pub returns-in-Err-clause-takes : goal.returns-in-Err-clause-takes
returns-in-Err-clause-takes c = λ k s st.
    (_, _, c.in-Err.ensures.state k s _ _ [] (c.loop-is_whole.invariant.state k s st) refl)

pub returns-then-not-is_whole-clause-takes : goal.returns-then-not-is_whole-clause-takes
returns-then-not-is_whole-clause-takes c = λ k s st.
    let now = c.loop-is_whole.invariant.state k s st in
    drained _ k s _ _ _ (subst (λ (b : Bool). Decodes c.decode.new.self k s (vec_items c.loop-is_whole.packets.items) [] c.decode.new.dst.items c.decode.new.src.items (Ok b)) c.if-not-is_whole.true (c.in-Ok.ensures.state k s _ _ [] now refl))

pub returns-in-Err-push-clause-takes : goal.returns-in-Err-push-clause-takes
returns-in-Err-push-clause-takes c = λ k s st.
    let now = c.loop-is_whole.invariant.state k s st in
    let same : vec_items c.loop-is_whole.packets.items ≡ vec_items c.push.new.self.items = ap (λ (v : List (Vec ℕ Global)). vec_items v) (sym c.in-Err-push.ensures.items) in (
      _,
      _,
      subst (λ (q : List (List ℕ)). Stops (codec_limit c.fail_with_memory.new.self) k s q [] c.loop-is_whole.packet.items c.loop-is_whole.src.items c.fail_with_memory.result) same
          (stops_for_memory (codec_limit c.fail_with_memory.new.self) c.loop-is_whole.codec k s _ _ _ c.fail_with_memory.result now (c.fail_with_memory.ensures.limit ∙ c.in-Ok.ensures.limit) c.fail_with_memory.ensures.result),
    )

pub loop-is_whole-preserved : goal.loop-is_whole-preserved
loop-is_whole-preserved c = record {
  state = λ k s st.
      let now = c.loop-is_whole.invariant.state k s st in
      pushed c.decode.new.self k s (vec_items c.loop-is_whole.packets.items) _ _ _ _ (subst (λ (b : Bool). Decodes c.decode.new.self k s (vec_items c.loop-is_whole.packets.items) [] c.decode.new.dst.items c.decode.new.src.items (Ok b)) c.if-not-is_whole.false (c.in-Ok.ensures.state k s _ _ [] now refl)) (ap (λ (v : Vec ℕ Global). v.items) c.replace-whole.ensures.after ∙ c.new.ensures.items)
      (ap (λ (v : List (Vec ℕ Global)). vec_items v) c.in_default.ensures.items ∙ map_push (λ (v : Vec ℕ Global). v.items) c.loop-is_whole.packets.items c.replace-whole.result ∙ ap (λ (v : Vec ℕ Global). vec_items c.loop-is_whole.packets.items ++ v.items ∷ []) c.replace-whole.ensures.value);
  limit = c.in-Ok.ensures.limit ∙ c.loop-is_whole.invariant.limit;
}
