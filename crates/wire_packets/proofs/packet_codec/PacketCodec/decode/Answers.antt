use Rattle.std.proofs.Common.{ℕ, ◌+◌, List, length, Some, drop, length-drop, refl, ap, subst, ◌∙◌, arith}
use Rattle.wire_packets.specs.declared.error.PacketCodecError.TheVariants.{Memory}
use Rattle.wire_packets.specs.NextChunk.{IsNextChunk}
use Rattle.wire_packets.specs.declared.header.NextChunk.TheVariants as prefixes
use Rattle.wire_packets.proofs.CodecStateLemmas.{step_none, step_fault, step_memory, step_middle, step_last, appended}
use Rattle.wire_packets.proofs.packet_codec.PacketCodec.decode.Goals as goal

pub returns-in-Partial-clause-state : goal.returns-in-Partial-clause-state
returns-in-Partial-clause-state c = λ k s ps g d st e.
    let t = subst (λ (v : List ℕ). IsNextChunk c.loop-len.self.max_allowed_packet c.loop-len.self.seq_id c.loop-len.self.gathered v prefixes.Partial) c.as_slice-bytes.ensures c.in-Partial.ensures in
    step_none _ _ _ _ _ _ _ (c.loop-len.invariant.state k s ps g d st e) t.0 t.1

pub returns-in-Fault-clause-state : goal.returns-in-Fault-clause-state
returns-in-Fault-clause-state c = λ k s ps g d st e.
    let t = subst (λ (v : List ℕ). IsNextChunk c.loop-len.self.max_allowed_packet c.loop-len.self.seq_id c.loop-len.self.gathered v (prefixes.Fault c.in-Fault.fault)) c.as_slice-bytes.ensures c.in-Fault.ensures in
    (step_fault c.loop-len.self (record c.loop-len.self { fault = Some c.in-Fault.fault }) k s ps d c.loop-len.dst.items c.loop-len.src.items c.in-Fault.fault (c.loop-len.invariant.state k s ps g d st e) t.0 t.1 refl)

pub returns-then-len-lt-MAX_PAYLOAD_LEN-clause-state : goal.returns-then-len-lt-MAX_PAYLOAD_LEN-clause-state
returns-then-len-lt-MAX_PAYLOAD_LEN-clause-state c = λ k s ps g d st e.
    let t = subst (λ (v : List ℕ). IsNextChunk c.loop-len.self.max_allowed_packet c.loop-len.self.seq_id c.loop-len.self.gathered v (prefixes.Chunk c.in-Chunk.len)) c.as_slice-bytes.ensures c.in-Chunk.ensures in
    step_last _ _ _ _ _ _ _ _ _ _ (c.loop-len.invariant.state k s ps g d st e) t.0 t.1 (omega (arith, t.2)) refl (omega arith) refl c.loop-len.invariant.no_fault (appended c.loop-len.dst.items _ c.as_slice-bytes.result.now c.loop-len.src.items c.in-Chunk.len c.as_slice-bytes.ensures t.2 c.in_default-extend_from_slice.ensures.items) (c.advance.ensures.items ∙ ap (λ (n : ℕ). drop (4 + n) c.loop-len.src.items) t.2)

pub loop-len-preserved : goal.loop-len-preserved
loop-len-preserved c = record {
  state = λ k s ps g d st e.
      let t = subst (λ (v : List ℕ). IsNextChunk c.loop-len.self.max_allowed_packet c.loop-len.self.seq_id c.loop-len.self.gathered v (prefixes.Chunk c.in-Chunk.len)) c.as_slice-bytes.ensures c.in-Chunk.ensures in
      step_middle _ _ _ _ _ _ _ _ _ _ (c.loop-len.invariant.state k s ps g d st e) t.0 t.1 (omega (arith, t.2, t.1.first, t.1.second, t.1.third)) refl (omega arith) (omega (arith, t.2)) c.loop-len.invariant.no_fault (appended c.loop-len.dst.items _ c.as_slice-bytes.result.now c.loop-len.src.items c.in-Chunk.len c.as_slice-bytes.ensures t.2 c.in_default-extend_from_slice.ensures.items) (c.advance.ensures.items ∙ ap (λ (n : ℕ). drop (4 + n) c.loop-len.src.items) t.2);
  limit = c.loop-len.invariant.limit;
  not_longer = omega (arith, ap length c.advance.ensures.items, length-drop (4 + c.in-Chunk.len) c.loop-len.src.items, c.loop-len.invariant.not_longer);
  no_fault = c.loop-len.invariant.no_fault;
}

pub returns-in-Err-clause-state : goal.returns-in-Err-clause-state
returns-in-Err-clause-state c = λ k s ps g d st e.
    step_memory c.loop-len.self (record c.loop-len.self { fault = Some Memory }) k s ps d c.loop-len.dst.items c.extend_from_slice.new.self.items c.loop-len.src.items (c.loop-len.invariant.state k s ps g d st e) refl c.in-Err.ensures.items
