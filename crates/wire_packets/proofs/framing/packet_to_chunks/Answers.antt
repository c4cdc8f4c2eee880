use Rattle.std.proofs.Common.{◌≡◌, ◌+◌, ◌*◌, ◌/◌, ◌%◌, ◌++◌, ℕ, length, take, drop, List, refl, ap, ◌∙◌, sym, arith, append_assoc}
use Rattle.std.proofs.lemmas.List.{append-nil}
use Rattle.wire_packets.specs.Framing.{max_chunk_len, chunk, chunks, slice_of}
use Rattle.wire_packets.proofs.FramingLemmas.{chunks_none, chunks_more, next_slice, after_slice, same_chunk}
use Rattle.wire_packets.proofs.framing.packet_to_chunks.Goals as goal

pub loop-i-init : goal.loop-i-init
loop-i-init c = record {
  rest = refl;
  number = omega arith;
  written = rw chunks_none (c.in_ok-reserve.ensures.items ∙ sym (append-nil c.args.dst.now.items));
  room = omega (arith, c.in_ok-reserve.ensures.spare);
}

pub loop-i-preserved : goal.loop-i-preserved
loop-i-preserved c =
    let prefix : c.split_at.result.0.now ≡ slice_of max_chunk_len c.args.src.now c.loop-i.i =
    c.split_at.ensures.front ∙ ap (λ (n : ℕ). take n c.loop-i.rest.now) c.min.ensures ∙ next_slice max_chunk_len c.loop-i.i c.args.src.now c.loop-i.rest.now c.loop-i.invariant.rest in
    let back : c.split_at.result.1.now ≡ drop ((c.loop-i.i + 1) * max_chunk_len) c.args.src.now =
    c.split_at.ensures.back ∙ ap (λ (n : ℕ). drop n c.loop-i.rest.now) c.min.ensures ∙ after_slice max_chunk_len c.loop-i.i c.args.src.now c.loop-i.rest.now c.loop-i.invariant.rest in
    let head : chunk c.loop-i.number (slice_of max_chunk_len c.args.src.now c.loop-i.i) ≡ chunk (c.args.id + c.loop-i.i) (slice_of max_chunk_len c.args.src.now c.loop-i.i) =
    same_chunk c.loop-i.number (c.args.id + c.loop-i.i) (slice_of max_chunk_len c.args.src.now c.loop-i.i) c.loop-i.invariant.number in
    record {
      rest = back;
      number = omega arith;
      written = c.put_chunk.ensures.chunk ∙ ap (λ (t : List ℕ). t ++ chunk c.loop-i.number c.split_at.result.0.now) c.loop-i.invariant.written
          ∙ append_assoc c.args.dst.now.items (chunks max_chunk_len c.args.id c.loop-i.i c.args.src.now) (chunk c.loop-i.number c.split_at.result.0.now)
          ∙ ap (λ (t : List ℕ). c.args.dst.now.items ++ (chunks max_chunk_len c.args.id c.loop-i.i c.args.src.now ++ t)) (ap (λ (t : List ℕ). chunk c.loop-i.number t) prefix ∙ head)
          ∙ ap (λ (t : List ℕ). c.args.dst.now.items ++ t) (sym (chunks_more max_chunk_len c.args.id c.loop-i.i c.args.src.now));
      room = omega (arith, c.put_chunk.ensures.spare, c.split_at.ensures.front_len, c.split_at.ensures.back_len, c.loop-i.invariant.room, c.min.ensures);
    }

pub returns-clause-framing : goal.returns-clause-framing
returns-clause-framing c =
    let all : c.loop-i.i ≡ length c.args.src.now / max_chunk_len + 1 = omega arith in
    c.loop-i.invariant.written ∙ ap (λ (n : ℕ). c.args.dst.now.items ++ chunks max_chunk_len c.args.id n c.args.src.now) all

pub returns-clause-next : goal.returns-clause-next
returns-clause-next c =
    let all : c.args.id + c.loop-i.i ≡ c.args.id + length c.args.src.now / max_chunk_len + 1 = omega arith in
    c.loop-i.invariant.number ∙ ap (λ (n : ℕ). n % 256) all
