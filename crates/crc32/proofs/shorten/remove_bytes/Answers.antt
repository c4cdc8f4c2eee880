use Rattle.std.proofs.Common.{◌+◌, ◌≡◌, ℕ, List, refl, sym, ap, ◌∙◌, drop, get_or, arith}
use Rattle.crc32.specs.Checksums.{after_bytes}
use Rattle.crc32.specs.Shortening.{pending}
use Rattle.crc32.proofs.ShorteningLemmas.{pending_moved}
use Rattle.crc32.proofs.shorten.remove_bytes.Goals as goal

pub loop-at-init : goal.loop-at-init
loop-at-init c = record {
  in_range = omega arith;
  whole = refl;
  same = ap (λ (z : ℕ). after_bytes (pending 0 c.args.taken.now) (drop z c.args.bytes.now)) (omega arith);
}

-- the same register at the same offsets
at_offsets : (a b i j : ℕ) (taken bytes : List ℕ) → a ≡ b → i ≡ j → after_bytes (pending a taken) (drop i bytes) ≡ after_bytes (pending b taken) (drop j bytes)
at_offsets a b i j taken bytes e f = ap (λ (z : ℕ). after_bytes (pending z taken) (drop i bytes)) e ∙ ap (λ (z : ℕ). after_bytes (pending b taken) (drop z bytes)) f

pub loop-at-preserved : goal.loop-at-preserved
loop-at-preserved c =
    let at : ℕ = c.loop-at.at in
    let from : ℕ = c.args.from in
    record {
      in_range = omega arith;
      whole = omega arith;
      same =
          at_offsets _ (at + 16 + 16) _ (from + at + 16 + 16) _ c.args.bytes.now (omega arith) (omega arith)
          ∙ c.remove_sixteen-in-loop-at.ensures ∙ c.remove_sixteen.ensures ∙ c.loop-at.invariant.same;
    }

pub returns : goal.returns
returns c =
    let end : c.loop-at.at ≡ c.args.len = omega arith in
    ap (λ (z : ℕ). after_bytes z (drop (c.args.from + c.args.len) c.args.bytes.now))
    (pending_moved c.args.len c.loop-at.taken c.copy_within.new.self (λ k a l e. c.copy_within.ensures.by_index.0 k 0 (omega arith) (omega arith) ∙ ap (λ (z : ℕ). get_or c.loop-at.taken z 0) (omega (arith, e)))
    ∙ ap (λ (z : ℕ). pending z c.loop-at.taken) (sym end))
    ∙ ap (λ (z : ℕ). after_bytes (pending c.loop-at.at c.loop-at.taken) (drop (c.args.from + z) c.args.bytes.now)) (sym end)
    ∙ c.loop-at.invariant.same
