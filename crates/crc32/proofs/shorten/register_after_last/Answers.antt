use Rattle.std.proofs.Common.{◌≡◌, ◌-◌, ℕ, bit_xor, refl, subst, ap, ◌∙◌, get_or, List, arith}
use borrow.Rule.Slice.PartMut.{put_mid}
use Rattle.crc32.specs.Shortening.{added, number_at}
use Rattle.crc32.proofs.ShorteningLemmas.{filled, kept_below, last_left, lanes_written, number_at-same, sixteen_left, small_lanes_written, small_zeros}
use Rattle.crc32.proofs.shorten.register_after_last.Goals as goal

pub loop-at-init : goal.loop-at-init
unfolding added number_at
loop-at-init c = record { in_range = omega arith; whole = refl; bytes = small_zeros 304; same = refl }

pub loop-at-preserved : goal.loop-at-preserved
loop-at-preserved c =
    let at : ℕ = c.loop-at.at in
    record {
      in_range = omega arith;
      whole = omega arith;
      bytes = small_lanes_written at (304 - at) _ c.loop-at.bytes c.removed_sums.result c.loop-at.invariant.bytes c.removed_sums.ensures.sums;
      same =
          sixteen_left
          at _ _ _ c.args.last.now
          c.removed_sums.ensures.small
          (λ i. omega (arith, c.type_inv.last i)) refl
          (lanes_written at (304 - at) _ c.loop-at.bytes c.removed_sums.result c.removed_sums.ensures.sums (omega arith) (omega arith))
          (number_at-same
          at 0 0 _ c.loop-at.bytes
          (λ k a b l p q. kept_below at (304 - at) a c.loop-at.bytes _ (omega arith) (omega arith) ∙ ap (λ (z : ℕ). get_or c.loop-at.bytes z 0) (omega arith))
          ∙ c.loop-at.invariant.same);
    }

pub returns : goal.returns
returns c =
    let zeros = c.fill.ensures.after (λ y e. e) in
    let ts : List ℕ = put_mid 304 304 c.args.taken.now c.fill.new.self in
    let Same : ℕ → Type 0 = λ n. number_at 0 n c.loop-at.bytes ≡ bit_xor (added 0 n ts) (number_at 0 n c.args.last.now) in
    c.register_after.ensures
    ∙ last_left
    c.loop-at.bytes c.args.taken.now ts c.args.last.now
    c.loop-at.invariant.bytes (λ i. omega (arith, c.type_inv.last i)) c.loop-at-test.array_long c.requires.last
    (λ k l. kept_below 304 304 k c.args.taken.now c.fill.new.self l (omega (arith, c.requires.room)))
    (λ k l m. filled 304 304 k c.args.taken.now c.fill.new.self zeros (omega (arith, c.requires.room)) l m)
    (subst Same (omega arith) c.loop-at.invariant.same)
