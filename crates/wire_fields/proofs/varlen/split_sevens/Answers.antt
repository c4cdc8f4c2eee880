use Rattle.std.proofs.Common.{◌-◌, ◌+◌, arith, refl}
use Rattle.wire_fields.proofs.SevenLemmas.{sevens_begun, sevens_gone_on, sevens_ended, sevens_cut_off, sevens_run_out, part_fits, scale_more, below_more}
use Rattle.wire_fields.proofs.varlen.split_sevens.Goals as goal

pub bytes-init : goal.bytes-init
bytes-init c = record { scale_is = refl; below = omega arith; leaves = sevens_begun c.args.buf.0.now }

pub returns-in_err-checked_eat_u8 : goal.returns-in_err-checked_eat_u8
returns-in_err-checked_eat_u8 c =
    rw c.from_residual.ensures (sevens_cut_off _ _ (5 - c.bytes.i) (4 - c.bytes.i) _ _ _ c.bytes.invariant.leaves c.in_err-checked_eat_u8.ensures.none (omega arith))

pub overflow_mul-result : goal.overflow_mul-result
overflow_mul-result c =
    let p = part_fits c.bytes.i c.bytes.scale c.from-byte.result c.bytes.invariant.scale_is c.bytes-test.true (omega arith) in
    omega (arith, p.1)

pub overflow_add-result : goal.overflow_add-result
overflow_add-result c =
    let p = part_fits c.bytes.i c.bytes.scale c.from-byte.result c.bytes.invariant.scale_is c.bytes-test.true (omega arith) in
    let below = c.bytes.invariant.below in
    omega (arith, p.0, p.1, below)

pub returns-then-byte-lt128 : goal.returns-then-byte-lt128
returns-then-byte-lt128 c =
    sevens_ended _ _ (5 - c.bytes.i) (4 - c.bytes.i) _ _ _ _ _ c.bytes.invariant.leaves c.in_ok-checked_eat_u8.ensures.some c.from-byte.ensures (omega arith) c.if-byte-lt128.true

pub overflow_mul-value : goal.overflow_mul-value
overflow_mul-value c =
    let p = part_fits c.bytes.i c.bytes.scale (c.from-byte.result - 128) c.bytes.invariant.scale_is c.bytes-test.true (omega arith) in
    omega (arith, p.1)

pub overflow_add-value : goal.overflow_add-value
overflow_add-value c =
    let p = part_fits c.bytes.i c.bytes.scale (c.from-byte.result - 128) c.bytes.invariant.scale_is c.bytes-test.true (omega arith) in
    let below = c.bytes.invariant.below in
    omega (arith, p.0, p.1, below)

pub overflow_mul-scale : goal.overflow_mul-scale
overflow_mul-scale c =
    let p = part_fits c.bytes.i c.bytes.scale (c.from-byte.result - 128) c.bytes.invariant.scale_is c.bytes-test.true (omega arith) in
    omega (arith, p.0)

pub bytes-preserved : goal.bytes-preserved
bytes-preserved c = record {
  scale_is = scale_more _ _ c.bytes.invariant.scale_is;
  below = below_more _ _ _ c.bytes.invariant.below (omega arith);
  leaves = sevens_gone_on _ _ (5 - c.bytes.i) (5 - (c.bytes.i + 1)) _ _ _ _ _ c.bytes.invariant.leaves c.in_ok-checked_eat_u8.ensures.some c.from-byte.ensures (omega arith) c.if-byte-lt128.false;
}

pub returns : goal.returns
returns c = sevens_run_out _ _ (5 - c.bytes.i) _ _ c.bytes.invariant.leaves (omega arith)
