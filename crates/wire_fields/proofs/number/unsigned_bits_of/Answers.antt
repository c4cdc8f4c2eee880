use Rattle.std.proofs.Common.{◌<◌, ◌^◌, sym, arith}
use Rattle.byteorder.proofs.Bytes.{pow256, low_mask128}
use Rattle.wire_fields.specs.Bits.{unsigned_bits-some, unsigned_bits-none}
use Rattle.wire_fields.proofs.number.unsigned_bits_of.Goals as goal

pub returns-then-size-eq16 : goal.returns-then-size-eq16
returns-then-size-eq16 c =
    let all : c.args.value < 256 ^ 16 = omega (arith, c.ranges.value.fits) in
    sym (unsigned_bits-some _ _ (rw c.if-size-eq16.true all))

pub returns-then-value-size : goal.returns-then-value-size
returns-then-value-size c =
    let mask = low_mask128 c.args.size (omega arith) in
    let whole = pow256 c.args.size in
    sym (unsigned_bits-none _ _ (omega arith))

pub returns : goal.returns
returns c =
    let mask = low_mask128 c.args.size (omega arith) in
    let whole = pow256 c.args.size in
    sym (unsigned_bits-some _ _ (omega arith))
