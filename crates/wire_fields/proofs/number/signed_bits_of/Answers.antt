use Rattle.std.proofs.Common.{sym, arith, inl, inr}
use Rattle.std.proofs.lemmas.Int.{ints}
use Rattle.wire_fields.specs.Bits.{half_bit, signed_bits-some, signed_bits-none, residue-below}
use Rattle.wire_fields.proofs.number.signed_bits_of.Goals as goal
use Rattle.wire_fields.proofs.number.signed_bits_of.Goals.{then-value-half-via-then-value-half, then-value-half-via-else-value-half+then-value-half-2}

pub overflow_sub-half-2 : goal.overflow_sub-half-2
overflow_sub-half-2 c =
    let h = half_bit c.args.size c.requires.low (omega arith) in
    let bit = h.0 in
    let top = h.1 in
    omega (arith, ints)

pub returns-then-value-half : goal.returns-then-value-half
returns-then-value-half c =
    let h = half_bit c.args.size c.requires.low (omega arith) in
    let bit = h.0 in
    let top = h.1 in
    sym (signed_bits-none c.args.size c.args.value (elim c.then-value-half.branch [
      | then-value-half-via-then-value-half w ↦ inl (omega (arith, ints, w.if-value-half.true))
      | then-value-half-via-else-value-half+then-value-half-2 w ↦ inr (omega (arith, ints, w.if-value-half-2.true))
    ]))

pub overflow_add-result-then-value-lt0 : goal.overflow_add-result-then-value-lt0
overflow_add-result-then-value-lt0 c =
    let h = half_bit c.args.size c.requires.low (omega arith) in
    let bit = h.0 in
    let top = h.1 in
    omega (arith, ints)

pub overflow_cast-result : goal.overflow_cast-result
overflow_cast-result c =
    let h = half_bit c.args.size c.requires.low (omega arith) in
    let bit = h.0 in
    let top = h.1 in
    omega (arith, ints)

pub returns-then-value-lt0 : goal.returns-then-value-lt0
returns-then-value-lt0 c =
    let h = half_bit c.args.size c.requires.low (omega arith) in
    let bit = h.0 in
    let top = h.1 in
    let whole = h.2 in
    sym (signed_bits-some c.args.size _ c.args.value (omega (arith, ints)) (omega (arith, ints)) (residue-below c.args.size _ c.args.value (omega (arith, ints)) (omega (arith, ints))))
