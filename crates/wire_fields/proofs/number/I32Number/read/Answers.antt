use Rattle.std.proofs.Common.{rules, arith}
use Rattle.std.proofs.lemmas.Int.{ints}
use Rattle.wire_fields.specs.Bits.{signed_wider}
use Rattle.wire_fields.proofs.number.I32Number.read.Goals as goal

pub returns : goal.returns
returns g c =
    let e = c.read_int.ensures in
    let s = signed_wider c.args.size 4 _ c.requires.low c.requires.high (g.met.O.ByteOrder.number_fits c.args.size c.args.buf.now (λ k. search rules)) in
    let low = s.0 in
    let high = s.1 in
    omega (arith, ints)

pub overflow_cast-result : goal.overflow_cast-result
overflow_cast-result g c =
    let e = c.read_int.ensures in
    let s = signed_wider c.args.size 4 _ c.requires.low c.requires.high (g.met.O.ByteOrder.number_fits c.args.size c.args.buf.now (λ k. search rules)) in
    let low = s.0 in
    let high = s.1 in
    omega (arith, ints)
