use Rattle.std.proofs.Common.{◌<◌, rules}
use Rattle.wire_fields.specs.Bits.{fits_wider}
use Rattle.wire_fields.proofs.number.U32Number.read.Goals as goal

pub overflow_cast-result : goal.overflow_cast-result
overflow_cast-result g c =
    let e = c.read_uint.ensures in
    let b : c.read_uint.result < 4294967296 = rw e (fits_wider c.args.size 4 _ c.requires.high (g.met.O.ByteOrder.number_fits c.args.size c.args.buf.now (λ k. search rules))) in
    search (rules, b)
