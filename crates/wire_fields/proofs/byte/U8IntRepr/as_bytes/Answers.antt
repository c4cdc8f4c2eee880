use Rattle.std.proofs.Common.{arith}
use Rattle.wire_fields.proofs.BytewiseLemmas.{bytes_are_written}
use Rattle.wire_fields.proofs.byte.U8IntRepr.as_bytes.Goals as goal

pub returns : goal.returns
returns c = bytes_are_written c.args.numbers.now (λ k l. let fits = c.type_inv.numbers k in omega (arith, fits))
