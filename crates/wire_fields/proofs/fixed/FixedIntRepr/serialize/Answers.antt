use Rattle.std.proofs.Common.{◌++◌, [], sym, ap, ◌∙◌, arith}
use Rattle.std.proofs.lemmas.List.{append-nil, drop_all}
use Rattle.wire_fields.proofs.FixedLemmas.{fixed_writes}
use Rattle.wire_fields.proofs.fixed.FixedIntRepr.serialize.Goals as goal

pub write_uint128-requires-clause-fits : goal.write_uint128-requires-clause-fits
write_uint128-requires-clause-fits g c =
    (g.met.P.Number.bits_back g.row.N _ c.args.val g.met.P.InBytes.in_range.0 (sym c.in-Some.ensures)).0

pub returns-clause-ok : goal.returns-clause-ok
returns-clause-ok g c =
    let n = g.row.N in
    let b = c.in-Some.bits in
    let back = g.met.P.Number.bits_back n _ c.args.val g.met.P.InBytes.in_range.0 (sym c.in-Some.ensures) in
    fixed_writes (g.P.Number.value_of n) (g.O.ByteOrder.number_of n) (g.O.ByteOrder.bytes_of n) (g.P.Number.bits_of n) n b _ _ _
    (sym c.in-Some.ensures) back.1 (g.met.O.ByteOrder.reads_back n b [] back.0) (g.met.O.ByteOrder.length_bytes n b)
    (c.in_ok-extend_from_slice.ensures.items ∙ ap (λ l. c.args.buf.now.items ++ l) (c.write_uint128.ensures ∙ ap (λ l. g.O.ByteOrder.bytes_of n b ++ l) (drop_all n _ (omega arith)) ∙ append-nil _))
