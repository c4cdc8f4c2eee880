use Rattle.std.proofs.Common.{ap}
use Rattle.wire_buf.proofs.EncodingLemmas.{Reads-fixed}
use Rattle.wire_fields.proofs.fixed.FixedIntRepr.deserialize.Goals as goal

pub returns-clause-ok : goal.returns-clause-ok
returns-clause-ok g c =
    Reads-fixed (λ bytes. g.P.Number.value_of g.row.N (g.O.ByteOrder.number_of g.row.N bytes)) g.row.N _ _ _
    (λ a b h. ap (g.P.Number.value_of g.row.N) (g.met.O.ByteOrder.reads_first g.row.N a b h)) c.requires c.read-value.ensures c.skip.ensures
