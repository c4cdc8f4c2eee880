use Rattle.std.proofs.Common.{arith}
use Rattle.wire_fields_extra.proofs.CountLemmas.{count_reads}
use Rattle.wire_fields_extra.proofs.counts.FixedSeqRepr.read_count.Goals as goal

pub returns-clause-ok : goal.returns-clause-ok
returns-clause-ok g c =
    count_reads (g.O.ByteOrder.number_of g.row.N) g.row.N c.read_uint128-count.result _ _ (g.met.O.ByteOrder.reads_first g.row.N) (omega arith)
    c.read_uint128-count.ensures c.skip.ensures (omega arith)
