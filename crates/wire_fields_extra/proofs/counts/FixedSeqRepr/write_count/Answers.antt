use Rattle.std.proofs.Common.{◌++◌, [], ap, ◌∙◌, arith}
use Rattle.std.proofs.lemmas.List.{append-nil, drop_all}
use Rattle.wire_fields_extra.proofs.CountLemmas.{greatest_fits, count_writes}
use Rattle.wire_fields_extra.proofs.counts.FixedSeqRepr.write_count.Goals as goal

pub write_uint128-requires-clause-fits : goal.write_uint128-requires-clause-fits
write_uint128-requires-clause-fits g c = (greatest_fits g.row.N c.args.count c.requires).0

pub returns-clause-ok : goal.returns-clause-ok
returns-clause-ok g c =
    let n = g.row.N in
    let fits = greatest_fits n c.args.count c.requires in
    count_writes (g.O.ByteOrder.number_of n) n (g.O.ByteOrder.bytes_of n) c.args.count _ _
    (g.met.O.ByteOrder.length_bytes n c.args.count) (g.met.O.ByteOrder.reads_back n c.args.count [] fits.0) fits.1
    (c.in_ok-extend_from_slice.ensures.items ∙ ap (λ l. c.args.buf.now.items ++ l) (c.write_uint128.ensures ∙ ap (λ l. g.O.ByteOrder.bytes_of n c.args.count ++ l) (drop_all n _ (omega arith)) ∙ append-nil _))
