use Rattle.std.proofs.Common.{drop, take, arith}
use Rattle.feed_writers.proofs.BlockLemmas.{parts, part_long, parts_written}
use Rattle.feed_writers.proofs.blocks.put_sixteen_fields.Goals as goal

pub returns-clause-text : goal.returns-clause-text
returns-clause-text c = λ bytes h.
    let p = parts bytes c.args.first c.args.high c.args.low c.args.stops h in
    parts_written _ _ _ _ _ bytes h.sixteen
    (c.put_four_fields-end.ensures.text (take 4 bytes) (part_long 0 bytes h.sixteen (omega arith)) p.one p.stops_one)
    (c.put_four_fields-end-2.ensures.text (take 4 (drop 4 bytes)) (part_long 4 bytes h.sixteen (omega arith)) p.two p.stops_two)
    (c.put_four_fields-end-3.ensures.text (take 4 (drop 8 bytes)) (part_long 8 bytes h.sixteen (omega arith)) p.three p.stops_three)
    (c.put_four_fields.ensures.text (take 4 (drop 12 bytes)) (part_long 12 bytes h.sixteen (omega arith)) p.four p.stops_four)
