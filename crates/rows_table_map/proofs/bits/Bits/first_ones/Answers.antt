use Rattle.std.proofs.Common.{true, false, arith}
use Rattle.rows_table_map.proofs.BitLemmas.{part_ones, first_most}
use Rattle.rows_table_map.proofs.bits.Bits.first_ones.Goals as goal
use Rattle.rows_table_map.proofs.bits.Bits.first_ones.Goals.{then-from_highest, else-from_highest}

pub returns-clause-value : goal.returns-clause-value
returns-clause-value c =
    let told = part_ones c.args.count c.args.byte (omega arith) (omega (arith, c.ranges.byte.fits)) in
    elim c.if-from_highest.branch [
      | then-from_highest w ↦ rw (w.first-is, w.if-from_highest.true) told.1
      | else-from_highest w ↦ rw (w.first-is, w.if-from_highest.false) told.0
    ]

pub returns-clause-bound : goal.returns-clause-bound
returns-clause-bound c =
    let told = part_ones c.args.count c.args.byte (omega arith) (omega (arith, c.ranges.byte.fits)) in
    elim c.if-from_highest.branch [
      | then-from_highest w ↦
          let high = first_most true c.args.byte c.args.count in
          let a = told.1 in
          rw w.first-is (omega (arith, a, high))
      | else-from_highest w ↦
          let low = first_most false c.args.byte c.args.count in
          let a = told.0 in
          rw w.first-is (omega (arith, a, low))
    ]
