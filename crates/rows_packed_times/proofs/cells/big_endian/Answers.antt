use Rattle.std.proofs.Common.{arith, rules, ◌<◌}
use Rattle.std.proofs.lemmas.Int.{ints}
use Rattle.rows_packed_times.proofs.PackedLemmas.{big_number_fits, big_number_below}
use Rattle.rows_packed_times.proofs.cells.big_endian.Goals as goal

pub overflow_cast-result : goal.overflow_cast-result
overflow_cast-result c =
    let h = big_number_below c.args.n c.args.bytes.now c.requires.high (λ k. search rules) in
    let e = c.read_uint.ensures in
    let b : c.read_uint.result < 281474976710656 = rw e h in
    search (rules, b)

pub returns-clause-value : goal.returns-clause-value
returns-clause-value c =
    let h = big_number_below c.args.n c.args.bytes.now c.requires.high (λ k. search rules) in
    let e = c.read_uint.ensures in
    omega (arith, ints, h, e)

pub returns-clause-bound : goal.returns-clause-bound
returns-clause-bound c = big_number_fits c.args.n c.args.bytes.now (λ k. search rules)
