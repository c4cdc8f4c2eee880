use Rattle.std.proofs.Common.{arith, refl}
use Rattle.changes_writers.proofs.NumberLemmas.{first_is, first_written}
use Rattle.changes_writers.proofs.numbers.put_first.Goals as goal

pub overflow_sub-result : goal.overflow_sub-result
overflow_sub-result c = omega (arith, c.from.ensures, (first_is c.args.number c.requires.small).count)

pub returns-clause-end : goal.returns-clause-end
returns-clause-end c = omega (arith, c.from.ensures, (first_is c.args.number c.requires.small).count)

pub returns-clause-most : goal.returns-clause-most
returns-clause-most c = let first = first_is c.args.number c.requires.small in omega (arith, c.from.ensures, first.count, first.few)

pub returns-clause-text : goal.returns-clause-text
returns-clause-text c =
    first_written c.args.at c.put_bytes-end.result c.args.number _ c.args.text.now c.put_bytes-end.new.text _ c.requires.small (omega (arith, c.requires.room)) refl
    c.put_bytes-end.ensures.end c.put_bytes-end.ensures.text (omega (arith, c.from.ensures, (first_is c.args.number c.requires.small).count))
