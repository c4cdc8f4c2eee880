use Rattle.std.proofs.Common.{arith}
use Rattle.changes_writers.proofs.PlainLemmas.{both, halves_plain, halves_written}
use Rattle.changes_writers.proofs.plain.put_halves_of_sixteen.Goals as goal

pub returns-clause-plain : goal.returns-clause-plain
returns-clause-plain c =
    let b = both _ _ c.if-not-are_eight_plain.false in
    halves_plain 8 c.args.bytes.now c.requires.least (omega (arith, c.requires.most)) (c.are_eight_plain.ensures b.0) (c.are_eight_plain-2.ensures b.1)

pub returns-clause-text : goal.returns-clause-text
returns-clause-text c = halves_written 8 c.args.at c.args.text.now c.args.bytes.now c.requires.least (omega (arith, c.requires.most)) c.requires.room
