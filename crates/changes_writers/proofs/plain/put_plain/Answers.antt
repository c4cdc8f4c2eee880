use Rattle.changes_writers.proofs.PlainLemmas.{some_written}
use Rattle.changes_writers.proofs.plain.put_plain.Goals as goal

pub returns-then-bytes-ge8-clause-text : goal.returns-then-bytes-ge8-clause-text
returns-then-bytes-ge8-clause-text c = some_written c.put_halves_of_sixteen.result _ _ c.args.bytes.now c.put_halves_of_sixteen.ensures.plain c.put_halves_of_sixteen.ensures.text

pub returns-then-bytes-ge4-clause-text : goal.returns-then-bytes-ge4-clause-text
returns-then-bytes-ge4-clause-text c = some_written c.put_halves_of_eight.result _ _ c.args.bytes.now c.put_halves_of_eight.ensures.plain c.put_halves_of_eight.ensures.text

pub returns-clause-text : goal.returns-clause-text
returns-clause-text c = some_written c.put_few.result _ _ c.args.bytes.now c.put_few.ensures.plain c.put_few.ensures.text
