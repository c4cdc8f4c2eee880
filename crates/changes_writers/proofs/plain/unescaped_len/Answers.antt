use Rattle.std.proofs.Common.{arith}
use Rattle.changes_writers.specs.JsonStrings.{is_unescaped}
use Rattle.changes_writers.proofs.PlainLemmas.{escapes_masked, count_where_none, count_where_some, count_most}
use Rattle.changes_writers.proofs.plain.unescaped_len.Goals as goal

pub returns-then-stops-eq0-clause-value : goal.returns-then-stops-eq0-clause-value
returns-then-stops-eq0-clause-value c = count_where_none is_unescaped c.args.v 16 _ c.fits-v.0 (escapes_masked c.args.v 16 c.fits-v (omega arith)) c.if-stops-eq0.true

pub returns-clause-most : goal.returns-clause-most
returns-clause-most c =
    count_most is_unescaped c.args.v 16 _ c.fits-v.0 (count_where_some is_unescaped c.args.v 16 _ c.fits-v.0 (omega arith) (escapes_masked c.args.v 16 c.fits-v (omega arith)) c.if-stops-eq0.false)

pub returns-clause-value : goal.returns-clause-value
returns-clause-value c = count_where_some is_unescaped c.args.v 16 _ c.fits-v.0 (omega arith) (escapes_masked c.args.v 16 c.fits-v (omega arith)) c.if-stops-eq0.false
