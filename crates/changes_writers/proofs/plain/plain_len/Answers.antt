use Rattle.std.proofs.Common.{arith}
use Rattle.changes_writers.specs.PlainText.{is_plain}
use Rattle.changes_writers.proofs.PlainLemmas.{plain_masked, count_where_none, count_where_some, count_most}
use Rattle.changes_writers.proofs.plain.plain_len.Goals as goal

pub returns-then-stops-eq0-clause-value : goal.returns-then-stops-eq0-clause-value
returns-then-stops-eq0-clause-value c = count_where_none is_plain c.args.v 16 _ c.fits-v.0 (plain_masked c.args.v 16 c.fits-v (omega arith)) c.if-stops-eq0.true

pub returns-clause-most : goal.returns-clause-most
returns-clause-most c =
    count_most is_plain c.args.v 16 _ c.fits-v.0 (count_where_some is_plain c.args.v 16 _ c.fits-v.0 (omega arith) (plain_masked c.args.v 16 c.fits-v (omega arith)) c.if-stops-eq0.false)

pub returns-clause-value : goal.returns-clause-value
returns-clause-value c = count_where_some is_plain c.args.v 16 _ c.fits-v.0 (omega arith) (plain_masked c.args.v 16 c.fits-v (omega arith)) c.if-stops-eq0.false
