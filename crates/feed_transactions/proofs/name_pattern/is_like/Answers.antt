use Rattle.std.proofs.Common.{sym}
use Rattle.feed_transactions.proofs.NamePatternLemmas.{not_like}
use Rattle.feed_transactions.proofs.name_pattern.is_like.Goals as goal

pub returns-in-No : goal.returns-in-No
returns-in-No c = sym (not_like c.args.pattern.now c.args.name.now c.match_name.result c.match_name.ensures c.in-No.is)
