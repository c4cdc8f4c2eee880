use Rattle.feed_text.proofs.InjectiveLemmas.{same_quoted}
use Rattle.feed_text.proofs.laws.equal_quotes_are_of_equal_bytes.Goals as goal

pub returns : goal.returns
returns c = same_quoted
