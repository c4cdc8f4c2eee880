use Rattle.feed_text.proofs.WordLemmas.{both_parts}
use Rattle.feed_text.proofs.word_decimals.split_last.Goals as goal

pub returns : goal.returns
returns c = λ n xs are is. both_parts c.args.number n c.args.size c.from-bits.result xs c.from-bits.ensures c.requires are is
