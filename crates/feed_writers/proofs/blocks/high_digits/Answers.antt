use Rattle.feed_writers.proofs.BlockLemmas.{high_ok, high_is}
use Rattle.feed_writers.proofs.blocks.high_digits.Goals as goal

pub swizzle : goal.swizzle
swizzle c = high_ok c.args.v c.fits-v

pub returns : goal.returns
returns c = high_is c.args.v c.fits-v
