use Rattle.feed_writers.proofs.BlockLemmas.{low_ok, low_is}
use Rattle.feed_writers.proofs.blocks.low_digits.Goals as goal

pub swizzle : goal.swizzle
swizzle c = low_ok c.args.v c.fits-v

pub returns : goal.returns
returns c = low_is c.args.v c.fits-v
