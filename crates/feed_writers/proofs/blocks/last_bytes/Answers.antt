use Rattle.feed_writers.proofs.BlockLemmas.{last_moved}
use Rattle.feed_writers.proofs.blocks.last_bytes.Goals as goal

pub returns : goal.returns
returns c = last_moved c.args.len c.args.bytes.now c.requires.few c.requires.sixteen
