use Rattle.feed_writers.proofs.BlockLemmas.{first_kept}
use Rattle.feed_writers.proofs.blocks.first_bytes.Goals as goal

pub returns : goal.returns
returns c = first_kept c.args.len c.args.bytes.now c.requires.few c.requires.sixteen
