use Rattle.feed_writers.proofs.BlockLemmas.{escape_stored}
use Rattle.feed_writers.proofs.blocks.put_up_to_escape.Goals as goal

pub returns-clause-text : goal.returns-clause-text
returns-clause-text c = escape_stored c.args.at c.args.plain _ c.args.text.now _ c.args.v _ c.fits-v.0 c.requires.few c.requires.room c.put_escape.ensures.end c.put_escape.ensures.text
