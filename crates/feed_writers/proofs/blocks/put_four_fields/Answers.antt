use Rattle.feed_writers.proofs.BlockLemmas.{four_most, four_written}
use Rattle.feed_writers.proofs.blocks.put_four_fields.Goals as goal

pub returns-clause-most : goal.returns-clause-most
returns-clause-most c = four_most c.args.at c.args.stops c.requires.few

pub returns-clause-text : goal.returns-clause-text
returns-clause-text c = λ bytes four e s. four_written c.args.at c.args.stops c.args.text.now c.args.fields bytes c.requires.few c.requires.room four e s
