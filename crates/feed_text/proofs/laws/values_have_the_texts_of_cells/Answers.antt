use Rattle.feed_text.proofs.CellLemmas.{value_text_is}
use Rattle.feed_text.proofs.laws.values_have_the_texts_of_cells.Goals as goal

pub returns : goal.returns
returns c = value_text_is
