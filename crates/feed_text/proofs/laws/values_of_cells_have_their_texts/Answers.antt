use Rattle.feed_text.proofs.CellLemmas.{same_text}
use Rattle.feed_text.proofs.laws.values_of_cells_have_their_texts.Goals as goal

pub returns : goal.returns
returns c = same_text
