use Rattle.std.proofs.Common.{◌∙◌}
use Rattle.rows_table_map.proofs.SignLemmas.{no_bits}
use Rattle.rows_table_map.proofs.extractor.OptionalMetaExtractor.iter_signedness.Goals as goal

pub returns-in-None : goal.returns-in-None
returns-in-None c = rw c.in-None.is (c.of-in-None.ensures ∙ no_bits _ _ _ c.highest.ensures.len)
