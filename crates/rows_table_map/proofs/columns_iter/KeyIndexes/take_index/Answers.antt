use Rattle.rows_table_map.proofs.ServedLemmas.{no_indexes, chain_fault}
use Rattle.rows_table_map.proofs.columns_iter.KeyIndexes.take_index.Goals as goal

pub returns-in-Some-Err : goal.returns-in-Some-Err
returns-in-Some-Err c = chain_fault _ _ _ _ _ _ (rw c.in-Some-Err.field-0-is at c.in-Some-Err.ensures.steps) c.of.ensures no_indexes
