use Rattle.rows_table_map.proofs.ServedLemmas.{entries-are}
use Rattle.rows_table_map.proofs.served_charsets.CharsetEntries.of.Goals as goal

pub returns : goal.returns
returns c = entries-are _ _ _ _ c.indexed_of.ensures c.each_of.ensures
