use Rattle.std.proofs.Common.{sym}
use Rattle.rows_table_map.specs.Entries.{PairEncoding, pair_at}
use Rattle.rows_table_map.proofs.LawLemmas.{pair-law}
use Rattle.rows_table_map.proofs.FieldLemmas.{entry_read, entry_failed}
use Rattle.rows_table_map.proofs.reading.take_pair.Goals as goal

pub returns-in-Ok-clause-ok : goal.returns-in-Ok-clause-ok
returns-in-Ok-clause-ok c = entry_read PairEncoding pair_at pair-law _ _ _ (sym c.in-Ok.ensures)

pub returns-in-Err-clause-err : goal.returns-in-Err-clause-err
returns-in-Err-clause-err c = entry_failed PairEncoding pair_at pair-law _ _ (sym c.in-Err.ensures)
