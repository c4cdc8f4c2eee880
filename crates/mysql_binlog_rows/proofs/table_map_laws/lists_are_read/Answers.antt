use Rattle.rows_table_map.specs.Entries.{NumberEncoding, StringEncoding, PairEncoding, lenenc_at, string_at, pair_at}
use Rattle.rows_table_map.specs.EntryErrors.{NumberEntryFails, StringEntryFails, PairEntryFails}
use Rattle.rows_table_map.proofs.EntryLemmas.{number-takes, string-takes, pair-takes}
use Rattle.rows_table_map.proofs.LawLemmas.{number-law, string-law, pair-law}
use Rattle.mysql_binlog_rows.proofs.EntryErrorLemmas.{number-failed, number-why, string-failed, string-why, pair-failed, pair-why}
use Rattle.rows_table_map.proofs.ItemLemmas.{items-law}
use Rattle.mysql_binlog_rows.proofs.table_map_laws.lists_are_read.Goals as goal

pub returns-clause-numbers : goal.returns-clause-numbers
returns-clause-numbers c = items-law lenenc_at NumberEncoding NumberEntryFails number-takes number-law number-failed number-why

pub returns-clause-strings : goal.returns-clause-strings
returns-clause-strings c = items-law string_at StringEncoding StringEntryFails string-takes string-law string-failed string-why

pub returns-clause-pairs : goal.returns-clause-pairs
returns-clause-pairs c = items-law pair_at PairEncoding PairEntryFails pair-takes pair-law pair-failed pair-why
