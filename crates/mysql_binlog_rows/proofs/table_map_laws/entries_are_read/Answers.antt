use Rattle.rows_table_map.proofs.LawLemmas.{number-law, string-law, pair-law, tagged-law}
use Rattle.rows_table_map.proofs.MemberLawLemmas.{members-law}
use Rattle.mysql_binlog_rows.proofs.table_map_laws.entries_are_read.Goals as goal

pub returns-clause-numbers : goal.returns-clause-numbers
returns-clause-numbers c = number-law

pub returns-clause-strings : goal.returns-clause-strings
returns-clause-strings c = string-law

pub returns-clause-pairs : goal.returns-clause-pairs
returns-clause-pairs c = pair-law

pub returns-clause-fields : goal.returns-clause-fields
returns-clause-fields c = tagged-law

pub returns-clause-members : goal.returns-clause-members
returns-clause-members c = members-law
