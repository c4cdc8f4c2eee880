use Rattle.std.proofs.Common.{sym}
use Rattle.rows_table_map.proofs.EntryLemmas.{number_found, number_missing}
use Rattle.rows_table_map.proofs.entries.split_number.Goals as goal

pub returns-in-Some : goal.returns-in-Some
returns-in-Some c = sym (number_found _ _ _ c.in-Some.ensures.some)

pub returns-in-None : goal.returns-in-None
returns-in-None c = rw c.fault_of.ensures (sym (number_missing c.args.bytes.now c.in-None.ensures.none.0))
