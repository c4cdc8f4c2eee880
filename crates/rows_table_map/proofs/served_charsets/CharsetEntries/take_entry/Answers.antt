use Rattle.std.proofs.Common.{ap, map}
use Rattle.rows_errors.specs.Readings.{map_reading}
use Rattle.rows_table_map.specs.Served.{pair_entry}
use Rattle.rows_table_map.proofs.ServedLemmas.{no_charsets, chain_fault}
use Rattle.rows_table_map.proofs.served_charsets.CharsetEntries.take_entry.Goals as goal

pub returns-in-Some-Err : goal.returns-in-Some-Err
returns-in-Some-Err c = chain_fault _ _ _ _ _ _ (ap (map (map_reading pair_entry)) (rw c.in-Some-Err.field-0-is at c.in-Some-Err.ensures.steps)) c.of.ensures no_charsets
