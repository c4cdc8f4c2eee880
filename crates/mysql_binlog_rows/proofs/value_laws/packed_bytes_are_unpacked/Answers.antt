use Rattle.rows_values.proofs.UnpackedLemmas.{unpacked-sound, unpacked-complete, normalized-sound, normalized-complete}
use Rattle.mysql_binlog_rows.proofs.value_laws.packed_bytes_are_unpacked.Goals as goal

pub returns-clause-sound : goal.returns-clause-sound
returns-clause-sound c = unpacked-sound

pub returns-clause-complete : goal.returns-clause-complete
returns-clause-complete c = unpacked-complete

pub returns-clause-kept_sound : goal.returns-clause-kept_sound
returns-clause-kept_sound c = normalized-sound

pub returns-clause-kept_complete : goal.returns-clause-kept_complete
returns-clause-kept_complete c = normalized-complete
