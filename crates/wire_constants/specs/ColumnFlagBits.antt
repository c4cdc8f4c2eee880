-- The flags of MySQL's columns (`mysql_com.h`): one entry per flag, its name and its bits.
use Rattle.std.specs.Prelude.{List, [], ◌∷◌, codes}
use Rattle.bitflags.specs.Sets.{Row}

abbrev pub column_flags : List Row
column_flags =
    (codes "NOT_NULL_FLAG", 1) ∷
    (codes "PRI_KEY_FLAG", 2) ∷
    (codes "UNIQUE_KEY_FLAG", 4) ∷
    (codes "MULTIPLE_KEY_FLAG", 8) ∷
    (codes "BLOB_FLAG", 16) ∷
    (codes "UNSIGNED_FLAG", 32) ∷
    (codes "ZEROFILL_FLAG", 64) ∷
    (codes "BINARY_FLAG", 128) ∷
    (codes "ENUM_FLAG", 256) ∷
    (codes "AUTO_INCREMENT_FLAG", 512) ∷
    (codes "TIMESTAMP_FLAG", 1024) ∷
    (codes "SET_FLAG", 2048) ∷
    (codes "NO_DEFAULT_VALUE_FLAG", 4096) ∷
    (codes "ON_UPDATE_NOW_FLAG", 8192) ∷
    (codes "PART_KEY_FLAG", 16384) ∷
    (codes "NUM_FLAG", 32768) ∷
    []
