-- The flags of a query event's `Q_FLAGS2_CODE`: one entry per flag, its name and its bits.
use Rattle.std.specs.Prelude.{List, [], ◌∷◌, codes}
use Rattle.bitflags.specs.Sets.{Row}
pub use Rattle.wire_constants.specs.ColumnFlagBits.{column_flags}

abbrev pub flags2 : List Row
flags2 =
    (codes "OPTION_AUTO_IS_NULL", 16384) ∷
    (codes "OPTION_NOT_AUTOCOMMIT", 524288) ∷
    (codes "OPTION_NO_FOREIGN_KEY_CHECKS", 67108864) ∷
    (codes "OPTION_RELAXED_UNIQUE_CHECKS", 134217728) ∷
    []

-- no bit of an SQL mode has a name, and no bit is unknown
abbrev pub sql_mode : List Row
sql_mode = (codes "", 18446744073709551615) ∷ []
