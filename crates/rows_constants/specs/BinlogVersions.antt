-- The numbers of the binary log's format versions and of checksum algorithms (the crate, src/binlog/consts.rs).
use Rattle.std.specs.Prelude.{ℕ}
use Rattle.rows_constants.specs.declared.binlog_version.BinlogVersion.{BinlogVersion}
use Rattle.rows_constants.specs.declared.binlog_version.BinlogVersion.TheVariants.{Version1, Version2, Version3, Version4}
use Rattle.rows_constants.specs.declared.binlog_checksum_alg.BinlogChecksumAlg.{BinlogChecksumAlg}
use Rattle.rows_constants.specs.declared.binlog_checksum_alg.BinlogChecksumAlg.TheVariants.{BINLOG_CHECKSUM_ALG_OFF, BINLOG_CHECKSUM_ALG_CRC32}

-- the number of a format version
abbrev pub binlog_version_number : BinlogVersion → ℕ
binlog_version_number Version1 = 1
binlog_version_number Version2 = 2
binlog_version_number Version3 = 3
binlog_version_number Version4 = 4

abbrev pub binlog_checksum_alg_number : BinlogChecksumAlg → ℕ
binlog_checksum_alg_number BINLOG_CHECKSUM_ALG_OFF = 0
binlog_checksum_alg_number BINLOG_CHECKSUM_ALG_CRC32 = 1
