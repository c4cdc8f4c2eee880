-- Compressed statements and rows (MariaDB knowledge base: Compressing Events to Reduce Size of the Binary Log; QUERY_EVENT; ROWS_EVENT_V1/V2).
use Rattle.std.specs.Prelude.{◌≡◌, ◌≢◌, ◌≤◌, ℕ, ◌+◌, ◌*◌, ◌/◌, List, [], ◌∷◌, length, drop, Some, ⊤}
use Rattle.byteorder.specs.Endian.{big_number, little_number}
use Rattle.wire_lenenc.specs.LenencSplit.{split_lenenc}
use Rattle.events_frames.specs.Queries.{Query, IsQuery}
use Rattle.events_replaced.specs.declared.mariadb_fault.MariadbFault.{MariadbFault}
use Rattle.events_replaced.specs.declared.mariadb_fault.MariadbFault.TheVariants as faults
use Rattle.events_replaced.specs.declared.mariadb_type.MariadbType.{MariadbType}
use Rattle.events_replaced.specs.declared.mariadb_type.MariadbType.TheVariants as types

-- compressed data: 128 for compressed by zlib, plus the number of bytes of the length before compression; that length, its highest byte first; and zlib's data
pub record IsCompressed (packed : List ℕ) (len : ℕ) (zlib : List ℕ) : Type 0 where
  pub len_len : ℕ
  pub low : 1 ≤ len_len
  pub high : len_len ≤ 4
  pub rest : List ℕ
  pub begins : packed ≡ (128 + len_len) ∷ rest
  pub within : len_len ≤ length rest
  pub len_is : len ≡ big_number len_len rest
  pub zlib_is : zlib ≡ drop len_len rest

-- compressed in another way: the upper half of the first byte isn't 8
pub record IsOtherwise (packed : List ℕ) : Type 0 where
  pub first : ℕ
  pub rest : List ℕ
  pub begins : packed ≡ first ∷ rest
  pub other : first / 16 ≢ 8

-- why compressed data can't be read; which lengths can't isn't stated
abbrev pub IsNotCompressed : List ℕ → MariadbFault → Type 0
IsNotCompressed packed faults.Compression = IsOtherwise packed
IsNotCompressed packed faults.Fields = ⊤
IsNotCompressed packed _ = ⊥

-- in a QUERY_COMPRESSED_EVENT the statement is compressed
abbrev pub HasStatementData : List ℕ → List ℕ → Type 0
HasStatementData event packed = (q : Query) × IsQuery q (drop 19 event) [] × (packed ≡ q.query)

-- in a rows event what follows the bitmaps of columns is: the number of columns is at this offset, and there is one bitmap, or two
pub record HasRowsData (columns_offset bitmaps : ℕ) (event packed : List ℕ) : Type 0 where
  pub columns : ℕ
  pub rest : List ℕ
  pub number : split_lenenc (drop columns_offset event) ≡ Some (columns, rest)
  pub within : bitmaps * ((columns + 7) / 8) ≤ length rest
  pub packed_is : packed ≡ drop (bitmaps * ((columns + 7) / 8)) rest

-- in version 2 a length (2), which counts itself, and extra data precede the number of columns
abbrev pub HasLaterRowsData : ℕ → List ℕ → List ℕ → Type 0
HasLaterRowsData bitmaps event packed = HasRowsData (27 + little_number 2 (drop 27 event)) bitmaps event packed

-- the compressed data of an event of this type
abbrev pub HasData : MariadbType → List ℕ → List ℕ → Type 0
HasData types.QUERY_COMPRESSED_EVENT event packed = HasStatementData event packed
HasData types.WRITE_ROWS_COMPRESSED_EVENT_V1 event packed = HasRowsData 27 1 event packed
HasData types.UPDATE_ROWS_COMPRESSED_EVENT_V1 event packed = HasRowsData 27 2 event packed
HasData types.DELETE_ROWS_COMPRESSED_EVENT_V1 event packed = HasRowsData 27 1 event packed
HasData types.WRITE_ROWS_COMPRESSED_EVENT event packed = HasLaterRowsData 1 event packed
HasData types.UPDATE_ROWS_COMPRESSED_EVENT event packed = HasLaterRowsData 2 event packed
HasData types.DELETE_ROWS_COMPRESSED_EVENT event packed = HasLaterRowsData 1 event packed
HasData _ event packed = ⊥
