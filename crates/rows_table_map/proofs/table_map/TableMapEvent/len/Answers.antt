use Rattle.std.proofs.Common.{arith}
use Rattle.std.proofs.lemmas.List.{length-take}
use Rattle.wire_fields.specs.RawTexts.{raw_string}
use Rattle.rows_table_map.specs.TableMaps.{written_map}
use Rattle.rows_table_map.specs.MapViews.{map_of}
use Rattle.rows_table_map.proofs.LengthLemmas.{map_length, len_from_length}
use Rattle.rows_table_map.proofs.table_map.TableMapEvent.len.Goals as goal

pub returns : goal.returns
returns c =
    let t = c.args.self.now in
    let database = length-take 255 (raw_string t.database) in
    let table = length-take 255 (raw_string t.table) in
    let said = rw (c.column_types_raw-columns.ensures, c.metadata_raw-metadata.ensures, c.null_bitmask_raw.ensures, c.optional_metadata_raw.ensures) at c.event_len.ensures in
    let columns = rw c.column_types_raw-columns.ensures at c.lenenc_int_len.ensures in
    let metadata = rw c.metadata_raw-metadata.ensures at c.lenenc_int_len-2.ensures in
    let names = rw c.database_name_raw.ensures at c.min.ensures in
    let tables = rw c.table_name_raw.ensures at c.min-2.ensures in
    len_from_length _ _ _ (map_length (written_map (map_of t))) (omega (arith, said, columns, metadata, names, tables, database, table))
