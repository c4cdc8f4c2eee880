-- The specification's values for the crate's lists: the items that their iterators have yet to return.
use Rattle.std.specs.Prelude.{◌≡◌, ◌⊎◌, ◌-◌, ℕ, suc, ◌%◌, Bool, List, [], ◌∷◌, map, Option, Some, None, option_map}
use Rattle.std.specs.declared.result.Result.{Result}
use Rattle.std.specs.declared.result.Result.TheVariants.{Ok, Err}
use Rattle.std.specs.Iterator.{YieldsFirstBy}
use Rattle.wire_fields.specs.RawTexts.{raw_string}
use Rattle.wire_constants.specs.declared.geometry_type.GeometryType.{GeometryType}
use Rattle.rows_table_map.specs.BitLists.{bit_of, len_of}
use Rattle.rows_table_map.specs.declared.bits.Bits.{Bits}
use Rattle.rows_errors.specs.declared.fault.RowsError.{RowsError}
use Rattle.rows_errors.specs.declared.fault.RowsError.TheVariants.{Memory}
use Rattle.rows_errors.specs.Readings.{Reading, ◌>>=◌, map_reading}
use Rattle.rows_table_map.specs.declared.entries.Entries.{Entries}
use Rattle.rows_table_map.specs.declared.charsets.DefaultCharset.{DefaultCharset}
use Rattle.rows_table_map.specs.declared.charsets.NonDefaultCharset.{NonDefaultCharset}
use Rattle.rows_table_map.specs.declared.charsets.ColumnCharsets.{ColumnCharsets}
use Rattle.rows_table_map.specs.declared.names.ColumnNames.{ColumnNames}
use Rattle.rows_table_map.specs.declared.primary_keys.SimplePrimaryKey.{SimplePrimaryKey}
use Rattle.rows_table_map.specs.declared.primary_keys.PrimaryKeysWithPrefix.{PrimaryKeysWithPrefix}
use Rattle.rows_table_map.specs.declared.charsets.IterNonDefault.{IterNonDefault}
use Rattle.rows_table_map.specs.declared.charsets.IterCharsets.{IterCharsets}
use Rattle.rows_table_map.specs.declared.names.ColumnName.{ColumnName}
use Rattle.rows_table_map.specs.declared.names.IterNames.{IterNames}
use Rattle.rows_table_map.specs.declared.geometry_types.IterGeometryTypes.{IterGeometryTypes}
use Rattle.rows_table_map.specs.declared.dimensionalities.IterVectorDimensionalities.{IterVectorDimensionalities}
use Rattle.rows_table_map.specs.declared.primary_keys.IterIndexes.{IterIndexes}
use Rattle.rows_table_map.specs.declared.primary_keys.IterKeys.{IterKeys}
use Rattle.rows_table_map.specs.declared.primary_keys.PrimaryKeyWithPrefix.{PrimaryKeyWithPrefix}
use Rattle.rows_table_map.specs.declared.str_values.StrValue.{StrValue}
use Rattle.rows_table_map.specs.declared.str_values.StrValues.{StrValues}
use Rattle.rows_table_map.specs.declared.str_values.ColumnsStrValues.{ColumnsStrValues}
use Rattle.rows_table_map.specs.declared.geometry_types.GeometryTypes.{GeometryTypes}
use Rattle.rows_table_map.specs.declared.dimensionalities.VectorDimensionalities.{VectorDimensionalities}
use Rattle.rows_table_map.specs.declared.str_values.IterStrValues.{IterStrValues}
use Rattle.rows_table_map.specs.declared.field.OptionalMetadataField.{OptionalMetadataField}
use Rattle.rows_table_map.specs.declared.field.OptionalMetadataField.TheVariants as made
use Rattle.rows_table_map.specs.declared.field.OptionalMetadataIter.{OptionalMetadataIter}
use Rattle.rows_table_map.specs.declared.extractor.OptionalMetaExtractor.{OptionalMetaExtractor}
use Rattle.rows_table_map.specs.declared.columns_iter.IterSignedness.{IterSignedness}
use Rattle.rows_table_map.specs.declared.columns_iter.KeyIndexes.{KeyIndexes}
use Rattle.rows_table_map.specs.declared.columns_iter.IterPrimaryKey.{IterPrimaryKey}
use Rattle.rows_table_map.specs.declared.served_charsets.NextEntry.{NextEntry}
use Rattle.rows_table_map.specs.declared.served_charsets.NextEntry.TheVariants as entry
use Rattle.rows_table_map.specs.declared.served_charsets.CharsetEntries.{CharsetEntries}
use Rattle.rows_table_map.specs.declared.served_charsets.IterCharset.{IterCharset}
use Rattle.rows_table_map.specs.Lists.{numbers, strings, pairs}
use Rattle.rows_table_map.specs.KnownConstants.{geometry_type}
use Rattle.rows_table_map.specs.MetadataFields.{Field, signedness, default_charset, column_charset, column_name, set_str_value, enum_str_value, geometry_types, simple_primary_key, primary_key_with_prefix, enum_and_set_default_charset, enum_and_set_column_charset, column_visibility, dimensionality, bits_from, read_field, tagged}
use Rattle.rows_table_map.specs.Members.{members}
use Rattle.rows_table_map.specs.Extracted.{Extracted}
use Rattle.rows_table_map.specs.Served.{CharsetEntry, of_column, plain, chained, pair_entry, charset_after}

-- the number of a character set has 16 bits; only the lowest 16 of a larger one are kept
abbrev pub charset : ℕ → ℕ
charset n = n % 65536

-- the number of a geometry type has 8 bits; only the lowest 8 of a larger one are kept
abbrev pub geometry : Reading ℕ → Reading GeometryType
geometry number = number >>= λ n. geometry_type (n % 256)

-- the default charset, and the bytes of the pairs for columns with another one
abbrev pub default_charset_view : DefaultCharset → ℕ × List ℕ
default_charset_view d = (d.default_charset, d.non_default.now)

-- the bytes of the lists
abbrev pub charsets_view : ColumnCharsets → List ℕ
charsets_view c = c.charsets.now

abbrev pub names_view : ColumnNames → List ℕ
names_view n = n.names.now

abbrev pub columns_values_view : ColumnsStrValues → List ℕ
columns_values_view v = v.values.now

abbrev pub geometry_types_view : GeometryTypes → List ℕ
geometry_types_view g = g.geometry_types.now

abbrev pub dimensionalities_view : VectorDimensionalities → List ℕ
dimensionalities_view v = v.dimensionalities.now

abbrev pub indexes_view : SimplePrimaryKey → List ℕ
indexes_view k = k.indexes.now

abbrev pub keys_view : PrimaryKeysWithPrefix → List ℕ
keys_view k = k.keys.now

-- entries: an index and a charset; an index and the length of a prefix; a name
abbrev pub non_default_view : NonDefaultCharset → ℕ × ℕ
non_default_view c = (c.column_index, c.charset)

abbrev pub key_view : PrimaryKeyWithPrefix → ℕ × ℕ
key_view k = (k.column_index, k.prefix_length)

abbrev pub name_view : ColumnName → List ℕ
name_view n = raw_string n.name

-- the remaining items
abbrev pub remaining_list : Entries → List ℕ
remaining_list e = e.bytes.now

abbrev pub non_default_left : IterNonDefault → List (Reading (ℕ × ℕ))
non_default_left it = pairs (remaining_list it.entries)

abbrev pub remaining_charsets : IterCharsets → List (Reading ℕ)
remaining_charsets it = map (map_reading charset) (numbers (remaining_list it.entries))

abbrev pub remaining_names : IterNames → List (Reading (List ℕ))
remaining_names it = strings (remaining_list it.entries)

abbrev pub geometry_types_left : IterGeometryTypes → List (Reading GeometryType)
geometry_types_left it = map geometry (numbers (remaining_list it.entries))

abbrev pub dimensionalities_left : IterVectorDimensionalities → List (Reading ℕ)
dimensionalities_left it = numbers (remaining_list it.entries)

abbrev pub indexes_left : IterIndexes → List (Reading ℕ)
indexes_left it = numbers (remaining_list it.entries)

abbrev pub remaining_keys : IterKeys → List (Reading (ℕ × ℕ))
remaining_keys it = pairs (remaining_list it.entries)

-- the bits, in order
abbrev pub bits_view : Bits → List Bool
bits_view b = bits_from (bit_of b) 0 (len_of b)

abbrev pub field_view : OptionalMetadataField → Field
field_view (made.Signedness b) = signedness (bits_view b)
field_view (made.DefaultCharset d) = default_charset (default_charset_view d)
field_view (made.ColumnCharset c) = column_charset c.charsets.now
field_view (made.ColumnName n) = column_name n.names.now
field_view (made.SetStrValue v) = set_str_value v.values.now
field_view (made.EnumStrValue v) = enum_str_value v.values.now
field_view (made.GeometryType g) = geometry_types g.geometry_types.now
field_view (made.SimplePrimaryKey k) = simple_primary_key k.indexes.now
field_view (made.PrimaryKeyWithPrefix k) = primary_key_with_prefix k.keys.now
field_view (made.EnumAndSetDefaultCharset d) = enum_and_set_default_charset (default_charset_view d)
field_view (made.EnumAndSetColumnCharset c) = enum_and_set_column_charset c.charsets.now
field_view (made.ColumnVisibility b) = column_visibility (bits_view b)
field_view (made.Dimensionality v) = dimensionality v.dimensionalities.now

abbrev pub fields_left : OptionalMetadataIter → List (Reading Field)
fields_left it = map (read_field it.columns.now) (tagged (remaining_list it.entries))

-- the strings of a column's members
abbrev pub value_view : StrValue → List ℕ
value_view v = raw_string v.value

abbrev pub values_view : StrValues → List (List ℕ)
values_view v = map value_view v.values.items

abbrev pub remaining_members : IterStrValues → List (Reading (List (List ℕ)))
remaining_members it = members it.bytes.now

-- the members of the next column are returned, or an error, which is the last item; or the call is out of memory, which is the last item too
abbrev pub ReturnsMembers : IterStrValues → Option (Result StrValues RowsError) → IterStrValues → Type 0
ReturnsMembers it item after = YieldsFirstBy (map_reading values_view) remaining_members it item after ⊎ ((item ≡ Some (Err Memory)) × (remaining_members after ≡ []))

-- what the columns use
abbrev pub extracted_view : OptionalMetaExtractor → Extracted
extracted_view e = record {
  signs = option_map bits_view e.signedness;
  charset = option_map default_charset_view e.default_charset;
  charsets = option_map charsets_view e.column_charset;
  names = option_map names_view e.column_name;
  simple_key = option_map indexes_view e.simple_primary_key;
  prefixed_key = option_map keys_view e.primary_key_with_prefix;
  enum_charset = option_map default_charset_view e.enum_and_set_default_charset;
  enum_charsets = option_map charsets_view e.enum_and_set_column_charset;
}

abbrev pub signs_left : IterSignedness → List Bool
signs_left it = bits_from (bit_of it.bits) it.next (len_of it.bits - it.next)

-- the item that was read ahead, if any, and the items after it
abbrev pub ahead_of : {A : Type 0} → Option A → List A → List A
ahead_of None items = []
ahead_of (Some x) items = x ∷ items

abbrev pub key_indexes_left : KeyIndexes → List (Reading ℕ)
key_indexes_left k = chained (indexes_left k.simple) (map (map_reading (λ (key : ℕ × ℕ). key.0)) (remaining_keys k.prefixed))

abbrev pub primary_key_left : IterPrimaryKey → List (Reading ℕ)
primary_key_left it = ahead_of it.ahead (key_indexes_left it.following)

-- the entry that was read ahead, and the entries after it
abbrev pub prepend_entry : NextEntry → List (Reading CharsetEntry) → List (Reading CharsetEntry)
prepend_entry entry.End entries = []
prepend_entry (entry.Fault e) entries = Err e ∷ entries
prepend_entry (entry.OfColumn j c) entries = Ok (of_column j c) ∷ entries
prepend_entry (entry.Plain c) entries = Ok (plain c) ∷ entries

abbrev pub entries_left : CharsetEntries → List (Reading CharsetEntry)
entries_left e = chained (map (map_reading pair_entry) (non_default_left e.indexed)) (map (map_reading plain) (remaining_charsets e.each))

-- the charset of the column that is k columns after the next one
abbrev pub charset_left : IterCharset → ℕ → Option (Reading ℕ)
charset_left it k = charset_after it.default (prepend_entry it.ahead (entries_left it.following)) it.index k

-- one step over charsets: the first is returned, and the others remain
abbrev pub ReturnsCharset : IterCharset → Option (Reading ℕ) → IterCharset → Type 0
ReturnsCharset it item after = (item ≡ charset_left it 0) × ((k : ℕ) → charset_left after k ≡ charset_left it (suc k))

-- the charsets of all columns remain
abbrev pub IteratesCharsets : IterCharset → (ℕ → Option (Reading ℕ)) → Type 0
IteratesCharsets it item = (k : ℕ) → charset_left it k ≡ item k
