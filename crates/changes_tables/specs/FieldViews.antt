-- The specification's values for the fields that the code keeps.
use Rattle.std.specs.Prelude.{option_map}
use Rattle.std.specs.declared.result.Result.TheVariants.{Ok, Err}
use Rattle.rows_errors.specs.Readings.{Reading}
use Rattle.rows_table_map.specs.MetadataFields.{Field}
use Rattle.rows_table_map.specs.MetadataViews.{default_charset_view, charsets_view, names_view, columns_values_view, indexes_view, keys_view}
use Rattle.changes_tables.specs.declared.fields.CollationField.{CollationField}
use Rattle.changes_tables.specs.declared.fields.CollationField.TheVariants.{WithDefault, OneByOne}
use Rattle.changes_tables.specs.declared.fields.KeyField.{KeyField}
use Rattle.changes_tables.specs.declared.fields.KeyField.TheVariants.{Simple, WithPrefixes}
use Rattle.changes_tables.specs.declared.fields.TableFields.{TableFields}
use Rattle.changes_tables.specs.UsedMetadata.{UsedMetadata, CollationValue, with_default, one_by_one, KeyValue, simple, with_prefixes, or_else, names_in, key_in, texts_in, members_in, enums_in, sets_in}

abbrev pub collation_view : CollationField → CollationValue
collation_view (WithDefault c) = with_default (default_charset_view c)
collation_view (OneByOne c) = one_by_one (charsets_view c)

abbrev pub key_view : KeyField → KeyValue
key_view (Simple k) = simple (indexes_view k)
key_view (WithPrefixes k) = with_prefixes (keys_view k)

abbrev pub fields_view : TableFields → UsedMetadata
fields_view f = record {
  names = option_map names_view f.names;
  key = option_map key_view f.key;
  texts = option_map collation_view f.texts;
  members = option_map collation_view f.members;
  enums = option_map columns_values_view f.enums;
  sets = option_map columns_values_view f.sets;
}

-- one more field, which counts in place of an earlier one of its kind
abbrev pub with_field : UsedMetadata → Field → UsedMetadata
with_field u f = record {
  names = or_else (names_in f) u.names;
  key = or_else (key_in f) u.key;
  texts = or_else (texts_in f) u.texts;
  members = or_else (members_in f) u.members;
  enums = or_else (enums_in f) u.enums;
  sets = or_else (sets_in f) u.sets;
}

-- one more field, if it can be read
abbrev pub with_read : UsedMetadata → Reading Field → UsedMetadata
with_read u (Ok f) = with_field u f
with_read u (Err e) = u
