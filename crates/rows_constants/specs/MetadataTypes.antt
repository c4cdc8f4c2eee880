-- The types of the fields in a table map's optional metadata (MySQL's `Table_map_event::Optional_metadata_field_type`).
use Rattle.std.specs.Prelude.{ℕ}
use Rattle.rows_constants.specs.declared.optional_metadata_field_type.OptionalMetadataFieldType.{OptionalMetadataFieldType}
use Rattle.rows_constants.specs.declared.optional_metadata_field_type.OptionalMetadataFieldType.TheVariants.{SIGNEDNESS, DEFAULT_CHARSET, COLUMN_CHARSET, COLUMN_NAME, SET_STR_VALUE, ENUM_STR_VALUE, GEOMETRY_TYPE, SIMPLE_PRIMARY_KEY, PRIMARY_KEY_WITH_PREFIX, ENUM_AND_SET_DEFAULT_CHARSET, ENUM_AND_SET_COLUMN_CHARSET, COLUMN_VISIBILITY, VECTOR_DIMENSIONALITY}

-- the number of a field's type
abbrev pub optional_metadata_field_type_number : OptionalMetadataFieldType → ℕ
optional_metadata_field_type_number SIGNEDNESS = 1
optional_metadata_field_type_number DEFAULT_CHARSET = 2
optional_metadata_field_type_number COLUMN_CHARSET = 3
optional_metadata_field_type_number COLUMN_NAME = 4
optional_metadata_field_type_number SET_STR_VALUE = 5
optional_metadata_field_type_number ENUM_STR_VALUE = 6
optional_metadata_field_type_number GEOMETRY_TYPE = 7
optional_metadata_field_type_number SIMPLE_PRIMARY_KEY = 8
optional_metadata_field_type_number PRIMARY_KEY_WITH_PREFIX = 9
optional_metadata_field_type_number ENUM_AND_SET_DEFAULT_CHARSET = 10
optional_metadata_field_type_number ENUM_AND_SET_COLUMN_CHARSET = 11
optional_metadata_field_type_number COLUMN_VISIBILITY = 12
optional_metadata_field_type_number VECTOR_DIMENSIONALITY = 13
