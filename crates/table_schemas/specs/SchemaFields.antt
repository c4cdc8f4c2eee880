-- The fields of the optional metadata for the columns of a table (MySQL's source: Table_map_event; Table_map_log_event::init_metadata_fields writes them): SIGNEDNESS 1, COLUMN_CHARSET 3, COLUMN_NAME 4, SET_STR_VALUE 5, ENUM_STR_VALUE 6, SIMPLE_PRIMARY_KEY 8, PRIMARY_KEY_WITH_PREFIX 9, ENUM_AND_SET_COLUMN_CHARSET 11.
use Rattle.std.specs.Prelude.{◌≡◌, ℕ, ◌==◌, ◌||◌, not, Bool, List, [], ◌∷◌, ◌++◌, length, if◌then◌else◌}
use Rattle.std.specs.List.{flat_map, list_any}
use Rattle.wire_buf.specs.Numbers.{lenenc_encoded}
use Rattle.wire_fields.specs.Strings.{lenenc_string_encoded}
use Rattle.table_schemas.specs.WrittenFields.{field_or_none, packed}
use Rattle.wire_constants.specs.ColumnTypes.{is_numeric, is_character, is_geometry, is_enum, is_set, is_enum_or_set}
use Rattle.table_schemas.specs.declared.schema_column.SchemaColumn.{SchemaColumn}
use Rattle.table_schemas.specs.declared.schema_column.KeyColumn.{KeyColumn}
use Rattle.table_schemas.specs.declared.schema_table.SchemaTable.{SchemaTable}

-- the sign of a numeric column: whether it is unsigned
abbrev pub sign_entry : SchemaColumn → List Bool
sign_entry c = if is_numeric c.column_type then c.is_unsigned ∷ [] else []

-- the collation of a column with text, bytes or a geometry
abbrev pub collation_entry : SchemaColumn → List ℕ
collation_entry c = if is_character c.column_type || is_geometry c.column_type then lenenc_encoded c.collation else []

-- the collation of an ENUM's or a SET's members, which a schema has in UTF-8 (45), unless they are bytes (63)
abbrev pub member_collation : SchemaColumn → ℕ
member_collation c = if c.collation == 63 then 63 else 45

abbrev pub member_collation_entry : SchemaColumn → List ℕ
member_collation_entry c = if is_enum_or_set c.column_type then lenenc_encoded (member_collation c) else []

-- the name of a column
abbrev pub name_entry : SchemaColumn → List ℕ
name_entry c = lenenc_string_encoded c.name.items

-- the members of a column: their number, and each of them
abbrev pub members_entry : SchemaColumn → List ℕ
members_entry c = lenenc_encoded (length c.members.items) ++ flat_map (λ m. lenenc_string_encoded m.items) c.members.items

abbrev pub enum_entry : SchemaColumn → List ℕ
enum_entry c = if is_enum c.column_type then members_entry c else []

abbrev pub set_entry : SchemaColumn → List ℕ
set_entry c = if is_set c.column_type then members_entry c else []

-- a column of a key without prefixes, and of one with prefixes
abbrev pub simple_entry : KeyColumn → List ℕ
simple_entry k = lenenc_encoded k.column

abbrev pub prefixed_entry : KeyColumn → List ℕ
prefixed_entry k = lenenc_encoded k.column ++ lenenc_encoded k.prefix

-- whether a key has a prefix of a column
abbrev pub has_prefix : List KeyColumn → Bool
has_prefix key = list_any (λ k. not (k.prefix == 0)) key

-- the field of the signs, of the collations, of the names
abbrev pub signs_field : List SchemaColumn → List ℕ
signs_field cs = field_or_none 1 (packed (flat_map sign_entry cs))

abbrev pub collations_field : List SchemaColumn → List ℕ
collations_field cs = field_or_none 3 (flat_map collation_entry cs)

abbrev pub names_field : List SchemaColumn → List ℕ
names_field cs = field_or_none 4 (flat_map name_entry cs)

-- the fields of the members, with their collations
abbrev pub members_fields : List SchemaColumn → List ℕ
members_fields cs = field_or_none 11 (flat_map member_collation_entry cs) ++ (field_or_none 5 (flat_map set_entry cs) ++ field_or_none 6 (flat_map enum_entry cs))

-- the field of the primary key
abbrev pub key_field : List KeyColumn → List ℕ
key_field key = if has_prefix key then field_or_none 9 (flat_map prefixed_entry key) else field_or_none 8 (flat_map simple_entry key)

-- a table with these columns and this primary key
pub record IsTableOf (cs : List SchemaColumn) (key : List KeyColumn) (t : SchemaTable) : Type 0 where
  pub columns : t.columns.items ≡ cs
  pub signs : t.signs.items ≡ signs_field cs
  pub collations : t.collations.items ≡ collations_field cs
  pub names : t.names.items ≡ names_field cs
  pub members : t.members.items ≡ members_fields cs
  pub key_is : t.key.items ≡ key_field key
