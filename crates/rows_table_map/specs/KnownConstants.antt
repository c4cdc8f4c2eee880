-- The constant with a given number.
use Rattle.std.specs.Prelude.{ℕ, List, [], ◌∷◌, find, ◌==◌}
use Rattle.wire_constants.specs.GeometryTypes.{geometry_type_number}
use Rattle.wire_constants.specs.declared.geometry_type.GeometryType.{GeometryType}
use Rattle.wire_constants.specs.declared.geometry_type.GeometryType.TheVariants.{GEOM_GEOMETRY, GEOM_POINT, GEOM_LINESTRING, GEOM_POLYGON, GEOM_MULTIPOINT, GEOM_MULTILINESTRING, GEOM_MULTIPOLYGON, GEOM_GEOMETRYCOLLECTION}
use Rattle.rows_constants.specs.MetadataTypes.{optional_metadata_field_type_number}
use Rattle.rows_constants.specs.declared.optional_metadata_field_type.OptionalMetadataFieldType.{OptionalMetadataFieldType}
use Rattle.rows_constants.specs.declared.optional_metadata_field_type.OptionalMetadataFieldType.TheVariants.{SIGNEDNESS, DEFAULT_CHARSET, COLUMN_CHARSET, COLUMN_NAME, SET_STR_VALUE, ENUM_STR_VALUE, GEOMETRY_TYPE, SIMPLE_PRIMARY_KEY, PRIMARY_KEY_WITH_PREFIX, ENUM_AND_SET_DEFAULT_CHARSET, ENUM_AND_SET_COLUMN_CHARSET, COLUMN_VISIBILITY, VECTOR_DIMENSIONALITY}
use Rattle.rows_errors.specs.declared.fault.RowsError.TheVariants.{UnknownNumber}
use Rattle.rows_errors.specs.Readings.{Reading}
use Rattle.rows_table_map.specs.Entries.{found}

-- the one of these constants that has the number, or `UnknownNumber`
abbrev pub constant_with : {C : Type 0} → (C → ℕ) → List C → ℕ → Reading C
constant_with number all n = found UnknownNumber (find (λ c. number c == n) all)

abbrev pub geometry_types : List GeometryType
geometry_types = GEOM_GEOMETRY ∷ GEOM_POINT ∷ GEOM_LINESTRING ∷ GEOM_POLYGON ∷ GEOM_MULTIPOINT ∷ GEOM_MULTILINESTRING ∷ GEOM_MULTIPOLYGON ∷ GEOM_GEOMETRYCOLLECTION ∷ []

abbrev pub geometry_type : ℕ → Reading GeometryType
geometry_type n = constant_with geometry_type_number geometry_types n

-- all types of fields
abbrev pub field_types : List OptionalMetadataFieldType
field_types =
    SIGNEDNESS ∷ DEFAULT_CHARSET ∷ COLUMN_CHARSET ∷ COLUMN_NAME ∷ SET_STR_VALUE ∷ ENUM_STR_VALUE ∷ GEOMETRY_TYPE
    ∷ SIMPLE_PRIMARY_KEY ∷ PRIMARY_KEY_WITH_PREFIX ∷ ENUM_AND_SET_DEFAULT_CHARSET ∷ ENUM_AND_SET_COLUMN_CHARSET
    ∷ COLUMN_VISIBILITY ∷ VECTOR_DIMENSIONALITY ∷ []

-- the type of a field with this number
abbrev pub field_type : ℕ → Reading OptionalMetadataFieldType
field_type n = constant_with optional_metadata_field_type_number field_types n
