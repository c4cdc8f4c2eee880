-- The constant that has a number, found among all of them.
use Rattle.std.proofs.Common.{◌≡◌, ℕ, List, [], ◌∷◌, None, Ok, Err, refl, ap, subst, inl, inr}
use Rattle.std.specs.Prelude.{◌==◌, find}
use Rattle.std.proofs.lemmas.Bool.Decides.{eqb_tells}
use Rattle.wire_constants.specs.GeometryTypes.{geometry_type_number}
use Rattle.wire_constants.specs.declared.geometry_type.GeometryType.{GeometryType}
use Rattle.wire_constants.specs.declared.geometry_type.GeometryType.TheVariants.{GEOM_GEOMETRY, GEOM_POINT, GEOM_LINESTRING, GEOM_POLYGON, GEOM_MULTIPOINT, GEOM_MULTILINESTRING, GEOM_MULTIPOLYGON, GEOM_GEOMETRYCOLLECTION}
use Rattle.rows_constants.specs.MetadataTypes.{optional_metadata_field_type_number}
use Rattle.rows_constants.specs.declared.optional_metadata_field_type.OptionalMetadataFieldType.{OptionalMetadataFieldType}
use Rattle.rows_constants.specs.declared.optional_metadata_field_type.OptionalMetadataFieldType.TheVariants.{SIGNEDNESS, DEFAULT_CHARSET, COLUMN_CHARSET, COLUMN_NAME, SET_STR_VALUE, ENUM_STR_VALUE, GEOMETRY_TYPE, SIMPLE_PRIMARY_KEY, PRIMARY_KEY_WITH_PREFIX, ENUM_AND_SET_DEFAULT_CHARSET, ENUM_AND_SET_COLUMN_CHARSET, COLUMN_VISIBILITY, VECTOR_DIMENSIONALITY}
use Rattle.rows_errors.specs.declared.fault.RowsError.TheVariants.{UnknownNumber}
use Rattle.rows_table_map.specs.Entries.{found}
use Rattle.rows_table_map.specs.KnownConstants.{geometry_type, geometry_types, field_type, field_types}

pub none_in : {A : Type 0} (number : A → ℕ) (n : ℕ) (ts : List A) → ((t : A) → number t ≡ n → ⊥) → find (λ t. number t == n) ts ≡ None
none_in number n [] h = refl
none_in number n (t ∷ ts) h = elim (eqb_tells (number t) n) [
  | inl e ↦ absurd (h t e.1)
  | inr e ↦ rw e.0 (none_in number n ts h)
]

geometry-is : (t : GeometryType) → geometry_type (geometry_type_number t) ≡ Ok t
geometry-is GEOM_GEOMETRY = refl
geometry-is GEOM_POINT = refl
geometry-is GEOM_LINESTRING = refl
geometry-is GEOM_POLYGON = refl
geometry-is GEOM_MULTIPOINT = refl
geometry-is GEOM_MULTILINESTRING = refl
geometry-is GEOM_MULTIPOLYGON = refl
geometry-is GEOM_GEOMETRYCOLLECTION = refl

pub geometry_known : (t : GeometryType) (n : ℕ) → geometry_type_number t ≡ n → geometry_type n ≡ Ok t
geometry_known t n e = subst (λ (m : ℕ). geometry_type m ≡ Ok t) e (geometry-is t)

pub geometry_unknown : (n : ℕ) → ((t : GeometryType) → geometry_type_number t ≡ n → ⊥) → geometry_type n ≡ Err UnknownNumber
geometry_unknown n h = ap (found UnknownNumber) (none_in geometry_type_number n geometry_types h)

field-is : (t : OptionalMetadataFieldType) → field_type (optional_metadata_field_type_number t) ≡ Ok t
field-is SIGNEDNESS = refl
field-is DEFAULT_CHARSET = refl
field-is COLUMN_CHARSET = refl
field-is COLUMN_NAME = refl
field-is SET_STR_VALUE = refl
field-is ENUM_STR_VALUE = refl
field-is GEOMETRY_TYPE = refl
field-is SIMPLE_PRIMARY_KEY = refl
field-is PRIMARY_KEY_WITH_PREFIX = refl
field-is ENUM_AND_SET_DEFAULT_CHARSET = refl
field-is ENUM_AND_SET_COLUMN_CHARSET = refl
field-is COLUMN_VISIBILITY = refl
field-is VECTOR_DIMENSIONALITY = refl

pub field_known : (t : OptionalMetadataFieldType) (n : ℕ) → optional_metadata_field_type_number t ≡ n → field_type n ≡ Ok t
field_known t n e = subst (λ (m : ℕ). field_type m ≡ Ok t) e (field-is t)

pub field_unknown : (n : ℕ) → ((t : OptionalMetadataFieldType) → optional_metadata_field_type_number t ≡ n → ⊥) → field_type n ≡ Err UnknownNumber
field_unknown n h = ap (found UnknownNumber) (none_in optional_metadata_field_type_number n field_types h)
