-- The numbers of a `GEOMETRY` column's types.
use Rattle.std.specs.Prelude.{ℕ}
use Rattle.wire_constants.specs.declared.geometry_type.GeometryType.{GeometryType}
use Rattle.wire_constants.specs.declared.geometry_type.GeometryType.TheVariants.{GEOM_GEOMETRY, GEOM_POINT, GEOM_LINESTRING, GEOM_POLYGON, GEOM_MULTIPOINT, GEOM_MULTILINESTRING, GEOM_MULTIPOLYGON, GEOM_GEOMETRYCOLLECTION}

abbrev pub geometry_type_number : GeometryType → ℕ
geometry_type_number GEOM_GEOMETRY = 0
geometry_type_number GEOM_POINT = 1
geometry_type_number GEOM_LINESTRING = 2
geometry_type_number GEOM_POLYGON = 3
geometry_type_number GEOM_MULTIPOINT = 4
geometry_type_number GEOM_MULTILINESTRING = 5
geometry_type_number GEOM_MULTIPOLYGON = 6
geometry_type_number GEOM_GEOMETRYCOLLECTION = 7
