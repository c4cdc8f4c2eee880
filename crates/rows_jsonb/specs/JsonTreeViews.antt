-- The JSON tree that a `JsonDom` represents.
use Rattle.std.specs.Prelude.{List, [], ◌∷◌, map, String, string_bytes}
use Rattle.std.specs.declared.alloc.Global.{Global}
use Rattle.wire_constants.specs.ColumnTypes.{column_type_number}
use Rattle.rows_values.specs.Decimals.{decimal_parts}
use Rattle.rows_jsonb.specs.JsonTrees as tree
use Rattle.rows_jsonb.specs.JsonTrees.{Tree, scalar, array, object, Items, no_items, item, Members, no_members, member}
use Rattle.rows_jsonb.specs.declared.dom.JsonScalar.{JsonScalar}
use Rattle.rows_jsonb.specs.declared.dom.JsonScalar.TheVariants as part
use Rattle.rows_jsonb.specs.declared.dom.JsonNumber.{JsonNumber}
use Rattle.rows_jsonb.specs.declared.dom.JsonNumber.TheVariants.{Decimal, Double, Int, Uint}
use Rattle.rows_jsonb.specs.declared.dom.JsonDom.{JsonDom}
use Rattle.rows_jsonb.specs.declared.dom.JsonContainer.{JsonContainer}
use Rattle.rows_jsonb.specs.declared.dom.JsonContainer.TheOpen.{JsonContainer-F, JsonDom-F}
use Rattle.rows_jsonb.specs.declared.dom.JsonContainer.TheFolds.{fold-JsonContainer, fold-JsonDom}

abbrev pub number_view : JsonNumber → tree.Scalar
number_view (Decimal d) = tree.decimal (decimal_parts d)
number_view (Double n) = tree.double n
number_view (Int z) = tree.int z
number_view (Uint n) = tree.uint n

abbrev pub scalar_view : JsonScalar → tree.Scalar
scalar_view (part.Boolean b) = tree.boolean b
scalar_view part.Null = tree.null
scalar_view (part.DateTime t) = tree.time t
scalar_view (part.Number n) = number_view n
scalar_view (part.Opaque o) = tree.opaque (column_type_number o.field_type) o.value.items
scalar_view (part.String s) = tree.string (string_bytes s)

abbrev pub array_items : List Tree → Items
array_items [] = no_items
array_items (t ∷ ts) = item t (array_items ts)

abbrev pub members_of : List (String Global × Tree) → Members
members_of [] = no_members
members_of (m ∷ ms) = member (string_bytes m.0) m.1 (members_of ms)

-- one level, whose values are already trees
abbrev pub container_step : JsonContainer-F Tree Tree → Tree
container_step (JsonContainer-F.Array v) = array (array_items v.items)
container_step (JsonContainer-F.Object m) = object (members_of m.entries)

abbrev pub dom_step : JsonDom-F Tree Tree → Tree
dom_step (JsonDom-F.Container c) = c
dom_step (JsonDom-F.Scalar s) = scalar (scalar_view s)

abbrev pub view : JsonDom → Tree
view = fold-JsonDom Tree Tree container_step dom_step

abbrev pub container_view : JsonContainer → Tree
container_view = fold-JsonContainer Tree Tree container_step dom_step

abbrev pub items_view : List JsonDom → Items
items_view ds = array_items (map view ds)

abbrev pub members_view : List (String Global × JsonDom) → Members
members_view es = members_of (map (λ e. (e.0, view e.1)) es)
