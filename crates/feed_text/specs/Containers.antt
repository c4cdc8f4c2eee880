-- Values and containers of JSON documents, by their bytes.
use Rattle.std.specs.Prelude.{ℕ, Bool, false, List, Option, Some, None}
use Rattle.rows_jsonb.specs.JsonbLayout.{format}
use Rattle.rows_jsonb.specs.JsonbTypes.{jsonb_type_of, is_inlined}
use Rattle.rows_jsonb.specs.JsonbValues.{JsonbValue, container, of_type}
use Rattle.rows_jsonb.specs.declared.types.JsonbType.{JsonbType}
use Rattle.rows_errors.specs.Readings.{Reading}
use Rattle.feed_text.specs.declared.direct_parts.Container.{Container}

-- the container as a value
abbrev pub value_of : Container → JsonbValue
value_of c = container (format c.is_large c.is_array) c.count c.bytes.now

-- the value with this type byte that the bytes begin with
abbrev pub typed : ℕ → List ℕ → Reading JsonbValue
typed type_byte bytes = of_type (jsonb_type_of type_byte) bytes

-- whether a value of the type, if there is one, is inlined in its entry
abbrev pub inlined : Bool → Option JsonbType → Bool
inlined large None = false
inlined large (Some t) = is_inlined large t
