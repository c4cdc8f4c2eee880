-- The tree of a JSON value and the number of values in it: recursion over the remaining nesting depth and over the entries of a container (the crate, jsonb.rs).
use Rattle.std.specs.Prelude.{ℕ, zero, suc, ◌+◌, if◌then◌else◌, nat_le, nat_lt, ◌==◌, ◌||◌, ℤ, Bool, true, false, List, length, Option, Some, None}
use Rattle.std.specs.declared.result.Result.TheVariants.{Ok, Err}
use Rattle.std.specs.Str.{is_utf8}
use Rattle.wire_buf.specs.Numbers.{little_signed}
use Rattle.rows_values.specs.Decimals.{DecimalParts}
use Rattle.rows_values.specs.Unpacked.{packed_value, normalized_of}
use Rattle.rows_values.specs.TimeFields.{span_fields, date_fields}
use Rattle.rows_values.specs.declared.times.mysql_time.MysqlTime.{MysqlTime}
use Rattle.rows_values.specs.declared.times.mysql_time.MysqlTimestampType.TheVariants.{MYSQL_TIMESTAMP_DATE, MYSQL_TIMESTAMP_DATETIME}
use Rattle.rows_jsonb.specs.JsonbLayout.{ContainerFormat}
use Rattle.rows_jsonb.specs.JsonbValues.{JsonbValue, null, boolean, i16, u16, i32, u32, i64, u64, double, text, opaque, container, malformed, document, elem, key}
use Rattle.rows_errors.specs.Readings.{Reading, ◌>>=◌}
use Rattle.rows_jsonb.specs.JsonTrees as tree
use Rattle.rows_jsonb.specs.JsonTrees.{Tree, scalar, array, object, Items, no_items, item, Members, no_members, member, put}

-- a result, and the number of values in it
abbrev pub Counted : Type 0 → Type 0
Counted A = A × ℕ

-- the string, if it is UTF-8
abbrev pub utf8 : List ℕ → Reading (List ℕ)
utf8 s = if is_utf8 s then Ok s else Err malformed

-- the tree of a scalar; it is one value
abbrev pub leaf : tree.Scalar → Reading (Counted Tree)
leaf s = Ok (scalar s, 1)

-- the packed time in the first 8 bytes
abbrev pub time_in : (ℤ → MysqlTime) → List ℕ → Reading (Counted Tree)
time_in fields s = if nat_lt (length s) 8 then Err malformed else leaf (tree.time (fields (little_signed 8 s)))

-- the packed decimal after its precision and scale
abbrev pub decimal_in : Option DecimalParts → Reading (Counted Tree)
decimal_in None = Err malformed
decimal_in (Some d) = leaf (tree.decimal d)

-- an opaque value by its column type: decimals, dates and times become values of their own, other types stay bytes
abbrev pub opaque_tree : ℕ → List ℕ → Reading (Counted Tree)
opaque_tree t s =
    if t == 10 then time_in (date_fields MYSQL_TIMESTAMP_DATE) s
    else if t == 11 then time_in span_fields s
    else if t == 12 || t == 7 then time_in (date_fields MYSQL_TIMESTAMP_DATETIME) s
    else if t == 246 then decimal_in (normalized_of false (packed_value s))
    else leaf (tree.opaque t s)

-- k entries of an array, from index pos on
abbrev pub items : (JsonbValue → Reading (Counted Tree)) → (ℕ → Reading JsonbValue) → ℕ → ℕ → Reading (Counted Items)
items below at pos zero = Ok (no_items, 0)
items below at pos (suc k) = do
  s ← at pos
  t ← below s
  more ← items below at (pos + 1) k
  Ok (item t.0 more.0, t.1 + more.1)

-- k members of an object, from index pos on, added to the members found so far: the last of equal keys wins
abbrev pub member_trees : (JsonbValue → Reading (Counted Tree)) → (ℕ → Reading (List ℕ)) → (ℕ → Reading JsonbValue) → ℕ → ℕ → Members → Reading (Counted Members)
member_trees below name at pos zero found = Ok (found, 0)
member_trees below name at pos (suc k) found = do
  bytes ← name pos
  s ← at pos
  n ← utf8 bytes
  t ← below s
  more ← member_trees below name at (pos + 1) k (put n t.0 found)
  Ok (more.0, t.1 + more.1)

-- the tree of a container, and its number of values: those of its entries and one more
abbrev pub entries : (JsonbValue → Reading (Counted Tree)) → Bool → ContainerFormat → ℕ → List ℕ → Reading (Counted Tree)
entries below true f n bytes = items below (elem f n bytes) 0 n >>= (λ t. Ok (array t.0, t.1 + 1))
entries below false f n bytes = member_trees below (key f n bytes) (elem f n bytes) 0 n no_members >>= (λ t. Ok (object t.0, t.1 + 1))

-- the tree of a scalar, or what `inside` returns for a container
abbrev pub tree_step : (ContainerFormat → ℕ → List ℕ → Reading (Counted Tree)) → JsonbValue → Reading (Counted Tree)
tree_step inside null = leaf tree.null
tree_step inside (boolean b) = leaf (tree.boolean b)
tree_step inside (i16 z) = leaf (tree.int z)
tree_step inside (u16 n) = leaf (tree.uint n)
tree_step inside (i32 z) = leaf (tree.int z)
tree_step inside (u32 n) = leaf (tree.uint n)
tree_step inside (i64 z) = leaf (tree.int z)
tree_step inside (u64 n) = leaf (tree.uint n)
tree_step inside (double n) = leaf (tree.double n)
tree_step inside (text s) = utf8 s >>= (λ t. leaf (tree.string t))
tree_step inside (opaque t s) = opaque_tree t s
tree_step inside (container f n bytes) = inside f n bytes

-- the tree of a scalar; a container is an error
abbrev pub bare_tree : JsonbValue → Reading (Counted Tree)
bare_tree s = tree_step (λ f n bytes. Err malformed) s

-- the tree of a value with at most d levels of nested containers
unfoldable pub tree_of : ℕ → JsonbValue → Reading (Counted Tree)
tree_of zero s = bare_tree s
tree_of (suc d) s = tree_step (λ f n bytes. entries (tree_of d) f.is_array f n bytes) s

-- The number of values that are read up to the first fault: a value that has a tree counts as its tree does.

-- what `count` says of the value that was read; 0 at a fault
abbrev pub read_on : {A : Type 0} → Reading A → (A → ℕ) → ℕ
read_on (Ok x) count = count x
read_on (Err e) count = 0

-- those of k entries of an array, from index pos on
abbrev pub items_read : (JsonbValue → Reading (Counted Tree)) → (JsonbValue → ℕ) → (ℕ → Reading JsonbValue) → ℕ → ℕ → ℕ
items_read below count at pos zero = 0
items_read below count at pos (suc k) = read_on (at pos) (λ s. count s + read_on (below s) (λ t. items_read below count at (pos + 1) k))

-- those of k members of an object, from index pos on
abbrev pub members_read : (JsonbValue → Reading (Counted Tree)) → (JsonbValue → ℕ) → (ℕ → Reading (List ℕ)) → (ℕ → Reading JsonbValue) → ℕ → ℕ → ℕ
members_read below count name at pos zero = 0
members_read below count name at pos (suc k) =
    read_on (name pos) (λ bytes. read_on (at pos) (λ s. read_on (utf8 bytes) (λ n.
    count s + read_on (below s) (λ t. members_read below count name at (pos + 1) k))))

-- those of a container's entries
abbrev pub entries_read : (JsonbValue → Reading (Counted Tree)) → (JsonbValue → ℕ) → Bool → ContainerFormat → ℕ → List ℕ → ℕ
entries_read below count true f n bytes = items_read below count (elem f n bytes) 0 n
entries_read below count false f n bytes = members_read below count (key f n bytes) (elem f n bytes) 0 n

-- those of a value with at most d levels of nested containers: itself, and those of its entries
unfoldable pub values_read : ℕ → JsonbValue → ℕ
values_read zero s = 1
values_read (suc d) (container f n bytes) = entries_read (tree_of d) (values_read d) f.is_array f n bytes + 1
values_read (suc d) _ = 1

-- the size of a container in bytes; 0 for other values
abbrev pub container_len : JsonbValue → ℕ
container_len (container f n bytes) = length bytes
container_len _ = 0

-- the tree; an error if it has more than `size` + 1 values; `size` is that of the outermost container in bytes
abbrev pub within_budget : ℕ → Counted Tree → Reading Tree
within_budget size t = if nat_le t.1 (1 + size) then Ok t.0 else Err malformed

-- the maximum nesting depth, as in MySQL
abbrev pub max_depth : ℕ
max_depth = 100

-- the tree of a value, within the depth and within the number of values that its bytes allow
abbrev pub tree_in : JsonbValue → Reading Tree
tree_in s = tree_of max_depth s >>= within_budget (container_len s)

-- the tree of a JSON document
abbrev pub document_tree : List ℕ → Reading Tree
document_tree bytes = document bytes >>= tree_in
