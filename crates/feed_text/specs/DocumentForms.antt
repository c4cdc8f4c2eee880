-- The texts of JSON documents in a form: which texts its values have, and how arrays and objects are made of them, as RFC 8259 has it.
use Rattle.std.specs.Prelude.{◌≡◌, ℕ, List, [], ◌∷◌, ◌++◌, codes, if◌then◌else◌, Option, Some, None}
use Rattle.std.specs.declared.result.Result.TheVariants.{Ok}
use Rattle.std.specs.Borrow.{Bor}
use Rattle.std.specs.List.{join_with_byte}
use Rattle.std.specs.Fmt.{signed_decimal}
use Rattle.rows_values.specs.Decimals.{DecimalParts}
use Rattle.rows_values.specs.declared.times.mysql_time.MysqlTime.{MysqlTime}
use Rattle.rows_jsonb.specs.JsonbValues.{JsonbValue}
use Rattle.rows_jsonb.specs.DocumentTrees.{tree_in}
use Rattle.rows_jsonb.specs.Items.{items_at, all_found}
use Rattle.rows_jsonb.specs.JsonDiffs.{Diff, diff_at}
use Rattle.rows_jsonb.specs.declared.diff.JsonDiffOperation.{JsonDiffOperation}
use Rattle.rows_jsonb.specs.declared.dom.JsonDom.{JsonDom}
use Rattle.rows_jsonb.specs.JsonTreeViews.{view}
use Rattle.rows_jsonb.specs.JsonTrees as tree
use Rattle.rows_jsonb.specs.JsonTrees.{Tree, Items, no_items, item, Members, no_members, member}

-- A form: the texts of an unsigned integer, a decimal, a string, a date or time, a value of another column type by its number, and a member's key; whether a text is that of a double, by its bits; the text of a partial update by its operation, its path and the text of its new value; and what is before and after all updates.
pub record Form : Type 1 where
  pub uint : ℕ → List ℕ
  pub IsDouble : ℕ → List ℕ → Type 0
  pub decimal : DecimalParts → List ℕ
  pub string : List ℕ → List ℕ
  pub time : MysqlTime → List ℕ
  pub opaque : ℕ → List ℕ → List ℕ
  pub key : List ℕ → List ℕ
  pub update : JsonDiffOperation → List ℕ → Option (List ℕ) → List ℕ
  pub before_updates : List ℕ
  pub after_updates : List ℕ

-- the text is one of a value without elements: null, true, false and signed integers have the same text in each form
unfoldable pub IsScalarIn : Form → tree.Scalar → List ℕ → Type 0
IsScalarIn f tree.null x = x ≡ codes "null"
IsScalarIn f (tree.boolean b) x = x ≡ (if b then codes "true" else codes "false")
IsScalarIn f (tree.int z) x = x ≡ signed_decimal z
IsScalarIn f (tree.uint n) x = x ≡ f.uint n
IsScalarIn f (tree.double bits) x = f.IsDouble bits x
IsScalarIn f (tree.decimal d) x = x ≡ f.decimal d
IsScalarIn f (tree.string s) x = x ≡ f.string s
IsScalarIn f (tree.time t) x = x ≡ f.time t
IsScalarIn f (tree.opaque number bytes) x = x ≡ f.opaque number bytes

unfoldable mutual
  -- the text is one of a document: elements and members in brackets, with a comma between each two
  pub IsDocumentIn : Form → Tree → List ℕ → Type 0
  IsDocumentIn f (tree.scalar s) x = IsScalarIn f s x
  IsDocumentIn f (tree.array is) x = (xs : List (List ℕ)) × AreItemsIn f is xs × (x ≡ codes "[" ++ (join_with_byte 44 xs ++ codes "]"))
  IsDocumentIn f (tree.object ms) x = (xs : List (List ℕ)) × AreMembersIn f ms xs × (x ≡ codes "{" ++ (join_with_byte 44 xs ++ codes "}"))

  -- one text for each element
  pub AreItemsIn : Form → Items → List (List ℕ) → Type 0
  AreItemsIn f no_items xs = xs ≡ []
  AreItemsIn f (item t ts) [] = ⊥
  AreItemsIn f (item t ts) (x ∷ xs) = IsDocumentIn f t x × AreItemsIn f ts xs

  -- one for each member: its key, a colon, and its value
  pub AreMembersIn : Form → Members → List (List ℕ) → Type 0
  AreMembersIn f no_members xs = xs ≡ []
  AreMembersIn f (member k t ms) [] = ⊥
  AreMembersIn f (member k t ms) (x ∷ xs) = ((v : List ℕ) × IsDocumentIn f t v × (x ≡ f.key k ++ (codes ":" ++ v))) × AreMembersIn f ms xs

-- the text is one of a member
abbrev pub IsMemberIn : Form → List ℕ → Tree → List ℕ → Type 0
IsMemberIn f k t x = (v : List ℕ) × IsDocumentIn f t v × (x ≡ f.key k ++ (codes ":" ++ v))

-- such a text was appended
pub record AppendsOne (IsText : List ℕ → Type 0) (old new : List ℕ) : Type 0 where
  pub text : List ℕ
  pub such : IsText text
  pub appended : new ≡ old ++ text

-- the text is one of the new value's tree, if there is one
abbrev pub IsValueIn : Form → Option (Bor JsonDom) → Option (List ℕ) → Type 0
IsValueIn f None x = x ≡ None
IsValueIn f (Some d) x = (v : List ℕ) × IsDocumentIn f (view d.now) v × (x ≡ Some v)

-- the same, of the new value itself
abbrev pub IsNewValueIn : Form → Option JsonbValue → Option (List ℕ) → Type 0
IsNewValueIn f None x = x ≡ None
IsNewValueIn f (Some v) x = (t : Tree) × (tree_in v ≡ Ok t) × ((y : List ℕ) × IsDocumentIn f t y × (x ≡ Some y))

-- the text is one of a partial update
abbrev pub IsUpdateIn : Form → Diff → List ℕ → Type 0
IsUpdateIn f d x = (v : Option (List ℕ)) × IsNewValueIn f d.1.1 v × (x ≡ f.update d.0 d.1.0 v)

-- one text for each update
unfoldable pub AreUpdatesIn : Form → List Diff → List (List ℕ) → Type 0
AreUpdatesIn f [] xs = xs ≡ []
AreUpdatesIn f (d ∷ ds) [] = ⊥
AreUpdatesIn f (d ∷ ds) (x ∷ xs) = IsUpdateIn f d x × AreUpdatesIn f ds xs

-- the text is one of all updates: with a comma between each two, and what is before and after them
abbrev pub IsUpdatesIn : Form → List Diff → List ℕ → Type 0
IsUpdatesIn f ds x = (xs : List (List ℕ)) × AreUpdatesIn f ds xs × (x ≡ f.before_updates ++ (join_with_byte 44 xs ++ f.after_updates))

-- the bytes of a cell are updates, one of whose texts was appended
pub record AppendsUpdates (f : Form) (bytes old new : List ℕ) : Type 0 where
  pub updates : List Diff
  pub found : items_at diff_at bytes ≡ all_found updates
  pub text : AppendsOne (IsUpdatesIn f updates) old new
