-- What the functions that write JSON directly from the bytes append: a text, in their form, of the tree that the bytes have.
use Rattle.std.specs.Prelude.{◌≡◌, ◌+◌, ℕ, Bool, true, false, List, [], ◌∷◌}
use Rattle.std.specs.declared.result.Result.TheVariants.{Ok, Err}
use Rattle.std.specs.Str.{is_utf8}
use Rattle.rows_jsonb.specs.JsonTrees.{Tree, Items, Members, no_members, Scalar, scalar, array, object}
use Rattle.rows_jsonb.specs.JsonbValues.{JsonbValue, elem_in, object_key, count_in}
use Rattle.rows_errors.specs.declared.fault.RowsError.{RowsError}
use Rattle.rows_errors.specs.Readings.{Reading}
use Rattle.rows_jsonb.specs.JsonParsing.{Parses}
use Rattle.rows_jsonb.specs.DocumentTrees.{tree_of, bare_tree, items, member_trees}
use Rattle.feed_text.specs.Containers.{typed}
use Rattle.feed_text.specs.DocumentForms.{Form, IsScalarIn, IsDocumentIn, IsMemberIn, AppendsOne}

-- a comma, except before the first element
abbrev pub separator : Bool → List ℕ
separator true = []
separator false = 44 ∷ []

-- the value is a scalar, of which a text was appended
pub record WritesScalar (f : Form) (value : JsonbValue) (old new : List ℕ) : Type 0 where
  pub part : Scalar
  pub is : bare_tree value ≡ Ok (scalar part, 1)
  pub text : AppendsOne (IsScalarIn f part) old new

-- the value has a tree, of which a text was appended, and the number of its values was subtracted from the budget
pub record WritesTree (f : Form) (depth : ℕ) (value : JsonbValue) (budget left : ℕ) (old new : List ℕ) : Type 0 where
  pub tree : Tree
  pub count : ℕ
  pub is : tree_of depth value ≡ Ok (tree, count)
  pub taken : count + left ≡ budget
  pub text : AppendsOne (IsDocumentIn f tree) old new

-- the same for the value with this type byte that the bytes begin with
pub record WritesTyped (f : Form) (depth type_byte : ℕ) (bytes : List ℕ) (budget left : ℕ) (old new : List ℕ) : Type 0 where
  pub value : JsonbValue
  pub is : typed type_byte bytes ≡ Ok value
  pub tree : WritesTree f depth value budget left old new

-- the value with this type byte that the bytes begin with is a scalar, of which a text was appended
pub record WritesTypedScalar (f : Form) (type_byte : ℕ) (bytes : List ℕ) (old new : List ℕ) : Type 0 where
  pub value : JsonbValue
  pub is : typed type_byte bytes ≡ Ok value
  pub scalar : WritesScalar f value old new

-- the same for the elements of an array
pub record WritesItems (f : Form) (depth : ℕ) (value : JsonbValue) (budget left : ℕ) (old new : List ℕ) : Type 0 where
  pub found : Items
  pub count : ℕ
  pub is : items (tree_of depth) (elem_in value) 0 (count_in value) ≡ Ok (found, count)
  pub taken : count + left ≡ budget
  pub text : AppendsOne (IsDocumentIn f (array found)) old new

-- the same for the members of an object
pub record WritesMembers (f : Form) (depth : ℕ) (value : JsonbValue) (budget left : ℕ) (old new : List ℕ) : Type 0 where
  pub found : Members
  pub count : ℕ
  pub is : member_trees (tree_of depth) (object_key value) (elem_in value) 0 (count_in value) no_members ≡ Ok (found, count)
  pub taken : count + left ≡ budget
  pub text : AppendsOne (IsDocumentIn f (object found)) old new

-- the member of an object with index pos
pub record IsMember (depth : ℕ) (value : JsonbValue) (pos : ℕ) (key : List ℕ) (tree : Tree) (count : ℕ) : Type 0 where
  pub seen : JsonbValue
  pub key_is : object_key value pos ≡ Ok key
  pub is_text : is_utf8 key ≡ true
  pub seen_is : elem_in value pos ≡ Ok seen
  pub is : tree_of depth seen ≡ Ok (tree, count)

-- the same for one member
pub record WritesMember (f : Form) (depth : ℕ) (value : JsonbValue) (pos budget left : ℕ) (old new : List ℕ) : Type 0 where
  pub key : List ℕ
  pub tree : Tree
  pub count : ℕ
  pub is : IsMember depth value pos key tree count
  pub taken : count + left ≡ budget
  pub text : AppendsOne (IsMemberIn f key tree) old new

-- the JSON document has a tree, of which a text was appended
pub record WritesDocument (f : Form) (found : Reading Tree) (old new : List ℕ) : Type 0 where
  pub tree : Tree
  pub is : found ≡ Ok tree
  pub text : AppendsOne (IsDocumentIn f tree) old new

-- nothing was appended: out of memory, or the JSON document can't be parsed, for this error
abbrev pub IsDocumentError : RowsError → Reading Tree → List ℕ → List ℕ → Type 0
IsDocumentError e found old new = Parses (λ t. t) (Err e) found × (new ≡ old)
