-- Which JSON documents have the same JSON: those of the same structure, with the same keys and the same values.
use Rattle.std.specs.Prelude.{◌≡◌, ⊤, ℕ, IsTrue, pos, from_bits}
use Rattle.std.specs.Float.{binary64, float_is_finite}
use Rattle.rows_values.specs.declared.times.mysql_time.MysqlTime.{MysqlTime}
use Rattle.rows_values.specs.Decimals.{DecimalParts}
use Rattle.rows_values.specs.PrintedDecimals.{decimal_text}
use Rattle.rows_jsonb.specs.JsonTrees as tree
use Rattle.rows_jsonb.specs.JsonTrees.{Tree, Items, no_items, item, Members, no_members, member}
use Rattle.feed_text.specs.JsonText.{temporal_text}
use Rattle.changes_cells.specs.JsonDocuments.{time_start}

-- equal values; an integer with a sign and one without that are the same number; equal doubles; decimals with the same digits; dates and times of the same kind with the same text
pub data IsSameScalar : tree.Scalar → tree.Scalar → Type 0 where
  equal : {s : tree.Scalar} → IsSameScalar s s
  signed : {n : ℕ} → IsSameScalar (tree.int (pos n)) (tree.uint n)
  unsigned : {n : ℕ} → IsSameScalar (tree.uint n) (tree.int (pos n))
  doubles : {a b : ℕ} → from_bits binary64 a ≡ from_bits binary64 b → IsSameScalar (tree.double a) (tree.double b)
  decimals : {a b : DecimalParts} → decimal_text a ≡ decimal_text b → IsSameScalar (tree.decimal a) (tree.decimal b)
  times : {a b : MysqlTime} → time_start a.time_type ≡ time_start b.time_type → temporal_text a ≡ temporal_text b → IsSameScalar (tree.time a) (tree.time b)

unfoldable mutual
  -- the same structure, with the same keys and values
  pub IsSameTree : Tree → Tree → Type 0
  IsSameTree (tree.scalar a) (tree.scalar b) = IsSameScalar a b
  IsSameTree (tree.array a) (tree.array b) = AreSameItems a b
  IsSameTree (tree.object a) (tree.object b) = AreSameMembers a b
  IsSameTree _ _ = ⊥

  pub AreSameItems : Items → Items → Type 0
  AreSameItems no_items no_items = ⊤
  AreSameItems (item t ts) (item u us) = IsSameTree t u × AreSameItems ts us
  AreSameItems _ _ = ⊥

  pub AreSameMembers : Members → Members → Type 0
  AreSameMembers no_members no_members = ⊤
  AreSameMembers (member k t ts) (member l u us) = (k ≡ l) × IsSameTree t u × AreSameMembers ts us
  AreSameMembers _ _ = ⊥

-- a double that is finite; JSON has no other, and MySQL stores none
abbrev pub IsFiniteScalar : tree.Scalar → Type 0
IsFiniteScalar (tree.double bits) = IsTrue (float_is_finite (from_bits binary64 bits))
IsFiniteScalar _ = ⊤

unfoldable mutual
  -- all doubles are finite
  pub HasFiniteDoubles : Tree → Type 0
  HasFiniteDoubles (tree.scalar s) = IsFiniteScalar s
  HasFiniteDoubles (tree.array is) = HaveFiniteDoubles is
  HasFiniteDoubles (tree.object ms) = MembersHaveFiniteDoubles ms

  pub HaveFiniteDoubles : Items → Type 0
  HaveFiniteDoubles no_items = ⊤
  HaveFiniteDoubles (item t ts) = HasFiniteDoubles t × HaveFiniteDoubles ts

  pub MembersHaveFiniteDoubles : Members → Type 0
  MembersHaveFiniteDoubles no_members = ⊤
  MembersHaveFiniteDoubles (member k t ts) = HasFiniteDoubles t × MembersHaveFiniteDoubles ts
