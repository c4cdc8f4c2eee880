-- JSON documents as trees (the crate, jsonb.rs, JsonDom).
use Rattle.std.specs.Prelude.{ℕ, ℤ, List, Bool}
use Rattle.rows_values.specs.declared.times.mysql_time.MysqlTime.{MysqlTime}
use Rattle.rows_values.specs.Decimals.{DecimalParts}
use Rattle.std.specs.Ordering.{nat_cmp, match_ordering}
use Rattle.std.specs.Cmp.Lexicographic.{slice_cmp}

-- a value without elements
pub data Scalar : Type 0 where
  null : Scalar
  boolean : Bool → Scalar
  int : ℤ → Scalar
  uint : ℕ → Scalar
  double : ℕ → Scalar
  decimal : DecimalParts → Scalar
  string : List ℕ → Scalar
  time : MysqlTime → Scalar
  opaque : ℕ → List ℕ → Scalar

mutual
  -- a value with all that it contains
  pub data Tree : Type 0 where
    scalar : Scalar → Tree
    array : Items → Tree
    object : Members → Tree

  -- the elements of an array, in order
  pub data Items : Type 0 where
    no_items : Items
    item : Tree → Items → Items

  -- members in ascending order of their keys
  pub data Members : Type 0 where
    no_members : Members
    member : List ℕ → Tree → Members → Members

-- the members with t as the value of key k, in ascending order of keys; an equal key is replaced
abbrev pub put : List ℕ → Tree → Members → Members
put k t no_members = member k t no_members
put k t (member l u ms) = match_ordering (slice_cmp nat_cmp k l) (member k t (member l u ms)) (member l t ms) (member l u (put k t ms))
