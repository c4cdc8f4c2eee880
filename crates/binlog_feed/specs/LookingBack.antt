-- What earlier events imply, said of the newest event that counts.
use Rattle.std.specs.Prelude.{◌≡◌, ℕ, Bool, true, false, List, ◌∷◌, ◌++◌, ◌==◌}
use Rattle.std.specs.List.{list_any}
use Rattle.rows_table_map.specs.TableMaps.{TableMap}
use Rattle.feed_checks.specs.Kinds.{Kind, Format, NextGtid, Begin, Commit, Rollback, Statement, Map, Gtid}

-- some element has the property, and none after it passes the test; the newest comes first
pub record HasNewest {A : Type 0} (has : A → Type 0) (test : A → Bool) (past : List A) : Type 0 where
  pub later : List A
  pub element : A
  pub older : List A
  pub split : past ≡ later ++ element ∷ older
  pub is : has element
  pub none_later : list_any test later ≡ false

-- a commit, a rollback or a format description
abbrev pub ends_transaction : Kind → Bool
ends_transaction Commit = true
ends_transaction Rollback = true
ends_transaction Format = true
ends_transaction _ = false

-- a begin, a statement or a format description
abbrev pub takes_gtid : Kind → Bool
takes_gtid Begin = true
takes_gtid (Statement q) = true
takes_gtid Format = true
takes_gtid _ = false

-- the same, or another GTID
abbrev pub replaces_gtid : Kind → Bool
replaces_gtid (NextGtid g) = true
replaces_gtid k = takes_gtid k

-- a begin, or a table map with this id
abbrev pub replaces_map : ℕ → Kind → Bool
replaces_map id Begin = true
replaces_map id (Map m) = m.table_id == id
replaces_map id _ = false

-- the GTID of the next transaction, whichever it is
abbrev pub IsAnyGtid : Kind → Type 0
IsAnyGtid k = (g : Gtid) × (k ≡ NextGtid g)

-- this table map, which has the id
abbrev pub IsMap : ℕ → TableMap → Kind → Type 0
IsMap id m k = (k ≡ Map m) × (m.table_id ≡ id)
