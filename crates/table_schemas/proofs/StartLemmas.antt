-- Schemas of which one begins elsewhere, and the tables that an event has by them.
use Rattle.std.proofs.Common.{◌≡◌, ℕ, zero, suc, ◌+◌, ◌<◌, Bool, true, false, List, [], ◌∷◌, ◌++◌, length, get_or, drop, Option, Some, None, cond, refl, sym, ap, ◌∙◌, arith, Bor}
use Rattle.std.specs.Prelude.{set}
use Rattle.std.specs.Option.{option_copied}
use Rattle.std.proofs.lemmas.List.{drop_more}
use Rattle.table_schemas.specs.NamedTables.{NamedTables, is_named, table_named}
use Rattle.table_schemas.specs.CompletedMaps.{Tables, begun_from, tables_at, tables_from}
use Rattle.table_schemas.specs.declared.schema_start.SchemaStart.{SchemaStart}
use Rattle.table_schemas.specs.declared.schema_table.SchemaTable.{SchemaTable}
use Rattle.table_schemas.specs.declared.schemas.SchemaFrom.{SchemaFrom}

-- ---- a schema that begins elsewhere

pub begun_set : (l : Tables) (i : ℕ) (start : SchemaStart) (s : SchemaFrom) → i < length l → s ≡ get_or l i s → set l i (record { start = start; schema = s.schema }) ≡ begun_from i start l
begun_set [] i start s lt is = absurd (omega (arith, lt))
begun_set (first ∷ l) zero start s lt is = ap (λ (x : SchemaFrom). record { start = start; schema = x.schema } ∷ l) is
begun_set (first ∷ l) (suc i) start s lt is = ap (λ (x : Tables). first ∷ x) (begun_set l i start s (omega (arith, lt)) is)

-- ---- the table with these names

found_first : (x : Bool) (first : SchemaTable) (rest more : Option SchemaTable) (t : SchemaTable) → (rest ≡ Some t → more ≡ Some t) → cond x (Some first) rest ≡ Some t → cond x (Some first) more ≡ Some t
found_first true first rest more t h is = is
found_first false first rest more t h is = h is

found_then : (names : List ℕ) (t : SchemaTable) (a b : NamedTables) → table_named names a ≡ Some t → table_named names (a ++ b) ≡ Some t
found_then names t [] b is = absurd (let e = is in cc)
found_then names t (e ∷ a) b is = found_first (is_named names e.0) e.1 (table_named names a) (table_named names (a ++ b)) t (found_then names t a b) is

missed_first : (x : Bool) (first : SchemaTable) (rest more other : Option SchemaTable) → (rest ≡ None → more ≡ other) → cond x (Some first) rest ≡ None → cond x (Some first) more ≡ other
missed_first true first rest more other h is = absurd (let e = is in cc)
missed_first false first rest more other h is = h is

missed_then : (names : List ℕ) (a b : NamedTables) → table_named names a ≡ None → table_named names (a ++ b) ≡ table_named names b
missed_then names [] b is = refl
missed_then names (e ∷ a) b is = missed_first (is_named names e.0) e.1 (table_named names a) (table_named names (a ++ b)) (table_named names b) (missed_then names a b) is

tables_left : (l : Tables) (i : ℕ) (s : SchemaFrom) (event : List ℕ) → i < length l → s ≡ get_or l i s → tables_at (drop i l) event ≡ tables_from event s ++ tables_at (drop (i + 1) l) event
tables_left l i s event lt is = ap (λ (r : Tables). tables_at r event) (drop_more l i s lt ∙ ap (λ (x : SchemaFrom). x ∷ drop (i + 1) l) (sym is))

-- this schema has it
pub found_at : (names event : List ℕ) (l : Tables) (i : ℕ) (s : SchemaFrom) (t : SchemaTable) → i < length l → s ≡ get_or l i s → table_named names (tables_from event s) ≡ Some t
    → table_named names (tables_at (drop i l) event) ≡ table_named names (tables_at l event) → Some t ≡ table_named names (tables_at l event)
found_at names event l i s t lt is found same =
    sym (found_then names t (tables_from event s) (tables_at (drop (i + 1) l) event) found) ∙ sym (ap (table_named names) (tables_left l i s event lt is)) ∙ same

-- this schema hasn't
pub missed_at : (names event : List ℕ) (l : Tables) (i : ℕ) (s : SchemaFrom) → i < length l → s ≡ get_or l i s → table_named names (tables_from event s) ≡ None
    → table_named names (tables_at (drop i l) event) ≡ table_named names (tables_at l event) → table_named names (tables_at (drop (i + 1) l) event) ≡ table_named names (tables_at l event)
missed_at names event l i s lt is missed same =
    sym (missed_then names (tables_from event s) (tables_at (drop (i + 1) l) event) missed) ∙ sym (ap (table_named names) (tables_left l i s event lt is)) ∙ same

pub none_copied : (o : Option (Bor SchemaTable)) → ((t : Bor SchemaTable) → o ≡ Some t → ⊥) → option_copied o ≡ None
none_copied None h = refl
none_copied (Some t) h = absurd (h t refl)
