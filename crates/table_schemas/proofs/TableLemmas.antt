-- A table that is added to a schema, and a table map that can't be read.
use Rattle.std.proofs.Common.{◌≡◌, inl, inr, ℕ, false, List, [], Option, Some, None, ap, ◌∙◌, refl, subst}
use Rattle.std.specs.Prelude.{OnOk, Result, Ok, Err, ◌++◌}
use Rattle.std.specs.Global.{Vec}
use Rattle.rows_table_map.specs.TableMaps.{TableMap}
use Rattle.feed_checks.specs.Kinds.{map_kind}
use Rattle.feed_checks.specs.KindViews.{IsKindError}
use Rattle.feed_checks.specs.declared.verdict.Verdict.{Verdict}
use Rattle.feed_checks.specs.declared.verdict.Verdict.TheVariants as verdicts
use Rattle.table_schemas.specs.CompletedMaps.{missing, missing_if_known, missing_if_read}
use Rattle.table_schemas.specs.LoggedFields.{logged_kinds}
use Rattle.table_schemas.specs.NamedTables.{NamedTables, AddsTable, is_named, table_named}
use Rattle.table_schemas.specs.SchemaFits.{first_difference}
use Rattle.table_schemas.specs.declared.logged.Logged.{Logged}
use Rattle.table_schemas.specs.declared.schema_table.SchemaTable.{SchemaTable}

-- under the names that a key has
pub added_by : (key : Vec ℕ) (names : List ℕ) (t : SchemaTable) (old new : NamedTables) → key.items ≡ names → table_named key.items new ≡ Some t → ((k : Vec ℕ) → is_named key.items k ≡ false → table_named k.items new ≡ table_named k.items old) → AddsTable names t old new
added_by key names t old new is added others = subst (λ (n : List ℕ). AddsTable n t old new) is (record { added = added; others = others })

-- nothing is known of bytes that are no table map
pub unread : (tables : NamedTables) (body : List ℕ) (o : Option TableMap) (v : Verdict) → IsKindError (map_kind o) v → (v ≡ verdicts.Memory → ⊥) → [] ≡ missing_if_read tables body o
unread tables body None v why other = refl
unread tables body (Some m) v (inl why) other = absurd (let e = why.1 in cc)
unread tables body (Some m) v (inr why) other = absurd (other why)

-- the fields that a table which fits adds to a table map
pub added_fields : {A E : Type 0} (r : Result A E) (m : TableMap) (o : Option SchemaTable) (t : SchemaTable) (l : Logged) (old new : List ℕ) → o ≡ Some t → logged_kinds m ≡ Some l → first_difference t.columns.items m ≡ None → old ≡ [] → OnOk r (new ≡ old ++ missing l t) → OnOk r (new ≡ missing_if_known m o)
added_fields (Ok x) m o t l old new known read fits none is = is ∙ ap (λ (b : List ℕ). b ++ missing l t) none ∙ rw (known, read, fits) refl
added_fields (Err e) m o t l old new known read fits none is = tt
