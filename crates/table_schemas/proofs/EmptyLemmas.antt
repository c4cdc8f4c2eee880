-- An empty schema changes no event.
use Rattle.std.proofs.Common.{◌≡◌, ℕ, Bool, true, false, List, [], ◌++◌, Option, Some, None, refl, ap, ◌∙◌}
use Rattle.rows_table_map.specs.TableMaps.{TableMap}
use Rattle.events_replaced.specs.GivenReplacements.{checksums_after}
use Rattle.table_schemas.specs.CompletedMaps.{before_checksum, completed_if_checked, missing_if_read}
use Rattle.table_schemas.specs.CompletedEvents.{AreCompleted, completed_event}
use Rattle.table_schemas.specs.MysqlEvents.{is_table_map}

no_fields : (body : List ℕ) (o : Option TableMap) → missing_if_read [] body o ≡ []
no_fields body None = refl
no_fields body (Some m) = refl

none_completed : (has_checksum : Bool) (event : List ℕ) (o : Option (List ℕ)) → completed_if_checked [] has_checksum event o ≡ event
none_completed has_checksum event None = refl
none_completed has_checksum event (Some bytes) = rw (no_fields _ _) refl

pub same_event : (has_checksum : Bool) (event : List ℕ) (is : Bool) → is_table_map event ≡ is → completed_event [] has_checksum event ≡ event
same_event has_checksum event true e = rw e (none_completed has_checksum event (before_checksum has_checksum event))
same_event has_checksum event false e = rw e refl

pub all_same : {has_checksum : Bool} {own b : List ℕ} → AreCompleted [] has_checksum own b → b ≡ own
all_same (AreCompleted.completed_rest cs own none) = refl
all_same (AreCompleted.completed_next cs event own rest whole more) =
    ap (λ (l : List ℕ). completed_event [] (checksums_after cs event) event ++ l) (all_same more)
    ∙ ap (λ (l : List ℕ). l ++ own) (same_event (checksums_after cs event) event (is_table_map event) refl)
