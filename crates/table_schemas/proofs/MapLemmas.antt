-- What is given for the newest event of the other source.
use Rattle.std.proofs.Common.{◌≡◌, ℕ, ◌≤◌, Bool, true, false, List, [], ◌∷◌, length, drop, Option, Some, refl, sym, ap, ◌∙◌, arith}
use Rattle.std.specs.Prelude.{◌==◌, codes, is_some, if◌then◌else◌}
use Rattle.std.proofs.lemmas.Bool.{eqb-true}
use Rattle.memchr.specs.Find.{FindsNeedle, first_of, matches}
use Rattle.memchr.proofs.lemmas.ValueLemmas.{FindsNeedle-value}
use Rattle.events_frames.specs.HeaderFields.{header_field}
use Rattle.table_schemas.specs.YearSigns.{Signs, mysql_fields, year_signs}
use Rattle.table_schemas.specs.CompletedMaps.{Tables, before_checksum, completed}
use Rattle.table_schemas.specs.CompletedEvents.{completed_event}
use Rattle.table_schemas.specs.CompletingStates.{at_hand_by, newest_by, newest_if}
use Rattle.table_schemas.specs.MysqlEvents.{is_table_map, mysql_event}
use Rattle.table_schemas.specs.MysqlTableMaps.{before_fields, mysql_if_short, mysql_map, mysql_map_in, unsummed}
use Rattle.table_schemas.specs.declared.described.Described.{Described}
use Rattle.table_schemas.proofs.EmptyLemmas.{same_event}
use Rattle.table_schemas.proofs.MysqlLemmas.{map_long, map_type}

-- the word that MariaDB's versions have
pub word_found : (version : List ℕ) (r : Option ℕ) → FindsNeedle version (codes "MariaDB") 0 r → is_some r ≡ is_some (first_of (matches version (codes "MariaDB") 0))
word_found version r found = ap is_some (FindsNeedle-value version (codes "MariaDB") r found)

-- a table map with signs of YEAR columns, whose checksum is right
pub map_is : (has_checksum : Bool) (event bytes : List ℕ) (s : Signs) → year_signs (drop 19 (unsummed has_checksum event)) ≡ Some s → before_checksum has_checksum event ≡ Some bytes
    → mysql_map has_checksum event ≡ mysql_if_short has_checksum event (before_fields bytes s) (mysql_fields s)
map_is has_checksum event bytes s found checked = rw (found, checked) refl

-- an event that isn't a table map
pub other_given : (tables : Tables) (d : Described) (event : List ℕ) → is_table_map event ≡ false → event ≡ completed_event tables d.has_checksum (mysql_event d event)
other_given tables d event other =
    let same : mysql_event d event ≡ event = rw other refl in
    rw same (rw other refl)

-- a log of MySQL's servers has its table maps as they write them
pub own_event : (d : Described) (event : List ℕ) (is : Bool) → is_table_map event ≡ is → d.is_mariadb ≡ false → mysql_event d event ≡ event
own_event d event true e not_mariadb = rw (e, not_mariadb) refl
own_event d event false e not_mariadb = rw e refl

-- and an empty schema completes none
pub own_given : (tables : Tables) (d : Described) (event : List ℕ) → tables ≡ [] → d.is_mariadb ≡ false → event ≡ completed_event tables d.has_checksum (mysql_event d event)
own_given tables d event empty not_mariadb =
    let same = own_event d event (is_table_map event) refl not_mariadb in
    rw (empty, same) (sym (same_event d.has_checksum event (is_table_map event) refl))

-- a schema without tables
pub no_tables : (tables : Tables) (is_empty : Bool) → is_empty ≡ (length tables == 0) → is_empty ≡ true → tables ≡ []
no_tables [] is_empty is e = refl
no_tables (t ∷ ts) is_empty is e = absurd (omega (arith, eqb-true (length (t ∷ ts)) 0 (sym is ∙ e)))

-- a table map that was made, or wasn't, in two steps
pub newest_at_hand : (a b : Bool) (hand : List ℕ) → at_hand_by (newest_if a b) hand ≡ []
newest_at_hand true true hand = refl
newest_at_hand true false hand = refl
newest_at_hand false true hand = refl
newest_at_hand false false hand = refl

pub chosen_long : (d : Described) (own chosen : List ℕ) → 19 ≤ length own → chosen ≡ mysql_map_in d own → 19 ≤ length chosen
chosen_long d own chosen long is = rw is (map_long d own long)

newest_given : (a b : Bool) (own mysql made : List ℕ) → newest_by (newest_if a b) own mysql made ≡ (if b then made else (if a then mysql else own))
newest_given true true own mysql made = refl
newest_given true false own mysql made = refl
newest_given false true own mysql made = refl
newest_given false false own mysql made = refl

pub map_given : (a b : Bool) (tables : Tables) (d : Described) (own mysql made chosen : List ℕ) → is_table_map own ≡ true → 19 ≤ length own → (if a then mysql else own) ≡ mysql_map_in d own → chosen ≡ (if a then mysql else own)
    → (if b then made else chosen) ≡ completed tables d.has_checksum chosen → newest_by (newest_if a b) own mysql made ≡ completed_event tables d.has_checksum (mysql_event d own)
map_given a b tables d own mysql made chosen is_map long first is second =
    let event : mysql_event d own ≡ mysql_map_in d own = rw is_map refl in
    let same : chosen ≡ mysql_event d own = is ∙ first ∙ sym event in
    let still : is_table_map (mysql_event d own) ≡ true = ap (λ (n : ℕ). n == 19) (ap (header_field 4 1) event ∙ map_type d own long) ∙ is_map in
    let by_schema : completed_event tables d.has_checksum (mysql_event d own) ≡ completed tables d.has_checksum (mysql_event d own) = rw still refl in
    newest_given a b own mysql made
    ∙ ap (λ (c : List ℕ). if b then made else c) (sym is)
    ∙ second
    ∙ ap (completed tables d.has_checksum) same
    ∙ sym by_schema
