-- A law of each source of completed table maps: it gives something.
use Rattle.std.proofs.Common.{◌≡◌, inl, inr, ℕ, ◌<◌, ◌⊎◌, Bool, true, false, suc, zero, List, ◌++◌, length, take, drop, Option, refl, subst, arith}
use Rattle.std.proofs.lemmas.List.{take-append-drop}
use Rattle.std.proofs.Math.ListN.{length-drop}
use Rattle.events_frames.specs.Events.{has_event, header_size_field}
use Rattle.events_frames.specs.GivenEvents.{MayBe}
use Rattle.events_frames.proofs.SourceLemmas.{first_event, sizes}
use Rattle.events_replaced.specs.GivenReplacements.{checksums_after}
use Rattle.table_schemas.specs.CompletedMaps.{Tables}
use Rattle.table_schemas.specs.CompletedEvents.{AreCompleted, completed_event}
use Rattle.table_schemas.specs.MysqlEvents.{AreMysql, mysql_event}
use Rattle.table_schemas.specs.MysqlTableMaps.{described_after}
use Rattle.table_schemas.specs.declared.described.Described.{Described}
use Rattle.table_schemas.specs.CompletingStates.{GivesBy, tables_in, waiting_event}
use Rattle.table_schemas.specs.declared.completed_events.CompletedEvents.{CompletedEvents}

either : (b : Bool) → (b ≡ true) ⊎ (b ≡ false)
either true = inl refl
either false = inr refl

-- for each list of bytes something is given
abbrev AreGiven : Tables → List ℕ → Type 0
AreGiven tables own = (has_checksum : Bool) → (b : List ℕ) × AreCompleted tables has_checksum own b

given_next : (tables : Tables) (has_checksum : Bool) (own : List ℕ) → ((rest : List ℕ) → length rest < length own → AreGiven tables rest) → (b : List ℕ) × AreCompleted tables has_checksum own b
given_next tables has_checksum own earlier = by (either (has_event own))
  where
    by : (has_event own ≡ true) ⊎ (has_event own ≡ false) → (b : List ℕ) × AreCompleted tables has_checksum own b
    by (inr none) = (own, AreCompleted.completed_rest has_checksum own none)
    by (inl h) =
        let n = header_size_field own in
        let event = take n own in
        let s = sizes own h in
        let more = earlier (drop n own) (omega (arith, s.1, s.2, length-drop n own)) (checksums_after has_checksum event) in (
          completed_event tables (checksums_after has_checksum event) event ++ more.0,
          subst (λ (bytes : List ℕ). AreCompleted tables has_checksum bytes (completed_event tables (checksums_after has_checksum event) event ++ more.0)) (take-append-drop n own)
              (AreCompleted.completed_next has_checksum event (drop n own) more.0 (first_event own n h refl) more.1),
        )

given_within : (tables : Tables) (n : ℕ) (own : List ℕ) → length own < n → AreGiven tables own
given_within tables zero own few has_checksum = absurd (omega (arith, few))
given_within tables (suc n) own few has_checksum = given_next tables has_checksum own (λ rest less. given_within tables n rest (omega (arith, less, few)))

-- the same as MySQL's servers write them
abbrev AreWritten : List ℕ → Type 0
AreWritten own = (d : Described) → (b : List ℕ) × AreMysql d own b

written_next : (d : Described) (own : List ℕ) → ((rest : List ℕ) → length rest < length own → AreWritten rest) → (b : List ℕ) × AreMysql d own b
written_next d own earlier = by (either (has_event own))
  where
    by : (has_event own ≡ true) ⊎ (has_event own ≡ false) → (b : List ℕ) × AreMysql d own b
    by (inr none) = (own, AreMysql.mysql_rest d own none)
    by (inl h) =
        let n = header_size_field own in
        let event = take n own in
        let s = sizes own h in
        let more = earlier (drop n own) (omega (arith, s.1, s.2, length-drop n own)) (described_after d event) in (
          mysql_event (described_after d event) event ++ more.0,
          subst (λ (bytes : List ℕ). AreMysql d bytes (mysql_event (described_after d event) event ++ more.0)) (take-append-drop n own)
              (AreMysql.mysql_next d event (drop n own) more.0 (first_event own n h refl) more.1),
        )

written_within : (n : ℕ) (own : List ℕ) → length own < n → AreWritten own
written_within zero own few d = absurd (omega (arith, few))
written_within (suc n) own few d = written_next d own (λ rest less. written_within n rest (omega (arith, less, few)))

-- it gives something, whatever is left to the reader of the other source
pub some_completed : {S : Type 0} (newest : S → List ℕ) (Own : S → Option (List ℕ) → MayBe) → ((s : S) (left : Option (List ℕ)) → (b : List ℕ) × Own s left b) → (s : CompletedEvents S) (left : Option (List ℕ)) → (b : List ℕ) × GivesBy newest Own s left b
some_completed newest Own some s left =
    let own = some s.source left in
    let all = waiting_event newest s ++ own.0 in
    let mysql = written_within (suc (length all)) all (omega arith) s.described in
    let given = given_within (tables_in s) (suc (length mysql.0)) mysql.0 (omega arith) s.described.has_checksum in
    (given.0, record { own = own.0; gives = own.1; mysql = mysql.0; are_mysql = mysql.1; are = given.1 })
