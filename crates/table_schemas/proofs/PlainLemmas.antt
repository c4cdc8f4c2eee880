-- Plain events of a log that isn't MariaDB's are given as they are by an empty schema.
use Rattle.std.proofs.Common.{◌≡◌, ℕ, Bool, true, false, true≢false, List, [], refl, sym, ◌∙◌}
use Rattle.std.specs.Prelude.{if◌then◌else◌}
use Rattle.events_frames.specs.GivenEvents.{MayBe}
use Rattle.events_replaced.specs.PlainEvents.{GivesPlain, is_plain}
use Rattle.events_replaced.specs.GivenReplacements.{checksums_after, is_description}
use Rattle.events_replaced.proofs.PlainLemmas.{same_checksums}
use Rattle.table_schemas.specs.CompletedMaps.{Tables}
use Rattle.table_schemas.specs.CompletedEvents.{GivesCompleted}
use Rattle.table_schemas.specs.MysqlTableMaps.{described_after}
use Rattle.table_schemas.specs.declared.described.Described.{Described}
use Rattle.table_schemas.proofs.GivenLemmas.{to_next}
use Rattle.table_schemas.proofs.MapLemmas.{own_given}

-- a plain event is no format description
no_description : (event : List ℕ) → is_plain event ≡ true → is_description event ≡ false
no_description event plain = by (is_description event) refl
  where
    by : (b : Bool) → is_description event ≡ b → is_description event ≡ false
    by true e =
        let if_summed : true ≡ checksums_after true event = same_checksums true event plain in
        let if_not : false ≡ checksums_after false event = same_checksums false event plain in
        absurd (true≢false ((rw e at if_summed) ∙ sym (rw e at if_not)))
    by false e = e

-- what is known stays the same
same_description : (d : Described) (event : List ℕ) → is_plain event ≡ true → d ≡ described_after d event
same_description d event plain = rw (no_description event plain) refl

pub plain_given : (Old New : MayBe) (tables : Tables) (d : Described) (waits : Bool) (before now event waiting : List ℕ) → waits ≡ false → d.is_mariadb ≡ false → tables ≡ [] → GivesPlain Old New event waiting
    → GivesPlain (GivesCompleted Old tables d (if waits then before else [])) (GivesCompleted New tables d (if waits then now else [])) event []
plain_given Old New tables d waits before now event waiting none not_mariadb empty h =
    let same = own_given tables d event empty not_mariadb in
    let gives = to_next Old New tables d waits before now none event waiting h.gives d event (same_description d event h.plain) same in
    record { plain = h.plain; gives = rw none (rw none at gives) }
