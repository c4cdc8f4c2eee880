-- What may be given after a step.
use Rattle.std.proofs.Common.{◌≡◌, inl, inr, ℕ, ◌<◌, ◌≤◌, ◌⊎◌, Bool, true, false, true≢false, List, [], ◌++◌, length, Option, refl, sym, ap, subst, ◌∙◌, arith, leb, ltb}
use Rattle.std.specs.Prelude.{◌&&◌, if◌then◌else◌}
use Rattle.std.proofs.lemmas.Bool.{leb-true, le-leb, lt-leb, ltb-true}
use Rattle.std.proofs.lemmas.List.{length-append}
use Rattle.events_frames.specs.Events.{has_event, header_size_field, is_broken, IsWholeEvent}
use Rattle.events_frames.specs.GivenEvents.{MayBe, BeginsWithWaiting, GivesEvent, GivesEnd, GivesNone}
use Rattle.events_frames.specs.Frames.{IsReadCause}
use Rattle.events_frames.proofs.FrameLemmas.{size-prefix}
use Rattle.events_frames.proofs.SourceLemmas.{sizes}
use Rattle.events_frames.specs.declared.event_error.EventError.{EventError}
use Rattle.events_frames.specs.declared.event_error.EventError.TheVariants as faults
use Rattle.events_replaced.specs.GivenReplacements.{checksums_after}
use Rattle.table_schemas.specs.CompletedMaps.{Tables}
use Rattle.table_schemas.specs.CompletedEvents.{AreCompleted, GivesCompleted, completed_event}
use Rattle.table_schemas.specs.MysqlEvents.{AreMysql, mysql_event}
use Rattle.table_schemas.specs.MysqlTableMaps.{described_after}
use Rattle.table_schemas.specs.CompletingStates.{GivesBy, GivesNow, WaitsNow, newest_by, at_hand_by, newest_after, newest_of, at_hand_of, tables_in}
use Rattle.table_schemas.specs.declared.completed_events.CompletedEvents.{CompletedEvents}
use Rattle.table_schemas.specs.declared.described.Described.{Described}
use Rattle.table_schemas.proofs.MysqlLemmas.{described_checksums, mysql_checksums, mysql_whole}
use Rattle.table_schemas.proofs.WholeMapLemmas.{given_whole}

-- ---- bytes that begin with no event

begins_event : (e r : List ℕ) → IsWholeEvent e → has_event (e ++ r) ≡ true
begins_event e r h =
    let s = sizes e h.whole in
    let size : header_size_field (e ++ r) ≡ length e = size-prefix e r s.0 ∙ h.size in
    rw (size, le-leb 19 (length (e ++ r)) (omega (arith, length-append e r, s.0)), le-leb 19 (length e) s.0, le-leb (length e) (length (e ++ r)) (omega (arith, length-append e r))) refl

-- they are given as they are
rest_is : {tables : Tables} {has_checksum : Bool} {own b : List ℕ} → AreCompleted tables has_checksum own b → has_event own ≡ false → b ≡ own
rest_is (AreCompleted.completed_rest cs own n) none = refl
rest_is (AreCompleted.completed_next cs event own rest whole more) none = absurd (true≢false (sym (begins_event event own whole) ∙ none))

mysql_rest_is : {d : Described} {own b : List ℕ} → AreMysql d own b → has_event own ≡ false → b ≡ own
mysql_rest_is (AreMysql.mysql_rest d own n) none = refl
mysql_rest_is (AreMysql.mysql_next d event own rest whole more) none = absurd (true≢false (sym (begins_event event own whole) ∙ none))

both_rest : {tables : Tables} {has_checksum : Bool} {d : Described} {own mysql b : List ℕ} → AreMysql d own mysql → AreCompleted tables has_checksum mysql b → has_event own ≡ false → b ≡ own
both_rest are_mysql are none =
    let same = mysql_rest_is are_mysql none in
    rest_is are (ap has_event same ∙ none) ∙ same

-- ---- one more event

module _ (tables : Tables) (d : Described) (event own mysql rest : List ℕ) (whole : IsWholeEvent event) (are_mysql : AreMysql (described_after d event) own mysql) (are : AreCompleted tables (described_after d event).has_checksum mysql rest) where
  and_mysql : AreMysql d (event ++ own) (mysql_event (described_after d event) event ++ mysql)
  and_mysql = AreMysql.mysql_next d event own mysql whole are_mysql

  and_completed : AreCompleted tables d.has_checksum (mysql_event (described_after d event) event ++ mysql) (completed_event tables (described_after d event).has_checksum (mysql_event (described_after d event) event) ++ rest)
  and_completed =
      let after = described_after d event in
      let m = mysql_event after event in
      let same : checksums_after d.has_checksum m ≡ after.has_checksum = mysql_checksums d.has_checksum after event (sizes event whole.whole).0 ∙ sym (described_checksums d event) in
      subst (λ (b : Bool). AreCompleted tables d.has_checksum (m ++ mysql) (completed_event tables b m ++ rest)) same
      (AreCompleted.completed_next d.has_checksum m mysql rest (mysql_whole after event whole) (subst (λ (b : Bool). AreCompleted tables b mysql rest) (sym same) are))

and_two : (a b : Bool) → (a && b) ≡ true → (a ≡ true) × (b ≡ true)
and_two true true h = (refl, refl)
and_two true false h = absurd cc
and_two false b h = absurd cc

-- a broken header begins no event
broken_has_none : (b x : List ℕ) → is_broken b ≡ true → has_event (b ++ x) ≡ false
broken_has_none b x h =
    let t = and_two (leb 19 (length b)) (ltb (header_size_field b) 19) h in
    let long : 19 ≤ length b = leb-true 19 (length b) t.0 in
    let longer : 19 ≤ length (b ++ x) = omega (arith, length-append b x) in
    let low : header_size_field b < 19 = ltb-true (header_size_field b) 19 t.1 in
    rw (size-prefix b x long, le-leb 19 (length (b ++ x)) longer, lt-leb 19 (header_size_field b) low) refl

-- ---- a call of the other source, if no event waits

module _ (Old New : MayBe) (tables : Tables) (d : Described) (waits : Bool) (before now : List ℕ) (none : waits ≡ false) where
  Start : MayBe
  Start = GivesCompleted Old tables d (if waits then before else [])

  Then : MayBe
  Then = GivesCompleted New tables d (if waits then now else [])

  pub to_end : (event waiting : List ℕ) → GivesEnd Old New event waiting → GivesEnd (GivesCompleted Old tables d (if waits then before else [])) (GivesCompleted New tables d (if waits then now else [])) [] waiting
  to_end event waiting h = record {
    none = refl;
    was = rw none (record { own = waiting; gives = h.was; mysql = waiting; are_mysql = AreMysql.mysql_rest d waiting h.no_event; are = AreCompleted.completed_rest d.has_checksum waiting h.no_event });
    is = rw none (record { own = waiting; gives = h.is; mysql = waiting; are_mysql = AreMysql.mysql_rest d waiting h.no_event; are = AreCompleted.completed_rest d.has_checksum waiting h.no_event });
    no_event = h.no_event;
    not_broken = h.not_broken;
  }

  unchanged : ((own : List ℕ) → New own → Old own) → (rest : List ℕ) → GivesCompleted New tables d (if waits then now else []) rest → GivesCompleted Old tables d (if waits then before else []) rest
  unchanged same rest h = let k = rw none at h in rw none (record { own = k.own; gives = same k.own k.gives; mysql = k.mysql; are_mysql = k.are_mysql; are = k.are })

  begins_broken : (waiting : List ℕ) → is_broken waiting ≡ true → BeginsWithWaiting New waiting → BeginsWithWaiting (GivesCompleted New tables d (if waits then now else [])) waiting
  begins_broken waiting broken begins rest h =
      let k = rw none at h in
      let b = begins k.own k.gives in
      let no : has_event k.own ≡ false = ap has_event b.1 ∙ broken_has_none waiting b.0 broken in
      (b.0, both_rest k.are_mysql k.are no ∙ b.1)

  pub to_error : (failed : Bool) (event waiting own mysql made : List ℕ) (fault : EventError) → GivesNone failed Old New event waiting fault
      → GivesNone failed (GivesCompleted Old tables d (if waits then before else [])) (GivesCompleted New tables d (if waits then now else [])) (newest_by (newest_after fault) own mysql made) (at_hand_by (newest_after fault) waiting) fault
  to_error failed event waiting own mysql made faults.Frame h = broken h.cause
    where
      broken : ((faults.Frame ≡ faults.Frame) × (is_broken waiting ≡ true)) ⊎ IsReadCause failed faults.Frame
          → GivesNone failed (GivesCompleted Old tables d (if waits then before else [])) (GivesCompleted New tables d (if waits then now else [])) [] waiting faults.Frame
      broken (inl k) = record { none = refl; before = unchanged h.before; begins = begins_broken waiting k.1 h.begins; cause = inl (refl, k.1) }
      broken (inr (inl k)) = absurd (cc)
      broken (inr (inr k)) = absurd (let e = k.0 in cc)
  to_error failed event waiting own mysql made fault h = record { none = refl; before = unchanged h.before; begins = λ rest r. (rest, refl); cause = why h.cause }
    where
      why : ((fault ≡ faults.Frame) × (is_broken waiting ≡ true)) ⊎ IsReadCause failed fault → ((fault ≡ faults.Frame) × (is_broken [] ≡ true)) ⊎ IsReadCause failed fault
      why (inl k) = absurd (let e = k.0 in cc)
      why (inr k) = inr k

  module _ (event waiting : List ℕ) (frame : GivesEvent Old New event waiting) where
    -- its event is given
    pub to_next : (after : Described) (made : List ℕ) → after ≡ described_after d event → made ≡ completed_event tables after.has_checksum (mysql_event after event)
        → GivesEvent (GivesCompleted Old tables d (if waits then before else [])) (GivesCompleted New tables after []) made []
    to_next after made is_after is_made = record {
      whole = rw is_made (given_whole tables after.has_checksum (mysql_event after event) (mysql_whole after event frame.whole));
      before = λ rest h. rw (none, is_made, is_after)
          (record {
            own = event ++ h.own;
            gives = frame.before h.own h.gives;
            mysql = mysql_event (described_after d event) event ++ h.mysql;
            are_mysql = and_mysql tables d event h.own h.mysql rest frame.whole (rw is_after at h.are_mysql) (rw is_after at h.are);
            are = and_completed tables d event h.own h.mysql rest frame.whole (rw is_after at h.are_mysql) (rw is_after at h.are);
          });
      begins = λ rest h. (rest, refl);
    }

    -- memory ran out, and its event waits
    pub to_waits : (failed : Bool) → GivesNone failed (GivesCompleted Old tables d (if waits then before else [])) (GivesCompleted New tables d event) [] [] faults.Memory
    to_waits failed = record {
      none = refl;
      before = λ rest h. rw none (record { own = event ++ h.own; gives = frame.before h.own h.gives; mysql = h.mysql; are_mysql = h.are_mysql; are = h.are });
      begins = λ rest h. (rest, refl);
      cause = inr (inl refl);
    }

-- ---- an event that waits

module _ (Own : MayBe) (tables : Tables) (d : Described) (waits : Bool) (event : List ℕ) (some : waits ≡ true) where
  pub waiting_given : IsWholeEvent event → (after : Described) (made : List ℕ) → after ≡ described_after d event → made ≡ completed_event tables after.has_checksum (mysql_event after event)
      → GivesEvent (GivesCompleted Own tables d (if waits then event else [])) (GivesCompleted Own tables after []) made []
  waiting_given whole after made is_after is_made = record {
    whole = rw is_made (given_whole tables after.has_checksum (mysql_event after event) (mysql_whole after event whole));
    before = λ rest h. rw (some, is_made, is_after)
        (record {
          own = h.own;
          gives = h.gives;
          mysql = mysql_event (described_after d event) event ++ h.mysql;
          are_mysql = and_mysql tables d event h.own h.mysql rest whole (rw is_after at h.are_mysql) (rw is_after at h.are);
          are = and_completed tables d event h.own h.mysql rest whole (rw is_after at h.are_mysql) (rw is_after at h.are);
        });
    begins = λ rest h. (rest, refl);
  }

  pub still_waits : (failed : Bool) → GivesNone failed (GivesCompleted Own tables d (if waits then event else [])) (GivesCompleted Own tables d event) [] [] faults.Memory
  still_waits failed = record { none = refl; before = λ rest h. rw some h; begins = λ rest h. (rest, refl); cause = inr (inl refl) }

-- ---- the state after a step

module _ {S : Type 0} (newest : S → List ℕ) (Own : S → Option (List ℕ) → MayBe) (at_hand : S → List ℕ) (s t : CompletedEvents S) (left : Option (List ℕ)) (Start : MayBe) where
  pub event_given : (after : Described) (n : GivesNow newest after s t) → GivesEvent Start (GivesCompleted (Own s.source left) (tables_in s) after []) (newest_of newest t) [] → GivesEvent Start (GivesBy newest Own t left) (newest_of newest t) (at_hand_of at_hand t)
  event_given after n e = record {
    whole = e.whole;
    before = λ rest h. e.before rest (rw (n.source, n.tables, n.described_is, n.given) at h);
    begins = λ rest h. rw (n.at_hand at_hand) (rest, refl);
  }

  pub event_waits : (failed : Bool) (n : WaitsNow s t) → GivesNone failed Start (GivesCompleted (Own s.source left) (tables_in s) s.described (newest s.source)) [] [] faults.Memory → GivesNone failed Start (GivesBy newest Own t left) (newest_of newest t) (at_hand_of at_hand t) faults.Memory
  event_waits failed n e = record {
    none = rw n.newest refl;
    before = λ rest h. e.before rest (rw (n.source, n.tables, n.described, n.waits) at h);
    begins = λ rest h. rw n.newest (rest, refl);
    cause = rw n.newest e.cause;
  }
