-- The encoding of a GTID event is read as the same event.
use Rattle.std.proofs.lemmas.Bool.Decides.{leb_tells}
use Rattle.std.proofs.Common.{◌≡◌, ◌<◌, ◌≤◌, ◌++◌, ◌∙◌, ℕ, List, [], refl, sym, ap, subst, arith, inl, inr, true≢false, append-nil, append_assoc, Option, Some, None, Bool, true, false}
use Rattle.std.specs.Bool.{⊤}
use Rattle.wire_buf.specs.Encoding.{Begins, Reads, Lacks, Alone}
use Rattle.wire_buf.specs.Numbers.{IsLenenc}
use Rattle.wire_buf.proofs.EncodingLemmas.{Reads-is}
use Rattle.wire_fields.specs.ByteStrings.{IsAll}
use Rattle.rows_table_map.specs.TableMaps.{little_endian}
use Rattle.events_bodies.specs.Stamps.{AnnouncedPair, IsStamp, IsAnnounced, top_bit}
use Rattle.events_bodies.specs.Gtids.{GtidBody, IsClock, IsGtid}
use Rattle.events_bodies.proofs.AnnouncedPairLemmas.{alone_reads, twice_reads}
use Rattle.events_bodies.proofs.OptionalLemmas.{Level, Tail, LinkRow, LinkSettled, last_level, last_runs, link_level, link_runs}
use Rattle.events_bodies.proofs.GtidLemmas.{IsHead, Ticket, Version, Length, Time, ticket_on, version_on, length_on, time_on, fields_on, TicketSettled, VersionSettled, LengthSettled, TimeSettled, FieldsSettled, FieldsRow, gtid_reads, head, fields}
use Rattle.mysql_binlog_events.specs.ReadAgain.{IsReadAsEncoded}
use Rattle.mysql_binlog_events.proofs.OneWayLemmas.{one_number, one_text, one_lenenc, one_both}

-- ---- pairs of numbers, the first of which announces the second

unannounced : (n : ℕ) (b : Bool) (bytes rest : List ℕ) → IsAnnounced n b None bytes rest → (b ≡ false) × (bytes ≡ [])
unannounced n true bytes rest h = absurd h
unannounced n false bytes rest h = (refl, h)

announced : (n : ℕ) (b : Bool) (v : ℕ) (bytes rest : List ℕ) → IsAnnounced n b (Some v) bytes rest → (b ≡ true) × little_endian n v bytes rest
announced n true v bytes rest h = (refl, h)
announced n false v bytes rest h = absurd h

with_magic_at : (n : ℕ) (s : AnnouncedPair) (x r : List ℕ) (t : Begins (IsStamp n s) x r) → Begins (little_endian n t.is.first_number) x (t.is.encoding_is.suffix ++ r)
with_magic_at n s x r t = record {
  bytes = t.is.encoding_is.prefix;
  joined = t.joined ∙ ap (λ (l : List ℕ). l ++ r) t.is.encoding_is.joined ∙ append_assoc t.is.encoding_is.prefix t.is.encoding_is.suffix r;
  is = t.is.encoding_is.first_is;
}

stamp_parts : (n i : ℕ) (o : Option ℕ) (x r : List ℕ) → Begins (IsStamp n (record { immediate = i; original = o })) x r → Reads (IsStamp n) (record { immediate = i; original = o }) x r
stamp_parts n i None x r t =
    let none = unannounced n _ t.is.encoding_is.suffix r t.is.encoding_is.second_is in
    let at : Begins (little_endian n t.is.first_number) x r = subst (λ (l : List ℕ). Begins (little_endian n t.is.first_number) x (l ++ r)) none.1 (with_magic_at n _ x r t) in
    let low : t.is.first_number < top_bit n = elim (leb_tells (top_bit n) t.is.first_number) [ inl y ↦ absurd (true≢false (sym y.0 ∙ none.0)) | inr f ↦ omega (arith, f.1) ] in
    Reads-is (λ j. record { immediate = (sym t.is.immediate_is) j; original = None }) (alone_reads n t.is.first_number x r low (one_number n t.is.first_number x r at))
stamp_parts n i (Some v) x r t =
    let some = announced n _ v t.is.encoding_is.suffix r t.is.encoding_is.second_is in
    let high : top_bit n ≤ t.is.first_number = elim (leb_tells (top_bit n) t.is.first_number) [ inl y ↦ y.1 | inr f ↦ absurd (true≢false (sym some.0 ∙ f.0)) ] in
    let second : Begins (little_endian n v) (t.is.encoding_is.suffix ++ r) r = record { bytes = t.is.encoding_is.suffix; joined = refl; is = some.1 } in
    Reads-is (λ j. record { immediate = (sym t.is.immediate_is) j; original = Some v })
    (twice_reads n t.is.first_number v x (t.is.encoding_is.suffix ++ r) r high (one_number n t.is.first_number x _ (with_magic_at n _ x r t)) (one_number n v _ r second))

one_stamp : (n : ℕ) → IsReadAsEncoded (IsStamp n)
one_stamp n s = stamp_parts n s.immediate s.original

one_clock : IsReadAsEncoded IsClock
one_clock v x r t =
    let p = one_both (one_number 1) (one_both (one_number 8) (one_number 8)) (2, (v.last_committed, v.sequence_number)) x r (record { bytes = t.bytes; joined = t.joined; is = t.is }) in
    record {
      begins = t;
      only = λ w s u.
          let o = p.only (2, (w.last_committed, w.sequence_number)) s (record { bytes = u.bytes; joined = u.joined; is = u.is }) in
          (o.0, (λ i. record { last_committed = (o.1 i).1.0; sequence_number = (o.1 i).1.1 }));
    }

-- ---- optional fields in order

abbrev OneTail : {T : Type 0} → (T → List ℕ → List ℕ → Type 0) → (T → Type 0) → Type 0
OneTail {T} row settled = (t : T) (x : List ℕ) → Begins (Tail row settled t) x [] → Reads (Tail row settled) t x []

last_one : OneTail IsAll (λ l. ⊤)
last_one v x t =
    let all : x ≡ v = t.joined ∙ append-nil t.bytes ∙ sym t.is.0.bytes_are in
    Reads-is all (last_runs true x)

module _ {A T : Type 0} (encoding : A → List ℕ → List ℕ → Type 0) (row : T → List ℕ → List ℕ → Type 0) (later : T → Bool) (left : T → List ℕ) (settled : T → Type 0)
    (on : Option A × T → Bool) (on_none : (t : T) → on (None, t) ≡ later t) (on_some : (v : A) (t : T) → on (Some v, t) ≡ true) where
  link_one : Level row later left → IsReadAsEncoded encoding → OneTail row settled → OneTail (LinkRow encoding row) (LinkSettled encoding later left settled)
  link_one level one tail (None, t) x b =
      let h = b.is.0 in
      let none = b.is.1.0 in
      let back : x ≡ h.suffix = b.joined ∙ append-nil b.bytes ∙ h.joined ∙ ap (λ (l : List ℕ). l ++ h.suffix) h.first_is in
      let at : left t ≡ x = (level.ends t h.suffix [] none h.second_is).0 ∙ sym back in
      link_runs encoding row later left settled on on_none on_some level true None t x x (subst (Lacks encoding) at b.is.1.1, refl) (none, at)
  link_one level one tail (Some v, t) x b =
      let h = b.is.0 in
      let prefix : Begins (encoding v) x (h.suffix ++ []) = record {
        bytes = h.prefix;
        joined = b.joined ∙ ap (λ (l : List ℕ). l ++ []) h.joined ∙ append_assoc h.prefix h.suffix [];
        is = h.first_is;
      } in
      let others : Begins (Tail row settled t) (h.suffix ++ []) [] = record { bytes = h.suffix; joined = refl; is = (h.second_is, b.is.1) } in
      link_runs encoding row later left settled on on_none on_some level true (Some v) t x (h.suffix ++ []) (one v x (h.suffix ++ []) prefix) (tail t (h.suffix ++ []) others)

abbrev TicketRow : Ticket → List ℕ → List ℕ → Type 0
TicketRow = LinkRow (little_endian 8) IsAll

abbrev VersionRow : Version → List ℕ → List ℕ → Type 0
VersionRow = LinkRow (IsStamp 4) TicketRow

abbrev LengthRow : Length → List ℕ → List ℕ → Type 0
LengthRow = LinkRow (Alone IsLenenc) VersionRow

abbrev TimeRow : Time → List ℕ → List ℕ → Type 0
TimeRow = LinkRow (IsStamp 7) LengthRow

ticket_level : Level TicketRow ticket_on (λ p. p.1)
ticket_level = link_level (little_endian 8) IsAll (λ l. false) (λ l. l) (λ l. ⊤) ticket_on (λ t. refl) (λ v t. refl) last_level

version_level : Level VersionRow version_on (λ p. p.1.1)
version_level = link_level (IsStamp 4) TicketRow ticket_on (λ p. p.1) TicketSettled version_on (λ t. refl) (λ v t. refl) ticket_level

length_level : Level LengthRow length_on (λ p. p.1.1.1)
length_level = link_level (Alone IsLenenc) VersionRow version_on (λ p. p.1.1) VersionSettled length_on (λ t. refl) (λ v t. refl) version_level

time_level : Level TimeRow time_on (λ p. p.1.1.1.1)
time_level = link_level (IsStamp 7) LengthRow length_on (λ p. p.1.1.1) LengthSettled time_on (λ t. refl) (λ v t. refl) length_level

fields_one : OneTail FieldsRow FieldsSettled
fields_one =
    let ticket = link_one (little_endian 8) IsAll (λ l. false) (λ l. l) (λ l. ⊤) ticket_on (λ t. refl) (λ v t. refl) last_level (one_number 8) last_one in
    let version = link_one (IsStamp 4) TicketRow ticket_on (λ p. p.1) TicketSettled version_on (λ t. refl) (λ v t. refl) ticket_level (one_stamp 4) ticket in
    let length = link_one (Alone IsLenenc) VersionRow version_on (λ p. p.1.1) VersionSettled length_on (λ t. refl) (λ v t. refl) version_level one_lenenc version in
    let time = link_one (IsStamp 7) LengthRow length_on (λ p. p.1.1.1) LengthSettled time_on (λ t. refl) (λ v t. refl) length_level (one_stamp 7) length in
    link_one IsClock TimeRow time_on (λ p. p.1.1.1.1) TimeSettled fields_on (λ t. refl) (λ v t. refl) time_level one_clock time

one_head : IsReadAsEncoded IsHead
one_head = one_both (one_number 1) (one_both (one_text 16) (one_number 8))

gtid_at_end : (g : GtidBody) (x : List ℕ) → Begins (IsGtid g) x [] → Reads IsGtid g x []
gtid_at_end g x t =
    let h = t.is.0 in
    let prefix : Begins (IsHead (head g)) x (h.suffix ++ []) = record {
      bytes = h.prefix;
      joined = t.joined ∙ ap (λ (l : List ℕ). l ++ []) h.joined ∙ append_assoc h.prefix h.suffix [];
      is = h.first_is;
    } in
    let others : Begins (Tail FieldsRow FieldsSettled (fields g)) (h.suffix ++ []) [] = record { bytes = h.suffix; joined = refl; is = (h.second_is, t.is.1) } in
    gtid_reads (head g) (fields g) x (h.suffix ++ []) (one_head (head g) x (h.suffix ++ []) prefix) (fields_one (fields g) (h.suffix ++ []) others)

pub one_gtid : IsReadAsEncoded IsGtid
one_gtid g x r t =
    let ends : r ≡ [] = t.is.0.second_is.second_is.second_is.second_is.second_is.second_is.ends in
    subst (λ (s : List ℕ). Reads IsGtid g x s) (sym ends) (gtid_at_end g x (subst (λ (s : List ℕ). Begins (IsGtid g) x s) ends t))
