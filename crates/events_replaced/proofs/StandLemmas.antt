-- Events that were appended stand for one of MariaDB's own.
use Rattle.std.proofs.Common.{◌≡◌, ◌≤◌, ◌⊎◌, inl, inr, ℕ, ◌+◌, ◌-◌, true, true≢false, List, [], ◌∷◌, ◌++◌, length, take, drop, refl, sym, ap, subst, ◌∙◌, append_assoc, arith}
use Rattle.std.specs.List.{concat}
use Rattle.std.proofs.lemmas.List.{append-nil, length-append, length-take-le}
use Rattle.std.proofs.Math.ListN.{length-drop}
use Rattle.events_replaced.specs.MadeEvents.{begin_for, gtid_body, header_made, made}
use Rattle.events_replaced.specs.CompressedEvents.{HasData, IsCompressed}
use Rattle.events_replaced.specs.StandingEvents.{AppendsContent, AppendsPlain, AppendsStandingFor, StandFor, fields_before, is_compressed, plain_number}
use Rattle.events_replaced.specs.declared.mariadb_type.MariadbType.{MariadbType}
use Rattle.events_replaced.specs.declared.mariadb_type.MariadbType.TheVariants as types
use Rattle.events_replaced.proofs.MadeLemmas.{made_joined}

-- one event was appended
one_appended : (old new one : List ℕ) → new ≡ old ++ one → new ≡ old ++ concat (one ∷ [])
one_appended old new one is = is ∙ ap (λ (l : List ℕ). old ++ l) (sym (append-nil one))

module _ (event old new : List ℕ) where
  pub annotation_stands : (t : MariadbType) → t ≡ types.ANNOTATE_ROWS_EVENT → new ≡ old ++ made 29 (0 ∷ drop 19 event) event → AppendsStandingFor t event old new
  annotation_stands t is made_is =
      let one = made 29 (0 ∷ drop 19 event) event in
      rw is (record { events = one ∷ []; stand = refl; appended = one_appended old new one made_is })

  pub ignorable_stands : (t : MariadbType) → (t ≡ types.BINLOG_CHECKPOINT_EVENT) ⊎ (t ≡ types.GTID_LIST_EVENT) → new ≡ old ++ made 28 (drop 19 event) event → AppendsStandingFor t event old new
  ignorable_stands t (inl is) made_is =
      let one = made 28 (drop 19 event) event in
      rw is (record { events = one ∷ []; stand = refl; appended = one_appended old new one made_is })
  ignorable_stands t (inr is) made_is =
      let one = made 28 (drop 19 event) event in
      rw is (record { events = one ∷ []; stand = refl; appended = one_appended old new one made_is })

  pub gtid_stands : (t : MariadbType) → t ≡ types.GTID_EVENT → 38 ≤ length event → new ≡ old ++ (made 42 (gtid_body event) event ++ concat (begin_for event)) → AppendsStandingFor t event old new
  gtid_stands t is long made_is = rw is (record { events = made 42 (gtid_body event) event ∷ begin_for event; stand = (long, refl); appended = made_is })

  -- a compressed event
  plain_one : (t : MariadbType) (a : AppendsPlain t event old new) → StandFor t event (a.plain ∷ []) → AppendsStandingFor t event old new
  plain_one t a stand = record { events = a.plain ∷ []; stand = stand; appended = one_appended old new a.plain a.appended }

  pub plain_stands : (t : MariadbType) → is_compressed t ≡ true → AppendsPlain t event old new → AppendsStandingFor t event old new
  plain_stands types.ANNOTATE_ROWS_EVENT kind a = absurd (true≢false (sym kind))
  plain_stands types.BINLOG_CHECKPOINT_EVENT kind a = absurd (true≢false (sym kind))
  plain_stands types.GTID_EVENT kind a = absurd (true≢false (sym kind))
  plain_stands types.GTID_LIST_EVENT kind a = absurd (true≢false (sym kind))
  plain_stands types.START_ENCRYPTION_EVENT kind a = absurd (true≢false (sym kind))
  plain_stands types.QUERY_COMPRESSED_EVENT kind a = plain_one types.QUERY_COMPRESSED_EVENT a (a.plain, a.is, refl)
  plain_stands types.WRITE_ROWS_COMPRESSED_EVENT_V1 kind a = plain_one types.WRITE_ROWS_COMPRESSED_EVENT_V1 a (a.plain, a.is, refl)
  plain_stands types.UPDATE_ROWS_COMPRESSED_EVENT_V1 kind a = plain_one types.UPDATE_ROWS_COMPRESSED_EVENT_V1 a (a.plain, a.is, refl)
  plain_stands types.DELETE_ROWS_COMPRESSED_EVENT_V1 kind a = plain_one types.DELETE_ROWS_COMPRESSED_EVENT_V1 a (a.plain, a.is, refl)
  plain_stands types.WRITE_ROWS_COMPRESSED_EVENT kind a = plain_one types.WRITE_ROWS_COMPRESSED_EVENT a (a.plain, a.is, refl)
  plain_stands types.UPDATE_ROWS_COMPRESSED_EVENT kind a = plain_one types.UPDATE_ROWS_COMPRESSED_EVENT a (a.plain, a.is, refl)
  plain_stands types.DELETE_ROWS_COMPRESSED_EVENT kind a = plain_one types.DELETE_ROWS_COMPRESSED_EVENT a (a.plain, a.is, refl)

-- a header, the fields before the data and the data before compression were appended
module _ (t : MariadbType) (event packed : List ℕ) (before : ℕ) (has : HasData t event packed) (fits : length packed ≤ length event) (before_is : before ≡ length event - length packed) (long : 19 ≤ before) where
  fields_len : length (fields_before event packed) + 19 ≡ before
  fields_len =
      let m = length event - length packed in
      omega (arith, length-drop 19 (take m event), length-take-le m event (omega (arith, fits)), before_is, long)

  pub plain_appended : (old first mid new zlib fields : List ℕ) (number size len : ℕ) → IsCompressed packed len zlib → number ≡ plain_number t → size ≡ before + len → first ≡ old ++ header_made number size event → fields ≡ fields_before event packed → mid ≡ first ++ fields → AppendsContent len zlib mid new
      → AppendsPlain t event old new
  plain_appended old first mid new zlib fields number size len compressed number_is size_is first_is fields_are mid_is a =
      let body = fields_before event packed ++ a.content in
      let made_is : new ≡ old ++ made (plain_number t) body event =
      made_joined old first new body event (plain_number t) size
      (first_is ∙ ap (λ (n : ℕ). old ++ header_made n size event) number_is)
      (a.appended ∙ ap (λ (l : List ℕ). l ++ a.content) (mid_is ∙ ap (λ (l : List ℕ). first ++ l) fields_are) ∙ append_assoc first (fields_before event packed) a.content)
      (omega (arith, size_is, fields_len, a.len_is, length-append (fields_before event packed) a.content)) in
      record {
        plain = made (plain_number t) body event;
        is = record {
          packed = packed;
          has = has;
          fits = omega (arith, before_is, long, fits);
          content = a.content;
          zlib = zlib;
          compressed = subst (λ (n : ℕ). IsCompressed packed n zlib) (sym a.len_is) compressed;
          decompressed = a.decompressed;
          is = refl;
        };
        appended = made_is;
      }
