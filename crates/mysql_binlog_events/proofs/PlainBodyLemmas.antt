-- Bodies with a fixed layout, table maps and format descriptions are read as the value that they encode.
use Rattle.std.proofs.Common.{◌≡◌, ◌<◌, ◌≤◌, ◌++◌, ◌∙◌, inl, inr, ℕ, List, [], length, refl, sym, ap, subst, arith, append_assoc, eq-eqb, Option, Some, None, Bool, true, false, true≢false}
use Rattle.std.specs.Prelude.{not, ◌==◌}
use Rattle.std.proofs.lemmas.List.{take_all}
use Rattle.std.proofs.lemmas.Bool.Decides.{eqb_tells}
use Rattle.wire_buf.specs.Encoding.{Begins, Reads, AreBytes, Alone, Both}
use Rattle.wire_buf.specs.Numbers.{IsLongString, IsLenenc, IsShortString}
use Rattle.rows_table_map.specs.TableMaps.{IsTableMap, Skipped, little_endian, id_width}
use Rattle.rows_table_map.proofs.TableMapParts as map
use Rattle.events_bodies.specs.FixedBodies.{Rand, IsRand, Intvar, IsIntvar, BeginLoadQuery, IsBeginLoadQuery, Incident, IsIncident, RowsQuery, IsRowsQuery}
use Rattle.events_frames.specs.RotateAndXid.{Rotate, IsRotate, Xid, IsXid}
use Rattle.std.specs.Option.{option_map}
use Rattle.byteorder.specs.Endian.{little_number}
use Rattle.byteorder.specs.Numbers.{little_from-lt}
use Rattle.wire_buf.proofs.WritingLemmas.{AreBytes-prefix}
use Rattle.rows_table_map.proofs.MapLawLemmas.{first_bytes, second_bytes}
use Rattle.events_bodies.specs.UserVars.{UserValue, UserVar, written_value, written_user_var, IsLastByte, IsUserValue, IsNullable, IsUserVar, IsValueUnless}
use Rattle.events_bodies.proofs.UserVarLemmas.{last_none, last_some, null_reads, value_reads}
use Rattle.mysql_binlog_events.specs.ReadAgain.{IsReadAsEncoded}
use Rattle.mysql_binlog_events.proofs.OneWayLemmas.{one_number, one_signed, one_text, one_skipped, one_all, one_lenenc, one_short, one_long, one_lenenc_string, one_both, one_as, one_led}

pub one_rotate : IsReadAsEncoded IsRotate
one_rotate = one_as (λ (r : Rotate). (r.position, r.name)) (λ p. record { position = p.0; name = p.1 }) (λ r. refl) (one_both (one_number 8) one_all)

pub one_xid : IsReadAsEncoded IsXid
one_xid = one_as (λ (x : Xid). x.xid) (λ n. record { xid = n }) (λ x. refl) (one_number 8)

pub one_rand : IsReadAsEncoded IsRand
one_rand = one_as (λ (r : Rand). (r.seed1, r.seed2)) (λ p. record { seed1 = p.0; seed2 = p.1 }) (λ r. refl) (one_both (one_number 8) (one_number 8))

pub one_intvar : IsReadAsEncoded IsIntvar
one_intvar = one_as (λ (v : Intvar). (v.subtype, v.value)) (λ p. record { subtype = p.0; value = p.1 }) (λ v. refl) (one_both (one_number 1) (one_number 8))

pub one_block : IsReadAsEncoded IsBeginLoadQuery
one_block = one_as (λ (b : BeginLoadQuery). (b.file_id, b.block_data)) (λ p. record { file_id = p.0; block_data = p.1 }) (λ b. refl) (one_both (one_number 4) one_all)

pub one_incident : IsReadAsEncoded IsIncident
one_incident = one_as (λ (i : Incident). (i.incident_type, i.message)) (λ p. record { incident_type = p.0; message = p.1 }) (λ i. refl) (one_both (one_number 2) one_short)

pub one_rows_query : IsReadAsEncoded IsRowsQuery
one_rows_query = one_as (λ (q : RowsQuery). (tt, q.query)) (λ p. record { query = p.1 }) (λ q. refl) (one_both one_skipped one_all)

-- ---- user variables

one_last : IsReadAsEncoded IsLastByte
one_last None x r t =
    let all : x ≡ r = t.joined ∙ ap (λ (l : List ℕ). l ++ r) t.is.0 in
    subst (λ (y : List ℕ). Reads IsLastByte None x y) all (last_none x (all ∙ t.is.1))
one_last (Some b) x r t = last_some b x r (one_number 1 b x r (record { bytes = t.bytes; joined = t.joined; is = t.is }))

one_value : IsReadAsEncoded IsUserValue
one_value =
    one_as (λ (v : UserValue). (v.value_type, (v.charset, (v.value, v.flags)))) (λ p. record { value_type = p.0; charset = p.1.0; value = p.1.1.0; flags = p.1.1.1 }) (λ v. refl)
    (one_both (one_signed 1) (one_both (one_number 4) (one_both one_long one_last)))

-- the byte before a value that says whether it is NULL
magic_at : (v : Option UserValue) (x r : List ℕ) (t : Begins (IsNullable v) x r) → Begins (little_endian 1 t.is.null_byte) x (t.is.encoding_is.suffix ++ r)
magic_at v x r t = record {
  bytes = t.is.encoding_is.prefix;
  joined = t.joined ∙ ap (λ (l : List ℕ). l ++ r) t.is.encoding_is.joined ∙ append_assoc t.is.encoding_is.prefix t.is.encoding_is.suffix r;
  is = t.is.encoding_is.first_is;
}

not_null : (b : Bool) (bytes rest : List ℕ) → IsValueUnless (not b) None bytes rest → (b ≡ false) × (bytes ≡ [])
not_null true bytes rest h = absurd h
not_null false bytes rest h = (refl, h)

is_value : (b : Bool) (v : UserValue) (bytes rest : List ℕ) → IsValueUnless (not b) (Some v) bytes rest → (b ≡ true) × IsUserValue v bytes rest
is_value true v bytes rest h = (refl, h)
is_value false v bytes rest h = absurd h

one_nullable : IsReadAsEncoded IsNullable
one_nullable None x r t =
    let none = not_null (t.is.null_byte == 0) t.is.encoding_is.suffix r t.is.encoding_is.second_is in
    let other : t.is.null_byte ≡ 0 → ⊥ = λ zero. true≢false (sym (eq-eqb t.is.null_byte 0 zero) ∙ none.0) in
    let at : Begins (little_endian 1 t.is.null_byte) x r = subst (λ (l : List ℕ). Begins (little_endian 1 t.is.null_byte) x (l ++ r)) none.1 (magic_at None x r t) in
    null_reads t.is.null_byte x r other (one_number 1 t.is.null_byte x r at)
one_nullable (Some v) x r t =
    let some = is_value (t.is.null_byte == 0) v t.is.encoding_is.suffix r t.is.encoding_is.second_is in
    let zero : t.is.null_byte ≡ 0 = elim (eqb_tells t.is.null_byte 0) [ inl e ↦ e.1 | inr f ↦ absurd (true≢false (sym some.0 ∙ f.0)) ] in
    let value : Begins (IsUserValue v) (t.is.encoding_is.suffix ++ r) r = record { bytes = t.is.encoding_is.suffix; joined = refl; is = some.1 } in
    value_reads t.is.null_byte v x (t.is.encoding_is.suffix ++ r) r zero (one_number 1 t.is.null_byte x _ (magic_at (Some v) x r t)) (one_value v _ r value)

pub one_user_var : IsReadAsEncoded IsUserVar
one_user_var = one_as (λ (u : UserVar). (u.name, u.value)) (λ p. record { name = p.0; value = p.1 }) (λ u. refl) (one_both one_long one_nullable)

-- ---- table maps

pub one_table_map : (post_header : ℕ) → IsReadAsEncoded (IsTableMap post_header)
one_table_map post_header =
    one_led map.head map.tail map.whole (λ t. refl)
    (Both (little_endian (id_width post_header)) (Both (little_endian 2) (Both (Alone IsShortString) (Both Skipped (Both (Alone IsShortString) (Both Skipped (Alone IsLenenc)))))))
    map.second
    (one_both (one_number (id_width post_header)) (one_both (one_number 2) (one_both one_short (one_both one_skipped (one_both one_short (one_both one_skipped one_lenenc))))))
    (λ h. one_both (one_text _) (one_both one_lenenc_string (one_both (one_text _) one_all)))

-- ---- a variable that was read is written completely

long_fits : (name bytes : List ℕ) → AreBytes bytes → IsLongString name bytes → length name ≤ 4294967295
long_fits name bytes are h =
    let below : little_number 4 h.prefix < 4294967296 = little_from-lt 0 4 h.prefix (AreBytes-prefix h.prefix name (subst AreBytes h.joined are)) in
    let count : length name ≡ little_number 4 h.prefix = h.prefix_is.value_is in
    omega (arith, below, count)

value_whole : (v : UserValue) (bytes rest : List ℕ) → AreBytes bytes → IsUserValue v bytes rest → written_value v ≡ v
value_whole v bytes rest are h =
    let after = second_bytes h.second_is (second_bytes h are) in
    let few = long_fits v.value _ (first_bytes h.second_is.second_is after) h.second_is.second_is.first_is in
    rw (take_all 4294967295 v.value few) refl

nullable_whole : (v : Option UserValue) (bytes rest : List ℕ) → AreBytes bytes → IsNullable v bytes rest → option_map written_value v ≡ v
nullable_whole None bytes rest are h = refl
nullable_whole (Some v) bytes rest are h =
    let some = is_value (h.null_byte == 0) v h.encoding_is.suffix rest h.encoding_is.second_is in
    ap (λ (w : UserValue). Some w) (value_whole v h.encoding_is.suffix rest (second_bytes h.encoding_is are) some.1)

pub user_var_whole : (u : UserVar) (bytes rest : List ℕ) → AreBytes bytes → IsUserVar u bytes rest → written_user_var u ≡ u
user_var_whole u bytes rest are h =
    let name = long_fits u.name h.prefix (first_bytes h are) h.first_is in
    let value = nullable_whole u.value h.suffix rest (second_bytes h are) h.second_is in
    rw (take_all 4294967295 u.name name, value) refl
