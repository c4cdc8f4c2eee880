-- Writing a rows event: what is written can be read in the context of its type.
use Rattle.std.proofs.Common.{◌≡◌, ◌⊎◌, ◌<◌, ◌≤◌, ◌^◌, inl, inr, ℕ, List, length, take, refl, ap, arith, Option, Some, None, Bool, true, false}
use Rattle.std.specs.Prelude.{option_map, unwrap_or, [], ◌==◌, if◌then◌else◌}
use Rattle.std.proofs.lemmas.List.{take_all}
use Rattle.wire_buf.specs.Encoding.{◌⨾◌, Alone, Both}
use Rattle.wire_buf.specs.Numbers.{IsLenenc}
use Rattle.wire_buf.specs.Writing.{WritesField, WriteFails}
use Rattle.wire_buf.specs.declared.fault.WireFault.{WireFault}
use Rattle.wire_buf.specs.declared.fault.WireFault.TheVariants.{Memory, Form}
use Rattle.wire_fields.specs.RawTexts.{raw_string}
use Rattle.wire_fields.specs.ByteStrings.{IsAll}
use Rattle.wire_fields.specs.declared.raw_bytes.RawBytes.{RawBytes}
use Rattle.rows_table_map.specs.TableMaps.{little_endian, plain_bytes, id_width}
use Rattle.rows_table_map.proofs.TableMapParts.{written_into}
use Rattle.rows_event_body.specs.RowsEventFields.{IsMaybe, IsOptionalPart, IsExtra, only_if}
use Rattle.rows_event_body.specs.RowsEventTypes.{images_of, has_before, has_after, writes_extra}
use Rattle.rows_event_body.specs.RowsEvents.{RowsBody, bits_size, IsRowsEvent, IsWrittenWhole, written_ctx, rows_event_encoded}
use Rattle.rows_event_body.proofs.RowsEventLemmas.{Prefix, Counted, parts}

-- a sequence of two fields, each with an equivalent encoding
pub each : {p q a b : List ℕ → List ℕ → Type 0} → ((bytes rest : List ℕ) → p bytes rest → a bytes rest) → ((bytes rest : List ℕ) → q bytes rest → b bytes rest)
    → (bytes rest : List ℕ) → (p ⨾ q) bytes rest → (a ⨾ b) bytes rest
each f g bytes rest h = record { prefix = h.prefix; suffix = h.suffix; joined = h.joined; first_is = f _ _ h.first_is; second_is = g _ _ h.second_is }

-- what is written is read in the context of its type
width_written : (b : Bool) → id_width (if b then 10 else 8) ≡ 6
width_written true = refl
width_written false = refl

extra_in : (b : Bool) (v bytes rest : List ℕ) → IsOptionalPart IsExtra (only_if b v) bytes rest → IsMaybe (λ u. IsExtra) (only_if ((if b then 10 else 8) == 10) (tt {0})) (only_if b v) bytes rest
extra_in true v bytes rest h = h
extra_in false v bytes rest h = h

extra_out : (b : Bool) (v bytes rest : List ℕ) → IsMaybe (λ u. IsExtra) (only_if ((if b then 10 else 8) == 10) (tt {0})) (only_if b v) bytes rest → IsOptionalPart IsExtra (only_if b v) bytes rest
extra_out true v bytes rest h = h
extra_out false v bytes rest h = h

-- bytes of their own length
abbrev pub Own : List ℕ → List ℕ → List ℕ → Type 0
Own v = plain_bytes (length v) v

own_in : (o : Option (List ℕ)) (bytes rest : List ℕ) → IsOptionalPart Own o bytes rest → IsMaybe plain_bytes (option_map (λ v. length v) o) o bytes rest
own_in None bytes rest h = h
own_in (Some v) bytes rest h = h

own_out : (o : Option (List ℕ)) (bytes rest : List ℕ) → IsMaybe plain_bytes (option_map (λ v. length v) o) o bytes rest → IsOptionalPart Own o bytes rest
own_out None bytes rest h = h
own_out (Some v) bytes rest h = h

abbrev pub Written : Prefix × Counted → List ℕ → List ℕ → Type 0
Written = Both (Both (little_endian 6) (Both (little_endian 2) (IsOptionalPart IsExtra))) (Both (Alone IsLenenc) (Both (IsOptionalPart Own) (Both (IsOptionalPart Own) IsAll)))

-- column bits aren't truncated
pub bits_kept : {T S C : Type 0} (o : Option (RawBytes T S C)) (b : Bool) (n : ℕ) → n < 2 ^ 64 → option_map (λ v. length v) (option_map (λ raw. raw_string raw) o) ≡ only_if b (bits_size n)
    → option_map (λ raw. take 2305843009213693952 (raw_string raw)) o ≡ option_map (λ raw. raw_string raw) o
bits_kept None b n small e = refl
bits_kept (Some raw) true n small e =
    let size : length (raw_string raw) ≡ bits_size n = cc in
    let few : length (raw_string raw) ≤ 2305843009213693952 = omega (arith, size) in
    ap (λ v. Some v) (take_all _ _ few)
bits_kept (Some raw) false n small e = absurd cc

-- the parts as the code has them
pub shown_parts : {T S C : Type 0} (r : RowsBody) (id columns : ℕ) (extra : Option (List ℕ)) (before after : Option (RawBytes T S C)) → id ≡ r.table_id → extra ≡ r.extra → columns ≡ r.columns
    → option_map (λ raw. take 2305843009213693952 (raw_string raw)) before ≡ r.before → option_map (λ raw. take 2305843009213693952 (raw_string raw)) after ≡ r.after
    → ◌≡◌ {A = Prefix × Counted} ((id, (r.flags, extra)), (columns, (option_map (λ raw. take 2305843009213693952 (raw_string raw)) before, (option_map (λ raw. take 2305843009213693952 (raw_string raw)) after, r.rows_data)))) (parts r)
shown_parts r id columns extra before after a b c d e = rw (a, b, c, d, e) refl

module _ (r : RowsBody) (v : List ℕ) (extra : r.extra ≡ only_if (writes_extra r.event_type) v)
    (before : option_map (λ v. length v) r.before ≡ only_if (has_before (images_of r.event_type)) (bits_size r.columns))
    (after : option_map (λ v. length v) r.after ≡ only_if (has_after (images_of r.event_type)) (bits_size r.columns)) where
  written_in : (bytes rest : List ℕ) → Written (parts r) bytes rest → IsRowsEvent (written_ctx r.event_type) r bytes rest
  written_in bytes rest h =
      let prefix = each (λ b s t. rw (width_written (writes_extra r.event_type)) t) (each (λ b s t. t) (λ b s t. rw extra (extra_in (writes_extra r.event_type) v b s (rw extra at t)))) in
      let rows = each (λ b s t. rw (← before) (own_in r.before b s t)) (each (λ b s t. rw (← after) (own_in r.after b s t)) (λ b s t. t)) in
      (refl, each prefix (each (λ b s t. t) rows) bytes rest h)

  written_out : (bytes rest : List ℕ) → IsRowsEvent (written_ctx r.event_type) r bytes rest → Written (parts r) bytes rest
  written_out bytes rest h =
      let prefix = each (λ b s t. rw (width_written (writes_extra r.event_type)) at t) (each (λ b s t. t) (λ b s t. rw extra (extra_out (writes_extra r.event_type) v b s (rw extra at t)))) in
      let rows = each (λ b s t. own_out r.before b s (rw (← before) at t)) (each (λ b s t. own_out r.after b s (rw (← after) at t)) (λ b s t. t)) in
      each prefix (each (λ b s t. t) rows) bytes rest h.1

  pub event_written : (encoded : Prefix × Counted → Option (List ℕ)) (allows_rest : List ℕ → Type 0) (old new : List ℕ) → encoded (parts r) ≡ rows_event_encoded r
      → WritesField encoded Written allows_rest (parts r) old new → WritesField rows_event_encoded (λ (q : RowsBody). IsRowsEvent (written_ctx q.event_type) q) allows_rest r old new
  event_written encoded allows_rest old new e w = written_into rows_event_encoded (λ (q : RowsBody). IsRowsEvent (written_ctx q.event_type) q) r e written_in written_out w

-- an equal value has the same error
pub failed_as : {A Q : Type 0} (encoded : A → Option (List ℕ)) (print : Q → Option (List ℕ)) (a b : A) (q : Q) (e : WireFault) (old new : List ℕ) → a ≡ b → encoded b ≡ print q
    → WriteFails encoded a e old new → WriteFails print q e old new
failed_as encoded print a b q e old new named same h = record {
  unchanged = h.unchanged;
  why = elim h.why as (λ _. e ≡ Memory ⊎ ((e ≡ Form) × (print q ≡ None))) [ inl m ↦ inl m | inr n ↦ inr (n.0, rw (← same, ← named) n.1) ];
}

extra_kept : (b : Bool) (o : Option (List ℕ)) (bytes rest : List ℕ) → IsMaybe (λ u. IsExtra) (only_if ((if b then 10 else 8) == 10) (tt {0})) o bytes rest → only_if b (unwrap_or o []) ≡ o
extra_kept true None bytes rest h = absurd h
extra_kept true (Some v) bytes rest h = refl
extra_kept false None bytes rest h = refl
extra_kept false (Some v) bytes rest h = absurd h

pub written_whole : IsWrittenWhole
written_whole r bytes rest h =
    let e = extra_kept (writes_extra r.event_type) r.extra _ _ h.1.first_is.second_is.second_is in
    ap (λ (o : Option (List ℕ)). record r { extra = o }) e
