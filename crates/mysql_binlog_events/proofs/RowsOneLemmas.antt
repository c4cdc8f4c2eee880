-- The encoding of a rows event is read as the same event.
use Rattle.std.proofs.Common.{◌≡◌, ◌++◌, ◌∙◌, ◌-◌, ℕ, List, [], refl, sym, ap, subst, append-nil, append_assoc, rules, Option, Some, None}
use Rattle.wire_buf.specs.Encoding.{Begins, Reads, Alone}
use Rattle.wire_buf.specs.Numbers.{IsLenenc}
use Rattle.wire_buf.proofs.EncodingLemmas.{Reads-is}
use Rattle.rows_table_map.specs.TableMaps.{little_endian, plain_bytes, id_width}
use Rattle.rows_event_body.specs.RowsEventFields.{IsMaybe, IsExtra, only_if}
use Rattle.rows_event_body.specs.RowsEventTypes.{images_of, has_before, has_after}
use Rattle.rows_event_body.specs.RowsEvents.{IsRowsHead, IsRows, IsRowsEvent, has_extra, bits_size, written_body, written_ctx}
use Rattle.rows_event_body.specs.declared.rows_event_ctx.RowsEventCtx.{RowsEventCtx}
use Rattle.rows_event_body.specs.declared.rows_event_type.RowsEventType.{RowsEventType}
use Rattle.rows_event_body.proofs.FieldLemmas.{there_reads, extra_reads}
use Rattle.rows_event_body.proofs.RowsEventLemmas.{parts, whole, event_reads}
use Rattle.rows_event_body.proofs.WritingLemmas.{written_whole}
use Rattle.events_owned.specs.RowsContexts.{described_ctx}
use Rattle.mysql_binlog_events.specs.ReadAgain.{IsReadAsEncoded, IsRowsReadAgain, IsRowsSameAgain}
use Rattle.mysql_binlog_events.proofs.OneWayLemmas.{one_number, one_text, one_all, one_lenenc, one_both, whole_body}

-- a field that is present exactly if its context is
one_maybe : {C A : Type 0} (encoding : C → A → List ℕ → List ℕ → Type 0) → ((c : C) → IsReadAsEncoded (encoding c)) → (ctx : Option C) → IsReadAsEncoded (IsMaybe encoding ctx)
one_maybe encoding one None None x r t = record {
  begins = t;
  only = λ w s u. elim w as (λ w. Begins (IsMaybe encoding None w) x s → (s ≡ r) × (None ≡ w)) [
    | None ↦ λ u. (sym (u.joined ∙ ap (λ (l : List ℕ). l ++ s) u.is) ∙ t.joined ∙ ap (λ (l : List ℕ). l ++ r) t.is, refl)
    | Some a ↦ λ u. absurd u.is
  ] u;
}
one_maybe encoding one None (Some v) x r t = absurd t.is
one_maybe encoding one (Some c) None x r t = absurd t.is
one_maybe encoding one (Some c) (Some v) x r t = there_reads encoding (Some c) c refl x v r (one c v x r (record { bytes = t.bytes; joined = t.joined; is = t.is }))

one_extra : IsReadAsEncoded IsExtra
one_extra v x r t =
    let h = t.is.encoding_is in
    let size : Begins (little_endian 2 t.is.size) x (h.suffix ++ r) = record {
      bytes = h.prefix;
      joined = t.joined ∙ ap (λ (l : List ℕ). l ++ r) h.joined ∙ append_assoc h.prefix h.suffix r;
      is = h.first_is;
    } in
    let content : Begins (plain_bytes (t.is.size - 2) v) (h.suffix ++ r) r = record { bytes = h.suffix; joined = refl; is = h.second_is } in
    extra_reads t.is.size v x (h.suffix ++ r) r (one_number 2 t.is.size x _ size) (one_text (t.is.size - 2) v _ r content)

one_prefix : (ctx : RowsEventCtx) → IsReadAsEncoded (IsRowsHead ctx)
one_prefix ctx = one_both (one_number (id_width ctx.post_header_len)) (one_both (one_number 2) (one_maybe (λ u. IsExtra) (λ u. one_extra) (only_if (has_extra ctx) (tt {0}))))

one_rows : (t : RowsEventType) (n : ℕ) → IsReadAsEncoded (IsRows t n)
one_rows t n =
    one_both (one_maybe plain_bytes one_text (only_if (has_before (images_of t)) (bits_size n)))
    (one_both (one_maybe plain_bytes one_text (only_if (has_after (images_of t)) (bits_size n))) one_all)

pub one_rows_event : (ctx : RowsEventCtx) → IsReadAsEncoded (IsRowsEvent ctx)
one_rows_event ctx e x r t =
    let h = t.is.1 in
    let g = h.second_is in
    let prefix : Begins (IsRowsHead ctx (parts e).0) x (h.suffix ++ r) = record {
      bytes = h.prefix;
      joined = t.joined ∙ ap (λ (l : List ℕ). l ++ r) h.joined ∙ append_assoc h.prefix h.suffix r;
      is = h.first_is;
    } in
    let count : Begins (Alone IsLenenc e.columns) (h.suffix ++ r) (g.suffix ++ r) = record {
      bytes = g.prefix;
      joined = ap (λ (l : List ℕ). l ++ r) g.joined ∙ append_assoc g.prefix g.suffix r;
      is = g.first_is;
    } in
    let rows : Begins (IsRows ctx.event_type e.columns (parts e).1.1) (g.suffix ++ r) r = record { bytes = g.suffix; joined = refl; is = g.second_is } in
    Reads-is (ap (λ (a : RowsEventType). whole a (parts e)) (sym t.is.0))
    (event_reads ctx (parts e).0 e.columns (parts e).1.1 x (h.suffix ++ r) (g.suffix ++ r) r
    (one_prefix ctx (parts e).0 x _ prefix) (one_lenenc e.columns _ _ count) (one_rows ctx.event_type e.columns (parts e).1.1 _ r rows))

-- if a format description lists no post-header lengths, they are those that servers use today
default_ctx : (t : RowsEventType) → described_ctx t [] ≡ written_ctx t
default_ctx = search rules

pub rows_again : IsRowsReadAgain
rows_again r old new w =
    let represents : Begins (IsRowsEvent (written_ctx r.event_type) r) w.bytes [] = record { bytes = w.bytes; joined = sym (append-nil w.bytes); is = w.encodes [] refl } in
    subst (λ (ctx : RowsEventCtx). Reads (IsRowsEvent ctx) r w.bytes []) (sym (default_ctx r.event_type)) (one_rows_event (written_ctx r.event_type) r w.bytes [] represents)

pub rows_same : IsRowsSameAgain
rows_same t r body old new read w =
    let represents = whole_body read in
    let type : r.event_type ≡ t = represents.0 in
    let by_default : IsRowsEvent (written_ctx t) r body [] = subst (λ (ctx : RowsEventCtx). IsRowsEvent ctx r body []) (default_ctx t) represents in
    let whole = written_whole r body [] (subst (λ (u : RowsEventType). IsRowsEvent (written_ctx u) r body []) (sym type) by_default) in
    let again : Reads (IsRowsEvent (described_ctx r.event_type [])) r w.bytes [] = Reads-is whole (rows_again (written_body r) old new w) in
    subst (λ (u : RowsEventType). Reads (IsRowsEvent (described_ctx u [])) r w.bytes []) type again
