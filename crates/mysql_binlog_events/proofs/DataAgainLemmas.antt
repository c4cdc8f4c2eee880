-- The body of an event of any type is read again.
use Rattle.std.proofs.Common.{◌≡◌, ◌∙◌, ℕ, List, [], Some, refl, sym, ap, ap₂, subst, append-nil}
use Rattle.std.proofs.lemmas.Option.{same_Some}
use Rattle.wire_buf.specs.Encoding.{Reads}
use Rattle.rows_table_map.proofs.MapLawLemmas.{map_whole}
use Rattle.events_frames.specs.Descriptions.{Description, IsFields, event_description_of}
use Rattle.events_frames.proofs.LawLemmas.{written_whole}
use Rattle.events_bodies.proofs.BodyLemmas.{incident_whole}
use Rattle.events_bodies.proofs.QueryLemmas.{query_whole}
use Rattle.events_bodies.proofs.LoadQueryLemmas.{load_query_whole}
use Rattle.events_owned.specs.declared.event_data.EventData.TheVariants as read
use Rattle.mysql_binlog_events.specs.ReadAgain.{IsReadAsEncoded}
use Rattle.mysql_binlog_events.specs.DataAgain.{IsDataSameAgain}
use Rattle.mysql_binlog_events.proofs.OneWayLemmas.{whole_body}
use Rattle.mysql_binlog_events.proofs.PlainBodyLemmas.{one_rotate, one_xid, one_rand, one_intvar, one_block, one_incident, one_rows_query, one_user_var, one_table_map, user_var_whole}
use Rattle.mysql_binlog_events.proofs.DescriptionOneLemmas.{one_description}
use Rattle.mysql_binlog_events.proofs.StatementOneLemmas.{one_query, one_load_query}
use Rattle.mysql_binlog_events.proofs.GtidOneLemmas.{one_gtid}
use Rattle.mysql_binlog_events.proofs.RowsOneLemmas.{rows_same}

-- a value is written completely, and the bytes encode it
represents_again : {A : Type 0} {encoding : A → List ℕ → List ℕ → Type 0} {v : A} (written : A) (bytes : List ℕ) → IsReadAsEncoded encoding → written ≡ v → encoding written bytes [] → Reads encoding v bytes []
represents_again {encoding = encoding} {v = v} written bytes one whole is =
    one v bytes [] (record { bytes = bytes; joined = sym (append-nil bytes); is = subst (λ y. encoding y bytes []) whole is })

pub data_same : IsDataSameAgain
data_same (read.QueryEvent e) encoding body old new are h w = (h.0, represents_again _ w.bytes one_query (query_whole _ body [] are (whole_body h.1)) (w.encodes [] refl))
data_same (read.RotateEvent e) encoding body old new are h w = (h.0, represents_again _ w.bytes one_rotate refl (w.encodes [] refl))
data_same (read.IntvarEvent e) encoding body old new are h w = (h.0, represents_again _ w.bytes one_intvar refl (w.encodes [] refl))
data_same (read.RandEvent e) encoding body old new are h w = (h.0, represents_again _ w.bytes one_rand refl (w.encodes [] refl))
data_same (read.UserVarEvent e) encoding body old new are h w = (h.0, represents_again _ w.bytes one_user_var (user_var_whole _ body [] are (whole_body h.1)) (w.encodes [] refl))
data_same (read.FormatDescriptionEvent e) encoding body old new are h w =
    let represents = whole_body h.1 in
    let fields = subst (λ (d : Description). IsFields d w.bytes []) (written_whole (event_description_of e) body [] represents) (w.encodes [] refl) in
    (h.0, one_description (event_description_of e) w.bytes [] (record { bytes = w.bytes; joined = sym (append-nil w.bytes); is = (represents.0, represents.1, fields) }))
data_same (read.XidEvent e) encoding body old new are h w = (h.0, represents_again _ w.bytes one_xid refl (w.encodes [] refl))
data_same (read.BeginLoadQueryEvent e) encoding body old new are h w = (h.0, represents_again _ w.bytes one_block refl (w.encodes [] refl))
data_same (read.ExecuteLoadQueryEvent e) encoding body old new are h w = (h.0, represents_again _ w.bytes one_load_query (load_query_whole _ body [] are (whole_body h.1)) (w.encodes [] refl))
data_same (read.TableMapEvent e) encoding body old new are h w = (h.0, represents_again _ w.bytes (one_table_map 8) (map_whole _ body [] are (whole_body h.1)) (w.encodes [] refl))
data_same (read.IncidentEvent e) encoding body old new are h w = (h.0, represents_again _ w.bytes one_incident (incident_whole _ body [] are (whole_body h.1)) (w.encodes [] refl))
data_same (read.RowsQueryEvent e) encoding body old new are h w = (h.0, represents_again _ w.bytes one_rows_query refl (w.encodes [] refl))
data_same (read.GtidEvent e) encoding body old new are h w = (h.0, represents_again _ w.bytes one_gtid refl (w.encodes [] refl))
data_same (read.AnonymousGtidEvent e) encoding body old new are h w = (h.0, represents_again _ w.bytes one_gtid refl (w.encodes [] refl))
data_same (read.RowsEvent e) encoding body old new are h w = record {
  rows_type = h.rows_type;
  is = h.is;
  reads = rows_same h.rows_type _ body old new h.reads (record { bytes = w.bytes; is = w.is; appended = w.appended; encodes = w.encodes; least = w.least });
}
data_same e encoding body old new are h w =
    let again = w.encodes [] refl in
    let same = same_Some again.0 _ (sym again.1 ∙ h.2) in
    (h.0, h.1, again.1 ∙ ap₂ (λ k b. Some (record { event_type = k; bytes = b })) (ap (λ r. r.event_type) same) again.2.bytes_are)
