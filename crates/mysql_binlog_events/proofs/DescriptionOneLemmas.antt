-- The encoding of a format description is read as the same description, and what was written is read again without its footer.
use Rattle.std.proofs.Common.{◌≡◌, ◌∙◌, ℕ, List, [], refl, sym, ap, append-nil}
use Rattle.wire_buf.specs.Encoding.{Begins}
use Rattle.wire_buf.proofs.EncodingLemmas.{Reads-is}
use Rattle.events_frames.specs.Footers.{no_settings}
use Rattle.events_frames.specs.Descriptions.{Description, IsDescription, written_description}
use Rattle.events_frames.proofs.DescriptionLemmas.{AreFields, fields}
use Rattle.events_frames.proofs.LawLemmas.{written_whole}
use Rattle.mysql_binlog_events.specs.ReadAgain.{IsReadAsEncoded, IsDescriptionReadAgain, IsDescriptionSameAgain}
use Rattle.mysql_binlog_events.proofs.OneWayLemmas.{one_number, one_text, one_all, one_both, whole_body}

one_fields : IsReadAsEncoded AreFields
one_fields = one_both (one_number 2) (one_both (one_text 50) (one_both (one_number 4) (one_both (one_number 1) one_all)))

fields_at : (d : Description) (x r : List ℕ) → Begins (IsDescription d) x r → Begins (AreFields (fields d)) x r
fields_at d x r t = record { bytes = t.bytes; joined = t.joined; is = t.is.2 }

pub one_description : IsReadAsEncoded IsDescription
one_description d x r t = record {
  begins = t;
  only = λ e s u.
      let o = (one_fields (fields d) x r (fields_at d x r t)).only (fields e) s (fields_at e x s u) in (
        o.0,
        (λ i. record {
          version = (o.1 i).0;
          server = (o.1 i).1.0;
          created = (o.1 i).1.1.0;
          lengths = (o.1 i).1.1.1.1;
          footer = (t.is.1 ∙ sym u.is.1) i;
        }),
      );
}

pub description_again : IsDescriptionReadAgain
description_again d old new version w =
    one_description (record d { footer = no_settings }) w.bytes []
    (record { bytes = w.bytes; joined = sym (append-nil w.bytes); is = (version, refl, w.encodes [] refl) })

pub description_same : IsDescriptionSameAgain
description_same d f body old new read w =
    let represents = whole_body read in
    let whole = written_whole d body [] represents in
    let again = description_again (written_description (record d { footer = f })) old new represents.0 w in
    let same : record (written_description (record d { footer = f })) { footer = no_settings } ≡ d =
    ap (λ (e : Description). record e { footer = no_settings }) whole ∙ (λ i. record d { footer = (sym represents.1) i }) in
    Reads-is same again
