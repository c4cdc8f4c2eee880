-- The computed fields of a format description are those that its format states.
use Rattle.std.proofs.Common.{◌≡◌, inl, inr, ◌≤◌, [], length, take, drop, refl, sym, ap, ◌∙◌, arith}
use Rattle.std.specs.Prelude.{slice_index}
use Rattle.std.proofs.lemmas.Bool.Decides.{leb_tells}
use Rattle.std.proofs.lemmas.List.{append-nil, drop-drop}
use Rattle.wire_buf.specs.Encoding.{Begins}
use Rattle.events_frames.specs.Descriptions.{Description, IsDescription}
use Rattle.events_frames.specs.EventParts.{Parts, Describes}
use Rattle.events_frames.specs.Footers.{no_settings}
use Rattle.events_frames.proofs.DescriptionLemmas.{Fields, fields_read, short_lacks}
use Rattle.feed_checks.specs.EventFields.{number_at, description_by}

-- the body without the footer
begins : (d : Description) (p : Parts) → Describes d p → Begins (IsDescription (record d { footer = no_settings })) p.body []
begins d p h = record { bytes = p.body; joined = sym (append-nil p.body); is = h.body }

room : (d : Description) (p : Parts) → Describes d p → 57 ≤ length p.body
room d p h = elim (leb_tells 57 (length p.body)) [
  | inl t ↦ t.1
  | inr t ↦ absurd (short_lacks p.body (omega (arith, t.1)) (record d { footer = no_settings }) [] (begins d p h))
]

pub description_one : (d : Description) (p : Parts) → Describes d p → d ≡ description_by p
description_one d p h =
    let x = p.body in
    let read =
    fields_read (number_at 0 2 x) (take 50 (drop 2 x)) (number_at 52 4 x) (slice_index (drop 56 x) 0) (drop 57 x) x (drop 2 x) (drop 52 x) (drop 56 x) (drop 57 x) [] (room d p h) refl refl refl
    (sym (drop-drop 50 2 x)) refl (sym (drop-drop 4 52 x)) refl (sym (drop-drop 1 56 x)) refl refl in
    let same = read.only (d.version, (d.server, (d.created, (19, d.lengths)))) [] (record { bytes = x; joined = sym (append-nil x); is = h.body.2 }) in
    let made : Fields → Description = λ q. record { version = q.0; server = q.1.0; created = q.1.1.0; lengths = q.1.1.1.1; footer = p.footer } in
    let own : d ≡ record d { footer = p.footer } = λ i. record d { footer = h.footer i } in
    own ∙ sym (ap made same.1)
