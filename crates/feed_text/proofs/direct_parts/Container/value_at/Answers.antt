use Rattle.std.proofs.Common.{◌≡◌, ◌+◌, ◌≤◌, ℕ, Bool, true, false, List, Option, Some, None, length, take, drop, slice_index, refl, sym, ap, ◌∙◌, arith}
use Rattle.std.proofs.lemmas.List.{take_rest}
use Rattle.std.proofs.lemmas.Bool.Decides.{nat_tests}
use Rattle.byteorder.specs.Endian.{little_number}
use Rattle.rows_jsonb.specs.JsonbLayout.{offset_size, value_entry_size}
use Rattle.rows_jsonb.specs.JsonbTypes.{jsonb_type_of}
use Rattle.rows_jsonb.specs.JsonbValues.{entry_at, entry_of, of_type}
use Rattle.rows_jsonb.specs.declared.types.JsonbType.{JsonbType}
use Rattle.feed_text.specs.Containers.{inlined}
use Rattle.feed_text.proofs.direct_parts.Container.value_at.Goals as goal

inside : (large : Bool) (o : Option JsonbType) (at : ℕ) (bytes entry : List ℕ) → inlined large o ≡ true → entry ≡ take (offset_size large) (drop (at + 1) bytes)
    → entry_of large o at bytes ≡ of_type o entry
inside large None at bytes entry h e = refl
inside large (Some t) at bytes entry h e = rw (h, e) refl

outside : (large : Bool) (o : Option JsonbType) (at offset : ℕ) (bytes rest : List ℕ) → inlined large o ≡ false → offset ≡ little_number (offset_size large) (drop (at + 1) bytes)
    → offset ≤ length bytes → at + value_entry_size large ≤ offset → rest ≡ drop offset bytes → entry_of large o at bytes ≡ of_type o rest
outside large None at offset bytes rest h is most least e = refl
outside large (Some t) at offset bytes rest h is most least e = rw (h, ← is, e) (grind (arith, nat_tests))

pub returns-then-is_inlined : goal.returns-then-is_inlined
returns-then-is_inlined c =
    let s = c.args.self.now in
    let at = c.value_entry_at-at.result in
    ap (λ k. entry_at s.is_large k s.bytes.now) (sym c.value_entry_at-at.ensures)
    ∙ inside s.is_large (jsonb_type_of (slice_index s.bytes.now at)) at s.bytes.now _ (sym c.is_inlined.ensures ∙ c.if-is_inlined.true)
    (ap (take c.offset_len-offset_len.result) (take_rest s.bytes.now (at + 1)) ∙ ap (λ k. take k (drop (at + 1) s.bytes.now)) c.offset_len-offset_len.ensures)

pub returns : goal.returns
returns c =
    let s = c.args.self.now in
    let at = c.value_entry_at-at.result in
    ap (λ k. entry_at s.is_large k s.bytes.now) (sym c.value_entry_at-at.ensures)
    ∙ outside s.is_large (jsonb_type_of (slice_index s.bytes.now at)) at c.read_offset-offset.result s.bytes.now _ (sym c.is_inlined.ensures ∙ c.if-is_inlined.false)
    (c.read_offset-offset.ensures ∙ ap (little_number (offset_size s.is_large)) (take_rest s.bytes.now (at + 1)))
    (omega arith) (omega arith) (take_rest s.bytes.now c.read_offset-offset.result)
