use Rattle.std.proofs.Common.{◌≡◌, ℕ, ◌+◌, ◌-◌, ◌<◌, ◌≤◌, ◌⊎◌, inl, inr, ◌||◌, Bool, true, false, List, length, take, drop, Some, refl, sym, ap, ap₂, ◌∙◌, arith}
use Rattle.std.specs.declared.result.Result.TheVariants.{Ok, Err}
use Rattle.std.proofs.lemmas.Bool.{lt-ltb, le-ltb}
use Rattle.std.proofs.lemmas.List.{length-drop, take_rest}
use Rattle.std.proofs.lemmas.Result.{err_from_is_err_and}
use Rattle.byteorder.specs.Endian.{little_number}
use Rattle.rows_errors.specs.declared.fault.RowsError.TheVariants.{Jsonb}
use Rattle.rows_errors.specs.declared.fault.JsonbError.TheVariants.{InvalidKeyOffsetPointer}
use Rattle.rows_jsonb.specs.JsonbLayout.{format, offset_size, key_entry_offset, header_size}
use Rattle.rows_jsonb.specs.JsonbValues.{key, key_in}
use Rattle.rows_jsonb.proofs.FormatLemmas.{key_entry_ends, key_within}
use Rattle.rows_jsonb.proofs.elements.ComplexValue+T+Object.key.Goals as goal

or_true : (b : Bool) → (b || true) ≡ true
or_true true = refl
or_true false = refl

key_read : (large : Bool) (n pos at k len : ℕ) (bytes read rest : List ℕ) → at ≡ key_entry_offset large pos → read ≡ bytes → k ≡ little_number (offset_size large) (take (length read - at) (drop at read))
    → rest ≡ drop (offset_size large) (take (length read - at) (drop at read)) → len ≡ little_number 2 rest → key_in k len (header_size (format large false) n) bytes ≡ key (format large false) n bytes pos
key_read large n pos at k len bytes read rest e same first after is =
    let entry : take (length read - at) (drop at read) ≡ drop (key_entry_offset large pos) bytes = take_rest read at ∙ ap (λ j. drop j read) e ∙ ap (drop (key_entry_offset large pos)) same in
    ap₂ (λ a b. key_in a b (header_size (format large false) n) bytes) (first ∙ ap (little_number (offset_size large)) entry) (is ∙ ap (little_number 2) (after ∙ ap (drop (offset_size large)) entry))

key_found : (k len least : ℕ) (bytes : List ℕ) → least ≤ k → k + len ≤ length bytes → key_in k len least bytes ≡ Ok (take len (drop k bytes))
key_found k len least bytes above below = rw (le-ltb k least above, le-ltb (length bytes) (k + len) below) refl

key_outside : (k len least : ℕ) (bytes : List ℕ) → (k < least) ⊎ (length bytes < k + len) → key_in k len least bytes ≡ Err (Jsonb (Some InvalidKeyOffsetPointer))
key_outside k len least bytes (inl h) = rw (lt-ltb k least h) refl
key_outside k len least bytes (inr h) = rw (lt-ltb (length bytes) (k + len) h, or_true) refl

pub slice_bounds-entry-count : goal.slice_bounds-entry-count
slice_bounds-entry-count g c =
    let within = key_entry_ends g.T.StorageFormat.IS_LARGE _ _ _ _ c.requires c.args.self.now.header c.key_entry_offset-at.ensures in
    omega (arith, within, c.deref.ensures.len)

pub eat_offset-offset-requires : goal.eat_offset-offset-requires
eat_offset-offset-requires g c =
    let within = key_entry_ends g.T.StorageFormat.IS_LARGE _ _ _ _ c.requires c.args.self.now.header c.key_entry_offset-at.ensures in
    let room = key_within g.T.StorageFormat.IS_LARGE c.key_entry_offset-at.result c.deref.result.now (omega (arith, within, c.deref.ensures.len)) in
    omega (arith, room)

pub eat_u16_le-requires : goal.eat_u16_le-requires
eat_u16_le-requires g c =
    let within = key_entry_ends g.T.StorageFormat.IS_LARGE _ _ _ _ c.requires c.args.self.now.header c.key_entry_offset-at.ensures in
    let room = key_within g.T.StorageFormat.IS_LARGE c.key_entry_offset-at.result c.deref.result.now (omega (arith, within, c.deref.ensures.len)) in
    rw (c.eat_offset-offset.ensures.rest, length-drop) (omega (arith, room))

pub slice_bounds-result-count : goal.slice_bounds-result-count
slice_bounds-result-count g c = omega arith

pub returns-in_err-check_place : goal.returns-in_err-check_place
returns-in_err-check_place g c =
    let p = err_from_is_err_and c.from_residual.result c.from_residual.ensures.1 in
    let read = c.eat_offset-offset.ensures in
    rw (p.1, p.2, c.in_err-check_place.ensures.err)
    (sym (key_outside c.eat_offset-offset.result c.from-len.result _ _ (rw (← c.header_size.ensures, ← c.len.ensures) c.in_err-check_place.ensures.outside))
    ∙ key_read _ _ c.args.pos _ _ _ _ _ _ c.key_entry_offset-at.ensures c.deref.ensures.value read.value read.rest (c.from-len.ensures ∙ c.eat_u16_le.ensures.value))

pub returns : goal.returns
returns g c =
    let read = c.eat_offset-offset.ensures in
    let k = c.eat_offset-offset.result in
    ap (λ j. Ok (take j (drop k c.deref-2.result.now))) (omega arith) ∙ ap (λ l. Ok (take c.from-len.result (drop k l))) c.deref-2.ensures.value
    ∙ sym (key_found k c.from-len.result _ _ (rw (← c.header_size.ensures) c.in_ok-check_place.ensures.begin) (rw (← c.len.ensures) c.in_ok-check_place.ensures.end))
    ∙ key_read _ _ c.args.pos _ _ _ _ _ _ c.key_entry_offset-at.ensures c.deref.ensures.value read.value read.rest (c.from-len.ensures ∙ c.eat_u16_le.ensures.value)
