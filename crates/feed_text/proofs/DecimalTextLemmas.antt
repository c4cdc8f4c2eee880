-- The texts of decimals have nothing to escape.
use Rattle.std.proofs.Common.{◌≡◌, ◌≤◌, ◌<◌, ◌+◌, Bool, true, false, ℕ, zero, suc, List, [], ◌∷◌, ◌++◌, length, take, Option, Some, None, inl, inr, append_assoc, arith, refl, sym, ap, subst, ◌∙◌}
use Rattle.std.proofs.Math.ListN.{set}
use Rattle.std.proofs.lemmas.Bool.Decides.{eqb_tells}
use Rattle.std.proofs.lemmas.Grind.{flat_map-append}
use Rattle.std.proofs.lemmas.List.{length-take-le, take_more_set, take-append-le, take-take}
use Rattle.std.specs.List.{flat_map}
use Rattle.std.specs.Option.{option_map}
use Rattle.wire_buf.specs.Encoding.{AreBytes}
use Rattle.rows_values.specs.Digits.{AreDigits}
use Rattle.rows_values.specs.Decimals.{DecimalParts, normalized, zero_value, without_zero_groups}
use Rattle.rows_values.specs.PrintedDecimals.{glyphs, significant, whole_text, fraction_text, sign_text, decimal_text}
use Rattle.rows_values.specs.Unpacked.{unpacked, optional_text, packed_text}
use Rattle.rows_values.proofs.GroupLemmas.{drop_digits}
use Rattle.rows_values.proofs.UnpackLemmas.{kept_are}
use Rattle.rows_values.proofs.UnpackedLemmas.{unpacked-sound}
use Rattle.feed_writers.specs.Quoting.{is_plain_byte, quoted_byte, quoted}
use Rattle.feed_text.specs.DecimalText.{quoted_decimal}

-- ---- bytes that need no escape

-- bytes that need no escape between quotes
pub record AreLeft (text : List ℕ) : Type 0 where
  pub left : flat_map quoted_byte text ≡ text

pub left_append : (s t : List ℕ) → AreLeft s → AreLeft t → AreLeft (s ++ t)
left_append s t a b = record { left = flat_map-append quoted_byte s t ∙ ap (λ l. l ++ flat_map quoted_byte t) a.left ∙ ap (λ l. s ++ l) b.left }

digit_plain : (d : ℕ) → d < 10 → is_plain_byte (48 + d) ≡ true
digit_plain zero h = refl
digit_plain (suc zero) h = refl
digit_plain (suc (suc zero)) h = refl
digit_plain (suc (suc (suc zero))) h = refl
digit_plain (suc (suc (suc (suc zero)))) h = refl
digit_plain (suc (suc (suc (suc (suc zero))))) h = refl
digit_plain (suc (suc (suc (suc (suc (suc zero)))))) h = refl
digit_plain (suc (suc (suc (suc (suc (suc (suc zero))))))) h = refl
digit_plain (suc (suc (suc (suc (suc (suc (suc (suc zero)))))))) h = refl
digit_plain (suc (suc (suc (suc (suc (suc (suc (suc (suc zero))))))))) h = refl
digit_plain (suc (suc (suc (suc (suc (suc (suc (suc (suc (suc d)))))))))) h = absurd (omega (arith, h))

-- one digit
pub digit_left : (d : ℕ) → d < 10 → AreLeft ((48 + d) ∷ [])
digit_left d h = record { left = rw (digit_plain d h) refl }

glyphs_left : (ds : List ℕ) → AreDigits ds → AreLeft (glyphs ds)
glyphs_left [] h = record { left = refl }
glyphs_left (d ∷ ds) h =
    let more = glyphs_left ds (λ k. h (suc k)) in
    let first : flat_map quoted_byte ((48 + d) ∷ glyphs ds) ≡ (48 + d) ∷ flat_map quoted_byte (glyphs ds) = rw (digit_plain d (h 0)) refl in
    record { left = first ∙ ap (λ l. (48 + d) ∷ l) more.left }

whole_left : (ds : List ℕ) → AreDigits ds → AreLeft (whole_text ds)
whole_left ds h = elim (eqb_tells (length (significant ds)) 0) [
  | inl t ↦ let zero_left : AreLeft (48 ∷ []) = record { left = refl } in rw t.0 zero_left
  | inr t ↦ rw t.0 (glyphs_left (significant ds) (drop_digits _ ds h))
]

fraction_left : (ds : List ℕ) → AreDigits ds → AreLeft (fraction_text ds)
fraction_left ds h = elim (eqb_tells (length ds) 0) [
  | inl t ↦ let none_left : AreLeft [] = record { left = refl } in rw t.0 none_left
  | inr t ↦ let point_left : AreLeft (46 ∷ []) = record { left = refl } in rw t.0 (left_append (46 ∷ []) (glyphs ds) point_left (glyphs_left ds h))
]

sign_left : (negative : Bool) → AreLeft (sign_text negative)
sign_left true = record { left = refl }
sign_left false = record { left = refl }

parts_left : (v : DecimalParts) → AreDigits v.before → AreDigits v.after → AreLeft (decimal_text v)
parts_left v h g =
    left_append (sign_text v.negative) (whole_text v.before ++ fraction_text v.after) (sign_left v.negative)
    (left_append (whole_text v.before) (fraction_text v.after) (whole_left v.before h) (fraction_left v.after g))

kept_left : (v : DecimalParts) → AreDigits v.before → AreDigits v.after → AreLeft (decimal_text (normalized false v))
kept_left v h g = elim (eqb_tells (length (without_zero_groups v.before) + length v.after) 0) [
  | inl t ↦ let zero_left : AreLeft (decimal_text zero_value) = record { left = refl } in rw t.0 zero_left
  | inr t ↦ rw t.0 (parts_left (record { negative = v.negative; before = without_zero_groups v.before; after = v.after }) (kept_are false v.before h) g)
]

none-some : (t : List ℕ) → (let n : Option (List ℕ) = None in n ≡ Some t) → ⊥
none-some t e = cc

pub packed_left : (precision scale : ℕ) (bytes text : List ℕ) → AreBytes bytes → packed_text precision scale bytes ≡ Some text → AreLeft text
packed_left precision scale bytes text are e = go (unpacked precision scale bytes) refl
  where
    go : (o : Option DecimalParts) → unpacked precision scale bytes ≡ o → AreLeft text
    go None u = absurd (none-some text (sym (ap optional_text u) ∙ e))
    go (Some v) u =
        let p = (unpacked-sound precision scale v bytes are u).1 in
        let same : decimal_text (normalized false v) ≡ text = let f = sym (ap optional_text u) ∙ e in cc in
        subst AreLeft same (kept_left v p.before_are p.after_are)

-- ---- between quotes

pub plain_quoted : (text : List ℕ) → AreLeft text → quoted text ≡ 39 ∷ text ++ 39 ∷ []
unfolding quoted
plain_quoted text h = ap (λ l. 39 ∷ l ++ 39 ∷ []) h.left

pub quoted_none : (precision scale : ℕ) (bytes : List ℕ) → packed_text precision scale bytes ≡ None → quoted_decimal precision scale bytes ≡ None
quoted_none precision scale bytes e = ap (option_map quoted) e

-- the quotes were written before the text and after it
pub written_quoted : (old new text : List ℕ) (at end : ℕ) → at < length old → end < length new → take end new ≡ take (at + 1) (set old at 39) ++ text → AreLeft text
    → take (end + 1) (set new end 39) ≡ take at old ++ quoted text
written_quoted old new text at end room following is left =
    take_more_set new end 39 following ∙ ap (λ (l : List ℕ). l ++ 39 ∷ []) is ∙ ap (λ (l : List ℕ). (l ++ text) ++ 39 ∷ []) (take_more_set old at 39 room)
    ∙ ap (λ (l : List ℕ). l ++ 39 ∷ []) (append_assoc (take at old) (39 ∷ []) text) ∙ append_assoc (take at old) (39 ∷ text) (39 ∷ [])
    ∙ ap (λ (l : List ℕ). take at old ++ l) (sym (plain_quoted text left))

-- on an error the text before is unchanged
pub prefix_left : (old new : List ℕ) (at : ℕ) → at < length old → at < length new → take (at + 1) new ≡ take (at + 1) (set old at 39) → take at new ≡ take at old
prefix_left old new at room more is =
    let long : at ≤ length (take at old) = omega (arith, length-take-le at old (omega (arith, room))) in
    sym (take-take at (at + 1) new (omega arith)) ∙ ap (take at) (is ∙ take_more_set old at 39 room) ∙ take-append-le at (take at old) (39 ∷ []) long ∙ take-take at at old (omega arith)
