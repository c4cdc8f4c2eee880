-- Text that is appended in parts, and what stood before it.
use Rattle.std.proofs.Common.{◌≡◌, ℕ, false, eqb, List, [], ◌∷◌, ◌++◌, length, take, get_or, ◌<◌, ◌+◌, append_assoc, arith, ap, sym, ◌∙◌}
use Rattle.std.proofs.lemmas.List.{length-take, take-take, take_all, take_at, map_more}
use Rattle.rows_values.specs.Decimals.{DecimalParts}
use Rattle.rows_values.specs.PrintedDecimals.{glyphs, significant, sign_text, whole_text, fraction_text, decimal_text}

pub kept_same : (a b : List ℕ) → b ≡ a → take (length a) b ≡ a
kept_same a b e = ap (take (length a)) e ∙ take_all (length a) a (omega arith)

pub kept_front : (a b t : List ℕ) → b ≡ a ++ t → take (length a) b ≡ a
kept_front a b t e = ap (take (length a)) e ∙ take_at a t (length a) (omega arith)

pub kept_more : (a b c : List ℕ) → take (length a) b ≡ a → take (length b) c ≡ b → take (length a) c ≡ a
kept_more a b c near far =
    let e = sym (length-take (length a) b) ∙ ap length near in
    sym (take-take (length a) (length b) c (omega (arith, e))) ∙ ap (take (length a)) far ∙ near

-- one more digit
pub glyphs_more : (a b c ds : List ℕ) (i : ℕ) → i < length ds → b ≡ a ++ glyphs (take i ds) → c ≡ b ++ (48 + get_or ds i 0) ∷ [] → c ≡ a ++ glyphs (take (i + 1) ds)
glyphs_more a b c ds i h before more =
    more ∙ ap (λ l. l ++ (48 + get_or ds i 0) ∷ []) before ∙ append_assoc a (glyphs (take i ds)) _ ∙ ap (λ l. a ++ l) (sym (map_more (λ d. 48 + d) ds i 0 h))

pub fraction_appended : (a b ds : List ℕ) → eqb (length ds) 0 ≡ false → b ≡ a ++ 46 ∷ [] → b ++ glyphs ds ≡ a ++ fraction_text ds
fraction_appended a b ds some e = rw some (ap (λ l. l ++ glyphs ds) e ∙ append_assoc a (46 ∷ []) (glyphs ds))

pub whole_appended : (a ds shown : List ℕ) → shown ≡ significant ds → eqb (length shown) 0 ≡ false → a ++ glyphs shown ≡ a ++ whole_text ds
whole_appended a ds shown is some =
    let many = ap (λ l. eqb (length l) 0) (sym is) ∙ some in
    rw many (ap (λ l. a ++ glyphs l) is)

pub decimal_appended : (v : DecimalParts) (a b c before after : List ℕ) → before ≡ v.before → after ≡ v.after → b ≡ a ++ sign_text v.negative → c ≡ b ++ whole_text before → c ++ fraction_text after ≡ a ++ decimal_text v
decimal_appended v a b c before after high low sign whole =
    ap (λ l. l ++ fraction_text after) (whole ∙ ap (λ l. l ++ whole_text before) sign) ∙ ap (λ l. ((a ++ sign_text v.negative) ++ whole_text before) ++ fraction_text l) low
    ∙ ap (λ l. ((a ++ sign_text v.negative) ++ whole_text l) ++ fraction_text v.after) high
    ∙ append_assoc (a ++ sign_text v.negative) (whole_text v.before) (fraction_text v.after)
    ∙ append_assoc a (sign_text v.negative) (whole_text v.before ++ fraction_text v.after)
