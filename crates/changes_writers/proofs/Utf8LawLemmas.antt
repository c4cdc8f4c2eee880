-- The string of a text in UTF-8 is a text in UTF-8.
use Rattle.std.proofs.Common.{◌≡◌, ℕ, ◌+◌, ◌/◌, ◌%◌, ◌≤◌, Bool, true, false, ◌&&◌, cond, ltb, T, List, [], ◌∷◌, refl, sym, ap, ◌∙◌, subst, arith, inl, inr}
use Rattle.std.specs.Prelude.{IsAscii, IsUtf8}
use Rattle.std.specs.Char.{IsScalar}
use Rattle.std.specs.List.{flat_map}
use Rattle.std.proofs.lemmas.Bool.{cases_lt, false≢true}
use Rattle.std.proofs.lemmas.List.{append-nil}
use Rattle.std.proofs.lemmas.List.Concat.{flat_map-append}
use Rattle.std.proofs.lemmas.Str.{IsUtf8-append, IsUtf8-encode, IsUtf8-from_ascii, IsUtf8-nil, encode_ascii}
use Rattle.std.proofs.lemmas.Str.Ascii.{IsAscii-cons, IsAscii-nil}
use Rattle.std.proofs.Math.Facts.{ltb_yes}
use lib.Utf8.{encode, encodes, scalar, scalars}
use Rattle.feed_writers.proofs.PlainLemmas.{upto_sound}
use Rattle.changes_writers.specs.JsonStrings.{json_byte, json_string}
use Rattle.changes_writers.proofs.StringLawLemmas.{above}

abbrev all_ascii : List ℕ → Bool
all_ascii [] = true
all_ascii (x ∷ xs) = ltb x 128 && all_ascii xs

parts : (a b : Bool) → T (a && b) → T a × T b
parts true b h = (tt, h)
parts false b h = absurd h

ascii : (xs : List ℕ) → T (all_ascii xs) → IsAscii xs
ascii [] h = IsAscii-nil
ascii (x ∷ xs) h = let p = parts (ltb x 128) (all_ascii xs) h in IsAscii-cons x xs (ltb_yes p.0) (ascii xs p.1)

-- bytes from 93 on are written unchanged
two_unchanged : (x y : ℕ) → 93 ≤ x → 93 ≤ y → flat_map json_byte (x ∷ y ∷ []) ≡ x ∷ y ∷ []
two_unchanged x y p q = rw (above x p, above y q) refl

three_unchanged : (x y z : ℕ) → 93 ≤ x → 93 ≤ y → 93 ≤ z → flat_map json_byte (x ∷ y ∷ z ∷ []) ≡ x ∷ y ∷ z ∷ []
three_unchanged x y z p q r = rw (above x p, above y q, above z r) refl

four_unchanged : (x y z w : ℕ) → 93 ≤ x → 93 ≤ y → 93 ≤ z → 93 ≤ w → flat_map json_byte (x ∷ y ∷ z ∷ w ∷ []) ≡ x ∷ y ∷ z ∷ w ∷ []
four_unchanged x y z w p q r s = rw (above x p, above y q, above z r, above w s) refl

wide_unchanged : (c : ℕ) → 128 ≤ c → flat_map json_byte (encode c) ≡ encode c
unfolding encode
wide_unchanged c h = go (ltb c 128) (ltb c 2048) (ltb c 65536) refl
  where
    go : (a b d : Bool) → ltb c 128 ≡ a
        → flat_map json_byte (cond a (c ∷ []) (cond b ((192 + c / 64) ∷ (128 + c % 64) ∷ []) (cond d ((224 + c / 4096) ∷ (128 + c / 64 % 64) ∷ (128 + c % 64) ∷ []) ((240 + c / 262144) ∷ (128 + c / 4096 % 64) ∷ (128 + c / 64 % 64) ∷ (128 + c % 64) ∷ []))))
        ≡ cond a (c ∷ []) (cond b ((192 + c / 64) ∷ (128 + c % 64) ∷ []) (cond d ((224 + c / 4096) ∷ (128 + c / 64 % 64) ∷ (128 + c % 64) ∷ []) ((240 + c / 262144) ∷ (128 + c / 4096 % 64) ∷ (128 + c / 64 % 64) ∷ (128 + c % 64) ∷ [])))
    go true b d e = let low = ltb_yes (subst T (sym e) tt) in absurd (omega (arith, h, low))
    go false true d e = two_unchanged (192 + c / 64) (128 + c % 64) (omega arith) (omega arith)
    go false false true e = three_unchanged (224 + c / 4096) (128 + c / 64 % 64) (128 + c % 64) (omega arith) (omega arith) (omega arith)
    go false false false e = four_unchanged (240 + c / 262144) (128 + c / 4096 % 64) (128 + c / 64 % 64) (128 + c % 64) (omega arith) (omega arith) (omega arith) (omega arith)

character_utf8 : (c : ℕ) → IsScalar c → IsUtf8 (flat_map json_byte (encode c))
character_utf8 c h = elim (cases_lt c 128) [
  | inl low ↦
      let e : flat_map json_byte (encode c) ≡ json_byte c = ap (flat_map json_byte) (encode_ascii c low) ∙ append-nil (json_byte c) in
      subst IsUtf8 (sym e) (IsUtf8-from_ascii (json_byte c) (ascii (json_byte c) (upto_sound (λ k. all_ascii (json_byte k)) 128 tt c low)))
  | inr high ↦ subst IsUtf8 (sym (wide_unchanged c high)) (IsUtf8-encode c h)
]

both : (a b : Bool) → a && b ≡ true → (a ≡ true) × (b ≡ true)
both true b h = (refl, h)
both false b h = absurd (false≢true h)

content_utf8 : (cs : List ℕ) → scalars cs ≡ true → IsUtf8 (flat_map json_byte (encodes cs))
content_utf8 [] h = IsUtf8-nil
content_utf8 (c ∷ cs) h =
    let p = both (scalar c) (scalars cs) h in
    subst IsUtf8 (sym (flat_map-append json_byte (encode c) (encodes cs))) (IsUtf8-append _ _ (character_utf8 c p.0) (content_utf8 cs p.1))

quote_utf8 : IsUtf8 (34 ∷ [])
quote_utf8 = IsUtf8-from_ascii (34 ∷ []) (ascii (34 ∷ []) tt)

pub string_utf8 : (bytes : List ℕ) → IsUtf8 bytes → IsUtf8 (json_string bytes)
unfolding json_string
string_utf8 bytes h =
    let content : IsUtf8 (flat_map json_byte bytes) = subst (λ (t : List ℕ). IsUtf8 (flat_map json_byte t)) h.1.1 (content_utf8 h.0 h.1.0) in
    IsUtf8-append (34 ∷ flat_map json_byte bytes) (34 ∷ []) (IsUtf8-append (34 ∷ []) (flat_map json_byte bytes) quote_utf8 content) quote_utf8
