-- Strings are read back, and so is Base64.
use Rattle.std.proofs.Common.{◌≡◌, ℕ, suc, ◌<◌, ◌≤◌, Bool, true, false, not, ◌&&◌, ◌||◌, eqb, leb, eqb→eq, T, List, [], ◌∷◌, ◌++◌, refl, sym, ap, ◌∙◌, subst, append_assoc, arith, inl, inr}
use Rattle.std.specs.Prelude.{All, Ok, Err, codes, Result}
use Rattle.std.specs.List.{flat_map}
use Rattle.std.proofs.lemmas.Bool.{cases_lt, false≢true}
use Rattle.std.proofs.Math.Facts.{leb_yes}
use Rattle.std.proofs.lemmas.List.{append_cancel_left}
use Rattle.std.proofs.lemmas.Simd.{Each1-get_or}
use lib.Lanes.{Each1}
use Rattle.base64.specs.Engines.{standard}
use Rattle.base64.specs.GeneralPurpose.{IsBytes, decode_of, encode_of}
use Rattle.base64.specs.declared.decode.DecodeError.{DecodeError}
use Rattle.base64.proofs.EngineFacts.{decode_of-encode_of}
use Rattle.feed_writers.proofs.PlainLemmas.{upto, upto_sound}
use Rattle.changes_writers.specs.JsonStrings.{is_unescaped, json_byte, json_string}
use Rattle.changes_writers.specs.Base64Texts.{base64_object, base64_string}

-- ---- a list's first element and the others
abbrev first : List ℕ → ℕ
first [] = 0
first (x ∷ xs) = x

abbrev others : List ℕ → List ℕ
others [] = []
others (x ∷ xs) = xs

true_of : (b : Bool) → T b → b ≡ true
true_of true h = refl
true_of false h = absurd h

-- ---- bytes from 93 on are written unchanged; the others are compared by computation
pub above : (x : ℕ) → 93 ≤ x → is_unescaped x ≡ true
above x h = grind arith

-- at an offset that both have, the lists differ
abbrev clash : List ℕ → List ℕ → Bool
clash [] ys = false
clash (x ∷ xs) [] = false
clash (x ∷ xs) (y ∷ ys) = not (eqb x y) || clash xs ys

eqb-same : (k : ℕ) → eqb k k ≡ true
eqb-same k = grind arith

clash_sound : (xs ys s t : List ℕ) → T (clash xs ys) → xs ++ s ≡ ys ++ t → ⊥
clash_sound [] ys s t h e = absurd h
clash_sound (x ∷ xs) [] s t h e = absurd h
clash_sound (x ∷ xs) (y ∷ ys) s t h e = go (λ c. clash_sound xs ys s t c (ap others e)) (eqb x y) refl h
  where
    go : (T (clash xs ys) → ⊥) → (b : Bool) → eqb x y ≡ b → T (not b || clash xs ys) → ⊥
    go more true f c = more c
    go more false f c = false≢true (sym f ∙ ap (eqb x) (sym (ap first e)) ∙ eqb-same x)

abbrev told_apart : ℕ → ℕ → Bool
told_apart x y = eqb x y || clash (json_byte x) (json_byte y)

below_93 : (x y : ℕ) → x < 93 → y < 93 → T (told_apart x y)
below_93 x y p q = upto_sound (told_apart x) 93 (upto_sound (λ k. upto (told_apart k) 93) 93 tt x p) y q

abbrev starts_below : List ℕ → Bool
starts_below [] = false
starts_below (x ∷ xs) = leb (suc x) 93

small_first : (y : ℕ) (t : List ℕ) → y < 93 → first (json_byte y ++ t) < 93
small_first y t h = go (json_byte y) (upto_sound (λ k. starts_below (json_byte k)) 93 tt y h)
  where
    go : (l : List ℕ) → T (starts_below l) → first (l ++ t) < 93
    go [] c = absurd c
    go (x ∷ xs) c = leb_yes c

-- a byte is read back from its text
byte_read : (x y : ℕ) (s t : List ℕ) → json_byte x ++ s ≡ json_byte y ++ t → (x ≡ y) × (s ≡ t)
byte_read x y s t e = elim (cases_lt x 93) [
  | inl p ↦ elim (cases_lt y 93) [
    | inl q ↦ small (eqb x y) refl (below_93 x y p q)
    | inr q ↦ absurd (let f = ap first e in let g : first (json_byte y ++ t) ≡ y = rw (above y q) refl in omega (arith, f, g, q, small_first x s p))
  ]
  | inr p ↦ elim (cases_lt y 93) [
    | inl q ↦ absurd (let f = ap first e in let g : first (json_byte x ++ s) ≡ x = rw (above x p) refl in omega (arith, f, g, p, small_first y t q))
    | inr q ↦
        let f : x ∷ s ≡ json_byte x ++ s = rw (above x p) refl in
        let g : json_byte y ++ t ≡ y ∷ t = rw (above y q) refl in
        (ap first (f ∙ e ∙ g), ap others (f ∙ e ∙ g))
  ]
]
  where
    same : x ≡ y → (x ≡ y) × (s ≡ t)
    same f = (f, append_cancel_left (json_byte y) s t (subst (λ (k : ℕ). json_byte k ++ s ≡ json_byte y ++ t) f e))

    small : (b : Bool) → eqb x y ≡ b → T (b || clash (json_byte x) (json_byte y)) → (x ≡ y) × (s ≡ t)
    small true f c = same (eqb→eq _ _ (subst T (sym f) tt))
    small false f c = absurd (clash_sound (json_byte x) (json_byte y) s t c e)

-- no byte's text begins with a quote
no_quote : (x : ℕ) (s t : List ℕ) → json_byte x ++ s ≡ 34 ∷ t → ⊥
no_quote x s t e = elim (cases_lt x 93) [
  | inl p ↦ clash_sound (json_byte x) (34 ∷ []) s t (upto_sound (λ k. clash (json_byte k) (34 ∷ [])) 93 tt x p) e
  | inr p ↦ let g : first (json_byte x ++ s) ≡ x = rw (above x p) refl in absurd (omega (arith, ap first e, g, p))
]

content_read : (a b s t : List ℕ) → flat_map json_byte a ++ 34 ∷ s ≡ flat_map json_byte b ++ 34 ∷ t → (a ≡ b) × (s ≡ t)
content_read [] [] s t e = (refl, ap others e)
content_read [] (y ∷ b) s t e = absurd (no_quote y _ _ (sym (e ∙ append_assoc (json_byte y) (flat_map json_byte b) (34 ∷ t))))
content_read (x ∷ a) [] s t e = absurd (no_quote x _ _ (sym (append_assoc (json_byte x) (flat_map json_byte a) (34 ∷ s)) ∙ e))
content_read (x ∷ a) (y ∷ b) s t e =
    let f = byte_read x y _ _ (sym (append_assoc (json_byte x) (flat_map json_byte a) (34 ∷ s)) ∙ e ∙ append_assoc (json_byte y) (flat_map json_byte b) (34 ∷ t)) in
    let g = content_read a b s t f.1 in
    (ap (λ (k : ℕ). k ∷ a) f.0 ∙ ap (λ (l : List ℕ). y ∷ l) g.0, g.1)

string_parts : (a s : List ℕ) → json_string a ++ s ≡ 34 ∷ (flat_map json_byte a ++ 34 ∷ s)
unfolding json_string
string_parts a s = simp append_assoc

pub strings_read : (a b s t : List ℕ) → json_string a ++ s ≡ json_string b ++ t → (a ≡ b) × (s ≡ t)
strings_read a b s t e = content_read a b s t (ap others (sym (string_parts a s) ∙ e ∙ string_parts b t))

-- ---- no control characters
abbrev Printable : List ℕ → Type 0
Printable = Each1 (λ b. 32 ≤ b)

each_append : (s t : List ℕ) → Printable s → Printable t → Printable (s ++ t)
each_append [] t p q = q
each_append (x ∷ s) t p q = (p.0, each_append s t p.1 q)

abbrev all_printable : List ℕ → Bool
all_printable [] = true
all_printable (b ∷ l) = leb 32 b && all_printable l

byte_printable : (x : ℕ) → Printable (json_byte x)
byte_printable x = elim (cases_lt x 93) [
  | inl p ↦ computed (json_byte x) (upto_sound (λ k. all_printable (json_byte k)) 93 tt x p)
  | inr p ↦ rw (above x p) (omega (arith, p), tt)
]
  where
    parts : (p q : Bool) → T (p && q) → T p × T q
    parts true q h = (tt, h)
    parts false q h = absurd h

    computed : (l : List ℕ) → T (all_printable l) → Printable l
    computed [] h = tt
    computed (b ∷ l) h = let p = parts (leb 32 b) (all_printable l) h in (leb_yes p.0, computed l p.1)

content_printable : (a : List ℕ) → Printable (flat_map json_byte a)
content_printable [] = tt
content_printable (x ∷ a) = each_append (json_byte x) (flat_map json_byte a) (byte_printable x) (content_printable a)

pub string_printable : (a : List ℕ) → All (λ b. 32 ≤ b) (json_string a)
unfolding json_string
string_printable a k d lt =
    let all : Printable (json_string a) = each_append (34 ∷ flat_map json_byte a) (34 ∷ []) (omega arith, content_printable a) (omega arith, tt) in
    Each1-get_or (λ b. 32 ≤ b) (json_string a) k d lt all

-- ---- Base64
object_parts : (a s : List ℕ) → base64_object a ++ s ≡ codes "{\"base64\":" ++ (base64_string a ++ 125 ∷ s)
unfolding base64_object json_string
object_parts a s = simp append_assoc

pub no_object : (a b s t : List ℕ) → json_string a ++ s ≡ base64_object b ++ t → ⊥
no_object a b s t e =
    let f : 34 ≡ 123 = ap first (sym (string_parts a s) ∙ e ∙ object_parts b t) in
    absurd (omega (arith, f))

pub bytes_read : (a : List ℕ) → IsBytes a → decode_of standard (encode_of standard a) ≡ Ok a
bytes_read a h = decode_of-encode_of standard a refl h

abbrev value_of : Result (List ℕ) DecodeError → List ℕ
value_of (Ok v) = v
value_of (Err e) = []

encodings_read : (a b : List ℕ) → IsBytes a → IsBytes b → encode_of standard a ≡ encode_of standard b → a ≡ b
encodings_read a b p q e = ap value_of (sym (bytes_read a p) ∙ ap (decode_of standard) e ∙ bytes_read b q)

pub base64_strings_read : (a b s t : List ℕ) → IsBytes a → IsBytes b → base64_string a ++ s ≡ base64_string b ++ t → (a ≡ b) × (s ≡ t)
unfolding base64_string
base64_strings_read a b s t p q e = let f = strings_read (encode_of standard a) (encode_of standard b) s t e in (encodings_read a b p q f.0, f.1)

pub base64_objects_read : (a b s t : List ℕ) → IsBytes a → IsBytes b → base64_object a ++ s ≡ base64_object b ++ t → (a ≡ b) × (s ≡ t)
base64_objects_read a b s t p q e =
    let f = append_cancel_left (codes "{\"base64\":") _ _ (sym (object_parts a s) ∙ e ∙ object_parts b t) in
    let g = base64_strings_read a b (125 ∷ s) (125 ∷ t) p q f in
    (g.0, ap others g.1)
