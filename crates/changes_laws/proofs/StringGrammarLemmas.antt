-- The strings that are written are strings of RFC 8259.
use Rattle.std.proofs.Common.{◌≡◌, ℕ, ◌+◌, ◌/◌, ◌%◌, ◌<◌, ◌≤◌, Bool, true, false, not, ◌&&◌, cond, eqb, leb, ltb, eqb→eq, T, List, [], ◌∷◌, refl, sym, ap, ◌∙◌, subst, arith, inl, inr, Some, None, Option}
use Rattle.std.specs.Prelude.{◌≢◌, IsAscii, IsUtf8}
use Rattle.std.specs.Char.{IsScalar, digit_value}
use Rattle.std.specs.List.{flat_map}
use Rattle.std.specs.Str.Parse.{AllDigits, digits_value}
use Rattle.std.proofs.lemmas.Bool.{cases_lt, false≢true}
use Rattle.std.proofs.lemmas.List.{append-nil}
use Rattle.std.proofs.lemmas.List.Concat.{flat_map-append}
use Rattle.std.proofs.lemmas.Str.{encode_ascii, IsUtf8-from_ascii}
use Rattle.std.proofs.lemmas.Str.Ascii.{IsAscii-cons, IsAscii-nil}
use Rattle.std.proofs.Math.Facts.{ltb_yes}
use lib.Utf8.{encode, encodes, scalar, scalars}
use Rattle.feed_writers.proofs.PlainLemmas.{upto_sound}
use Rattle.changes_writers.specs.JsonStrings.{is_unescaped, escape_letter, code_digits, json_byte, json_string}
use Rattle.changes_writers.proofs.StringLawLemmas.{above}
use Rattle.changes_laws.specs.JsonGrammar.{IsChar, unescaped, escaped, code, AreChars, IsString, escaped_character}

-- ---- the bytes of a character that isn't ASCII are written unchanged
two_unchanged : (x y : ℕ) → 93 ≤ x → 93 ≤ y → flat_map json_byte (x ∷ y ∷ []) ≡ x ∷ y ∷ []
two_unchanged x y p q = rw (above x p, above y q) refl

three_unchanged : (x y z : ℕ) → 93 ≤ x → 93 ≤ y → 93 ≤ z → flat_map json_byte (x ∷ y ∷ z ∷ []) ≡ x ∷ y ∷ z ∷ []
three_unchanged x y z p q r = rw (above x p, above y q, above z r) refl

four_unchanged : (x y z w : ℕ) → 93 ≤ x → 93 ≤ y → 93 ≤ z → 93 ≤ w → flat_map json_byte (x ∷ y ∷ z ∷ w ∷ []) ≡ x ∷ y ∷ z ∷ w ∷ []
four_unchanged x y z w p q r s = rw (above x p, above y q, above z r, above w s) refl

wide_unchanged : (c : ℕ) → 128 ≤ c → flat_map json_byte (encode c) ≡ encode c
unfolding encode
wide_unchanged c h = go (ltb c 128) (ltb c 2048) (ltb c 65536) refl
  where
    go : (a b d : Bool) → ltb c 128 ≡ a
        → flat_map json_byte (cond a (c ∷ []) (cond b ((192 + c / 64) ∷ (128 + c % 64) ∷ []) (cond d ((224 + c / 4096) ∷ (128 + c / 64 % 64) ∷ (128 + c % 64) ∷ []) ((240 + c / 262144) ∷ (128 + c / 4096 % 64) ∷ (128 + c / 64 % 64) ∷ (128 + c % 64) ∷ []))))
        ≡ cond a (c ∷ []) (cond b ((192 + c / 64) ∷ (128 + c % 64) ∷ []) (cond d ((224 + c / 4096) ∷ (128 + c / 64 % 64) ∷ (128 + c % 64) ∷ []) ((240 + c / 262144) ∷ (128 + c / 4096 % 64) ∷ (128 + c / 64 % 64) ∷ (128 + c % 64) ∷ [])))
    go true b d e = let low = ltb_yes (subst T (sym e) tt) in absurd (omega (arith, h, low))
    go false true d e = two_unchanged (192 + c / 64) (128 + c % 64) (omega arith) (omega arith)
    go false false true e = three_unchanged (224 + c / 4096) (128 + c / 64 % 64) (128 + c % 64) (omega arith) (omega arith) (omega arith)
    go false false false e = four_unchanged (240 + c / 262144) (128 + c / 4096 % 64) (128 + c / 64 % 64) (128 + c % 64) (omega arith) (omega arith) (omega arith) (omega arith)

wide_char : (c : ℕ) → IsScalar c → 128 ≤ c → IsChar c (flat_map json_byte (encode c))
wide_char c s h = subst (IsChar c) (sym (wide_unchanged c h)) (unescaped s (omega arith) (λ e. absurd (omega (arith, e))) (λ e. absurd (omega (arith, e))))

-- ---- an ASCII character is itself, or has one of the escapes
abbrev are_hexadecimal : List ℕ → Bool
are_hexadecimal [] = true
are_hexadecimal (d ∷ ds) = ltb (digit_value d) 16 && are_hexadecimal ds

abbrev is_some_of : ℕ → Option ℕ → Bool
is_some_of c None = false
is_some_of c (Some d) = eqb c d

-- how a byte is written
abbrev is_known : ℕ → Bool
is_known c = cond (is_unescaped c) (leb 32 c && (not (eqb c 34) && not (eqb c 92)))
    (cond (eqb (escape_letter c) 117) (are_hexadecimal (code_digits c) && eqb (digits_value 16 (code_digits c)) c) (is_some_of c (escaped_character (escape_letter c))))

both : (a b : Bool) → T (a && b) → T a × T b
both true b h = (tt, h)
both false b h = absurd h

hexadecimal : (ds : List ℕ) → T (are_hexadecimal ds) → AllDigits 16 ds
hexadecimal [] h = tt
hexadecimal (d ∷ ds) h = let p = both (ltb (digit_value d) 16) (are_hexadecimal ds) h in (ltb_yes p.0, hexadecimal ds p.1)

some_of : (c : ℕ) (o : Option ℕ) → T (is_some_of c o) → o ≡ Some c
some_of c None h = absurd h
some_of c (Some d) h = ap Some (sym (eqb→eq c d h))

not_equal : (a b : ℕ) → T (not (eqb a b)) → a ≢ b
not_equal a b h = λ e. go (eqb a b) refl (subst (λ (k : ℕ). eqb a k ≡ true) e (search arith)) h
  where
    go : (x : Bool) → eqb a b ≡ x → eqb a b ≡ true → T (not x) → ⊥
    go true p q n = n
    go false p q n = false≢true (sym p ∙ q)

ascii_char : (c : ℕ) → IsScalar c → c < 128 → IsChar c (json_byte c)
ascii_char c s low = go (is_unescaped c) (eqb (escape_letter c) 117) refl refl (upto_sound is_known 128 tt c low)
  where
    go : (u l : Bool) → is_unescaped c ≡ u → eqb (escape_letter c) 117 ≡ l
        → T (cond u (leb 32 c && (not (eqb c 34) && not (eqb c 92))) (cond l (are_hexadecimal (code_digits c) && eqb (digits_value 16 (code_digits c)) c) (is_some_of c (escaped_character (escape_letter c)))))
        → IsChar c (cond u (c ∷ []) (92 ∷ escape_letter c ∷ cond l (code_digits c) []))
    go true l p q h =
        let a = both (leb 32 c) (not (eqb c 34) && not (eqb c 92)) h in
        let b = both (not (eqb c 34)) (not (eqb c 92)) a.1 in
        subst (IsChar c) (encode_ascii c low) (unescaped s (search arith) (not_equal c 34 b.0) (not_equal c 92 b.1))
    go false true p q h =
        let a = both (are_hexadecimal (code_digits c)) (eqb (digits_value 16 (code_digits c)) c) h in
        let letter : escape_letter c ≡ 117 = eqb→eq _ _ (subst T (sym q) tt) in
        subst (λ (k : ℕ). IsChar c (92 ∷ k ∷ code_digits c)) (sym letter) (code s (record { four = refl; digits = hexadecimal (code_digits c) a.0; value = eqb→eq _ _ a.1 }))
    go false false p q h = escaped (some_of c (escaped_character (escape_letter c)) h)

char_written : (c : ℕ) → IsScalar c → IsChar c (flat_map json_byte (encode c))
char_written c s = elim (cases_lt c 128) [
  | inl low ↦ subst (IsChar c) (sym (append-nil (json_byte c)) ∙ ap (flat_map json_byte) (sym (encode_ascii c low))) (ascii_char c s low)
  | inr high ↦ wide_char c s high
]

scalar_and : (a b : Bool) → a && b ≡ true → (a ≡ true) × (b ≡ true)
scalar_and true b h = (refl, h)
scalar_and false b h = absurd (false≢true h)

chars_written : (cs : List ℕ) → scalars cs ≡ true → AreChars cs (flat_map json_byte (encodes cs))
chars_written [] h = refl
chars_written (c ∷ cs) h =
    let p = scalar_and (scalar c) (scalars cs) h in
    (flat_map json_byte (encode c), flat_map json_byte (encodes cs), char_written c p.0, chars_written cs p.1, flat_map-append json_byte (encode c) (encodes cs))

-- the string of a text in UTF-8 is a string of this text
pub string_is : (s : List ℕ) → IsUtf8 s → IsString s (json_string s)
unfolding json_string
string_is s h = record {
  characters = h.0;
  content = flat_map json_byte s;
  are = subst (λ (t : List ℕ). AreChars h.0 (flat_map json_byte t)) h.1.1 (chars_written h.0 h.1.0);
  is = refl;
  value_is = sym h.1.1;
}

-- ---- ASCII
abbrev pub all_ascii : List ℕ → Bool
all_ascii [] = true
all_ascii (x ∷ xs) = ltb x 128 && all_ascii xs

ascii : (xs : List ℕ) → T (all_ascii xs) → IsAscii xs
ascii [] h = IsAscii-nil
ascii (x ∷ xs) h = let p = both (ltb x 128) (all_ascii xs) h in IsAscii-cons x xs (ltb_yes p.0) (ascii xs p.1)

-- a text that is known to be ASCII
pub utf8_known : (s : List ℕ) → T (all_ascii s) → IsUtf8 s
utf8_known s h = IsUtf8-from_ascii s (ascii s h)
