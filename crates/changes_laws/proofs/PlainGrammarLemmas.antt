-- Texts of printable ASCII without quotes and backslashes, and what is made of them: dates, times, Base64, hexadecimal digits.
use Rattle.std.proofs.Common.{◌≡◌, ℕ, zero, suc, ◌+◌, ◌*◌, ◌-◌, ◌/◌, ◌%◌, ◌<◌, Bool, true, false, ◌&&◌, eqb, ltb, T, List, [], ◌∷◌, ◌++◌, length, take, replicate, get_or, refl, sym, ap, subst, append_assoc, arith}
use Rattle.std.specs.Prelude.{ℤ, pos, negsuc, IsAscii, IsUtf8, IsFalse, Some, codes, if◌then◌else◌}
use Rattle.std.specs.Fmt.{decimal, digits, digits_onto, signed_decimal, sign_text}
use Rattle.std.specs.List.{flat_map}
use Rattle.std.specs.Float.{float_is_finite}
use Rattle.std.specs.Float.Ieee.{Float, Format, nan, inf, fin}
use Rattle.std.proofs.Math.Facts.{ltb_yes}
use Rattle.std.proofs.lemmas.Str.{IsUtf8-from_ascii, IsUtf8-from_is_utf8}
use Rattle.std.proofs.lemmas.Str.Ascii.{IsAscii-cons, IsAscii-nil}
use Rattle.std.specs.Str.{is_utf8}
use lib.Lanes.{Each1}
use Rattle.base64.specs.Engines.{standard}
use Rattle.base64.specs.GeneralPurpose.{encode_of, engine_symbols}
use Rattle.base64.specs.Rfc4648.{encode_symbols, padding_len}
use Rattle.ryu.specs.Plain.{word_of}
use Rattle.rows_values.specs.TimeTexts.{micros_text, padded_decimal}
use Rattle.feed_writers.proofs.PlainLemmas.{upto_sound}
use Rattle.feed_writers.specs.TimesOfDay.{clock_text, day_text}
use Rattle.feed_writers.specs.declared.times.Clock.{Clock}
use Rattle.feed_writers.specs.declared.times.Day.{Day}
use Rattle.changes_writers.specs.Base64Texts.{base64_object, base64_string}
use Rattle.changes_writers.specs.FloatTexts.{IsFloatText}
use Rattle.changes_writers.specs.JsonStrings.{is_unescaped, json_byte, json_string}
use Rattle.changes_writers.specs.PlainText.{is_plain}
use Rattle.changes_writers.specs.TimeStrings.{date_json, datetime_json, duration_json, time_digits}
use Rattle.changes_writers.proofs.FloatLawLemmas.{float_number}
use Rattle.changes_laws.specs.JsonGrammar.{no_members, member}
use Rattle.changes_laws.proofs.StringGrammarLemmas.{utf8_known}
use Rattle.changes_laws.proofs.WrittenJson.{IsJson, string_json, first_member, no_more_members, object_json}
use Rattle.changes_laws.proofs.NumberGrammarLemmas.{written_number}

abbrev pub Plain : List ℕ → Type 0
Plain = Each1 (λ b. is_plain b ≡ true)

pub plain_append : (s t : List ℕ) → Plain s → Plain t → Plain (s ++ t)
plain_append [] t p q = q
plain_append (x ∷ s) t p q = (p.0, plain_append s t p.1 q)

plain_take : (k : ℕ) (s : List ℕ) → Plain s → Plain (take k s)
plain_take zero s p = tt
plain_take (suc k) [] p = tt
plain_take (suc k) (x ∷ s) p = (p.0, plain_take k s p.1)

true_of : (b : Bool) → T b → b ≡ true
true_of true h = refl
true_of false h = absurd h

both : (a b : Bool) → (a && b) ≡ true → (a ≡ true) × (b ≡ true)
both true b h = (refl, h)
both false b h = absurd (let no : false ≡ true = h in cc)

unchanged : (s : List ℕ) → Plain s → flat_map json_byte s ≡ s
unchanged [] p = refl
unchanged (x ∷ s) p = rw (both (is_unescaped x) (ltb x 128) p.0).0 (ap (λ (t : List ℕ). x ∷ t) (unchanged s p.1))

ascii : (s : List ℕ) → Plain s → IsAscii s
ascii [] p = IsAscii-nil
ascii (x ∷ s) p = IsAscii-cons x s (ltb_yes (subst T (sym (both (is_unescaped x) (ltb x 128) p.0).1) tt)) (ascii s p.1)

pub plain_utf8 : (s : List ℕ) → Plain s → IsUtf8 s
plain_utf8 s p = IsUtf8-from_ascii s (ascii s p)

pub plain_string : (s : List ℕ) → Plain s → json_string s ≡ 34 ∷ s ++ 34 ∷ []
unfolding json_string
plain_string s p = ap (λ (t : List ℕ). 34 ∷ t ++ 34 ∷ []) (unchanged s p)

-- a plain text in quotes
pub quoted_json : (P : Type 0) (s : List ℕ) → Plain s → IsJson P (34 ∷ s ++ 34 ∷ [])
quoted_json P s p = subst (IsJson P) (plain_string s p) (string_json P s (plain_utf8 s p))

-- the same as a string of escapes, of which it needs none
pub plain_json : (P : Type 0) (s : List ℕ) → Plain s → IsJson P (json_string s)
plain_json P s p = string_json P s (plain_utf8 s p)

-- a text that is known
abbrev pub all_plain : List ℕ → Bool
all_plain [] = true
all_plain (b ∷ l) = is_plain b && all_plain l

pub plain_known : (l : List ℕ) → T (all_plain l) → Plain l
plain_known [] h = tt
plain_known (b ∷ l) h = let p = both (is_plain b) (all_plain l) (true_of _ h) in (p.0, plain_known l (subst T (sym p.1) tt))

-- ---- digits
pub digit_plain : (n : ℕ) → n < 10 → is_plain (48 + n) ≡ true
digit_plain n h = true_of _ (upto_sound (λ k. is_plain (48 + k)) 10 tt n h)

glyph_plain : (n : ℕ) → n < 10 → is_plain (if ltb n 10 then 48 + n else 87 + n) ≡ true
glyph_plain n h = true_of _ (upto_sound (λ k. is_plain (if ltb k 10 then 48 + k else 87 + k)) 10 tt n h)

digits_plain : (k n : ℕ) (s : List ℕ) → Plain s → Plain (digits_onto k 10 false n s)
digits_plain zero n s p = p
digits_plain (suc k) n s p =
    let g = if ltb (n % 10) 10 then 48 + n % 10 else 87 + n % 10 in
    let q = glyph_plain (n % 10) (omega arith) in
    go (eqb (n / 10) 0) (g ∷ s) (digits_onto k 10 false (n / 10) (g ∷ s)) (q, p) (digits_plain k (n / 10) (g ∷ s) (q, p))
  where
    go : (b : Bool) (x y : List ℕ) → Plain x → Plain y → Plain (if b then x else y)
    go true x y h m = h
    go false x y h m = m

pub decimal_plain : (n : ℕ) → Plain (decimal n)
unfolding digits
decimal_plain n = digits_plain 64 n [] tt

pub sign_plain : (b : Bool) → Plain (sign_text b)
sign_plain true = (refl, tt)
sign_plain false = tt

pub signed_plain : (z : ℤ) → Plain (signed_decimal z)
signed_plain (pos n) = decimal_plain n
signed_plain (negsuc n) = (refl, decimal_plain (suc n))

zeros_plain : (k : ℕ) → Plain (replicate k 48)
zeros_plain zero = tt
zeros_plain (suc k) = (refl, zeros_plain k)

-- ---- dates and times
pub padded_plain : (w n : ℕ) → Plain (padded_decimal w n)
unfolding padded_decimal
padded_plain w n = plain_append (replicate (w - length (decimal n)) 48) (decimal n) (zeros_plain (w - length (decimal n))) (decimal_plain n)

micros_plain : (d n : ℕ) → Plain (micros_text (Some d) n)
unfolding micros_text
micros_plain d n = go (eqb d 0)
  where
    go : (b : Bool) → Plain (if b then [] else 46 ∷ take d (padded_decimal 6 (n % 1000000)))
    go true = tt
    go false = (refl, plain_take d (padded_decimal 6 (n % 1000000)) (padded_plain 6 (n % 1000000)))

-- `hh:mm:ss` and what follows it
pub clock_plain : (h m s : ℕ) (rest : List ℕ) → Plain rest → Plain (padded_decimal 2 h ++ 58 ∷ padded_decimal 2 m ++ 58 ∷ padded_decimal 2 s ++ rest)
clock_plain h m s rest p =
    let a = padded_decimal 2 h ++ 58 ∷ padded_decimal 2 m in
    let b = plain_append a (58 ∷ padded_decimal 2 s) (plain_append (padded_decimal 2 h) (58 ∷ padded_decimal 2 m) (padded_plain 2 h) (refl, padded_plain 2 m)) (refl, padded_plain 2 s) in
    plain_append (a ++ 58 ∷ padded_decimal 2 s) rest b p

pub time_plain : (d : ℕ) (c : Clock) → Plain (time_digits d c)
unfolding time_digits
time_plain d c = clock_plain c.hour c.minute c.second (micros_text (Some d) c.micros) (micros_plain d c.micros)

pub clock_text_plain : (c : Clock) → Plain (clock_text c)
unfolding clock_text
clock_text_plain c = clock_plain c.hour c.minute c.second (46 ∷ padded_decimal 6 c.micros) (refl, padded_plain 6 c.micros)

pub day_plain : (d : Day) → Plain (day_text d)
unfolding day_text
day_plain d =
    let a = padded_decimal 4 d.year ++ 45 ∷ padded_decimal 2 d.month in
    plain_append a (45 ∷ padded_decimal 2 d.day) (plain_append (padded_decimal 4 d.year) (45 ∷ padded_decimal 2 d.month) (padded_plain 4 d.year) (refl, padded_plain 2 d.month)) (refl, padded_plain 2 d.day)

pub date_is_json : (P : Type 0) (d : Day) → IsJson P (date_json d)
unfolding date_json
date_is_json P d = plain_json P (day_text d) (day_plain d)

pub datetime_is_json : (P : Type 0) (n : ℕ) (d : Day) (c : Clock) → IsJson P (datetime_json n d c)
unfolding datetime_json
datetime_is_json P n d c = plain_json P (day_text d ++ 32 ∷ time_digits n c) (plain_append (day_text d) (32 ∷ time_digits n c) (day_plain d) (refl, time_plain n c))

pub duration_is_json : (P : Type 0) (n : ℕ) (b : Bool) (c : Clock) → IsJson P (duration_json n b c)
unfolding duration_json
duration_is_json P n b c = plain_json P (sign_text b ++ time_digits n c) (plain_append (sign_text b) (time_digits n c) (sign_plain b) (time_plain n c))

-- ---- Base64: symbols are ASCII; a number that has none would be byte 0
abbrev Ascii : List ℕ → Type 0
Ascii = Each1 (λ b. b < 128)

ascii_append : (s t : List ℕ) → Ascii s → Ascii t → Ascii (s ++ t)
ascii_append [] t p q = q
ascii_append (x ∷ s) t p q = (p.0, ascii_append s t p.1 q)

ascii_utf8 : (s : List ℕ) → Ascii s → IsUtf8 s
ascii_utf8 s p = IsUtf8-from_ascii s (of s p)
  where
    of : (s : List ℕ) → Ascii s → IsAscii s
    of [] p = IsAscii-nil
    of (x ∷ s) p = IsAscii-cons x s p.0 (of s p.1)

abbrev all_below : List ℕ → Bool
all_below [] = true
all_below (b ∷ l) = ltb b 128 && all_below l

at_below : (l : List ℕ) → T (all_below l) → (k : ℕ) → get_or l k 0 < 128
at_below [] h k = omega arith
at_below (b ∷ l) h zero = ltb_yes (subst T (sym (both (ltb b 128) (all_below l) (true_of _ h)).0) tt)
at_below (b ∷ l) h (suc k) = at_below l (subst T (sym (both (ltb b 128) (all_below l) (true_of _ h)).1) tt) k

abbrev symbols : List ℕ
symbols = engine_symbols standard

symbol_below : (k : ℕ) → get_or symbols k 0 < 128
symbol_below k = at_below symbols tt k

symbols_ascii : (m : List ℕ) → Ascii (encode_symbols symbols m)
unfolding encode_symbols
symbols_ascii [] = tt
symbols_ascii (a ∷ []) = (symbol_below (a / 4), (symbol_below (a % 4 * 16), tt))
symbols_ascii (a ∷ b ∷ []) = (symbol_below (a / 4), (symbol_below (a % 4 * 16 + b / 16), (symbol_below (b % 16 * 4), tt)))
symbols_ascii (a ∷ b ∷ c ∷ rest) =
    (symbol_below (a / 4), (symbol_below (a % 4 * 16 + b / 16), (symbol_below (b % 16 * 4 + c / 64), (symbol_below (c % 64), symbols_ascii rest))))

padding_ascii : (k : ℕ) → Ascii (replicate k 61)
padding_ascii zero = tt
padding_ascii (suc k) = (omega arith, padding_ascii k)

encoded_ascii : (m : List ℕ) → Ascii (encode_of standard m)
encoded_ascii m = ascii_append (encode_symbols symbols m) (replicate (padding_len (length m)) 61) (symbols_ascii m) (padding_ascii (padding_len (length m)))

pub base64_string_json : (P : Type 0) (m : List ℕ) → IsJson P (base64_string m)
unfolding base64_string
base64_string_json P m = string_json P (encode_of standard m) (ascii_utf8 (encode_of standard m) (encoded_ascii m))

pub base64_object_json : (P : Type 0) (m : List ℕ) → IsJson P (base64_object m)
unfolding base64_object
base64_object_json P m =
    let j = base64_string_json P m in
    let one = first_member P (codes "base64") (base64_string m) [] no_members (utf8_known (codes "base64") tt) j (no_more_members P) in
    subst (IsJson P) (simp append_assoc) (object_json P (member (codes "base64") j.value no_members) _ one (λ p. (tt, tt)))

-- a string if the bytes are UTF-8, and otherwise an object
pub utf8_or_object : (P : Type 0) (bytes : List ℕ) → IsJson P (if is_utf8 bytes then json_string bytes else base64_object bytes)
utf8_or_object P bytes = go (is_utf8 bytes) refl
  where
    go : (b : Bool) → is_utf8 bytes ≡ b → IsJson P (if b then json_string bytes else base64_object bytes)
    go true h = string_json P bytes (IsUtf8-from_is_utf8 bytes h)
    go false h = base64_object_json P bytes

-- ---- floats
word_plain : (x : Float) → IsFalse (float_is_finite x) → Plain (word_of x)
unfolding float_is_finite
word_plain nan h = plain_known (codes "NaN") tt
word_plain (inf true) h = plain_known (codes "-inf") tt
word_plain (inf false) h = plain_known (codes "inf") tt
word_plain (fin s m k) h = absurd (let no : true ≡ false = h in cc)

pub float_json : (P : Type 0) (f : Format) (w z : ℕ) (x : Float) (text : List ℕ) → IsFloatText f w z x text → IsJson P text
float_json P f w z x text t = go (float_is_finite x) refl
  where
    go : (b : Bool) → float_is_finite x ≡ b → IsJson P text
    go true h = written_number P text (float_number f w z x text h t)
    go false h = subst (IsJson P) (sym (t.word h)) (plain_json P (word_of x) (word_plain x h))
