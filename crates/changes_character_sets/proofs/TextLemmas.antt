-- Texts, character by character.
use Rattle.std.proofs.Common.{◌≡◌, ◌<◌, ◌≤◌, ◌-◌, ◌+◌, ◌/◌, ◌%◌, ℕ, ◌⊎◌, inl, inr, List, [], ◌∷◌, ◌++◌, length, arith, refl, sym, ap, ◌∙◌, subst, true, append_assoc, length-append, zero, suc, Result, Ok, Err}
use lib.Utf8.{scalars, low_scalar}
use Rattle.std.specs.Str.{IsUtf8, IsAscii}
use Rattle.std.proofs.lemmas.List.{append-nil}
use Rattle.std.proofs.lemmas.Bool.{false≢true}
use Rattle.std.specs.Result.{result_ok, MatchResult}
use Rattle.std.specs.Option.{IfSome, IfNone}
use denote.Bor.{Bor}
use Rattle.std.specs.Cmp.Derive.{both_true}
use Rattle.changes_character_sets.proofs.CharacterLemmas.{left_true, right_true}
use Rattle.std.specs.Prelude.{encode_utf8_all}
use Rattle.std.specs.Char.{IsScalar, encode_utf8}
use Rattle.std.specs.Char.Escape.{encode_utf16}
use Rattle.std.specs.List.{flat_map}
use Rattle.std.proofs.lemmas.Bool.Decides.{nat_tests}
use Rattle.std.proofs.lemmas.Str.{length-encode, len_utf8_bounds, encode_same, encodes-IsAscii, IsUtf8-from_ascii}
use Rattle.changes_character_sets.specs.Texts.{high_first, low_first, IsEncodingOf, BeginsWith, BeginsWithNone, AreEncodingsOf, IsTextOf, AppendsText, is_utf8_already}
use Rattle.changes_character_sets.specs.declared.character_set.CharacterSet.{CharacterSet}
use Rattle.changes_character_sets.specs.declared.character_set.CharacterSet.TheVariants.{Utf8, Ascii, Ucs2, Utf16, Utf16Le, Utf32, SingleByte}

-- one unit of UTF-16, or two
units_of : (c : ℕ) → ((c < 65536) × (encode_utf16 c ≡ c ∷ [])) ⊎ ((65536 ≤ c) × (encode_utf16 c ≡ (0xD800 + (c - 0x1_0000) / 0x400) ∷ (0xDC00 + (c - 0x1_0000) % 0x400) ∷ []))
units_of c = grind (arith, nat_tests)

same_16 : (c d : ℕ) (r q : List ℕ) → IsScalar c → IsScalar d → flat_map high_first (encode_utf16 c) ++ r ≡ flat_map high_first (encode_utf16 d) ++ q → (c ≡ d) × (r ≡ q)
same_16 c d r q s t e = grind (arith, nat_tests)

same_16_le : (c d : ℕ) (r q : List ℕ) → IsScalar c → IsScalar d → flat_map low_first (encode_utf16 c) ++ r ≡ flat_map low_first (encode_utf16 d) ++ q → (c ≡ d) × (r ≡ q)
same_16_le c d r q s t e = grind (arith, nat_tests)

same_32 : (c d : ℕ) (r q : List ℕ) → (high_first (c / 65536) ++ high_first (c % 65536)) ++ r ≡ (high_first (d / 65536) ++ high_first (d % 65536)) ++ q → (c ≡ d) × (r ≡ q)
same_32 c d r q e = grind arith

same_ucs2 : (c d : ℕ) (r q : List ℕ) → high_first c ++ r ≡ high_first d ++ q → (c ≡ d) × (r ≡ q)
same_ucs2 c d r q e = grind arith

-- the encodings of two characters, each at the start of the same bytes
same_start : (s : CharacterSet) (c d : ℕ) (e f r q : List ℕ) → IsScalar c → IsScalar d → IsEncodingOf s c e → IsEncodingOf s d f → e ++ r ≡ f ++ q → (c ≡ d) × (r ≡ q)
same_start Utf8 c d e f r q x y i j h = encode_same c d r q cc
same_start Ascii c d e f r q x y i j h = (cc, cc)
same_start Ucs2 c d e f r q x y i j h = same_ucs2 c d r q cc
same_start Utf16 c d e f r q x y i j h = same_16 c d r q x y cc
same_start Utf16Le c d e f r q x y i j h = same_16_le c d r q x y cc
same_start Utf32 c d e f r q x y i j h = same_32 c d r q cc
same_start (SingleByte table) c d e f r q x y i j h = (cc, cc)

-- no character is encoded by no bytes
some_byte : (s : CharacterSet) (c : ℕ) (e : List ℕ) → IsEncodingOf s c e → 0 < length e
some_byte Utf8 c e i = omega (arith, ap length i, length-encode c, len_utf8_bounds c)
some_byte Ascii c e i = omega (arith, ap length i.1)
some_byte Ucs2 c e i = omega (arith, ap length i.1)
some_byte Utf16 c e i = elim (units_of c) [ inl u ↦ omega (arith, ap length (i ∙ ap (flat_map high_first) u.1)) | inr u ↦ omega (arith, ap length (i ∙ ap (flat_map high_first) u.1)) ]
some_byte Utf16Le c e i = elim (units_of c) [ inl u ↦ omega (arith, ap length (i ∙ ap (flat_map low_first) u.1)) | inr u ↦ omega (arith, ap length (i ∙ ap (flat_map low_first) u.1)) ]
some_byte Utf32 c e i = omega (arith, ap length i)
some_byte (SingleByte t) c e i = omega (arith, ap length i.1)

-- bytes begin with one character at most
one_character : (s : CharacterSet) (bytes rest more : List ℕ) (c d : ℕ) → BeginsWith s bytes c rest → BeginsWith s bytes d more → (c ≡ d) × (rest ≡ more)
one_character s bytes rest more c d b k = same_start s c d b.encoding k.encoding rest more b.scalar k.scalar b.encoded k.encoded (sym b.split ∙ k.split)

pub text_of_nothing : (s : CharacterSet) → IsTextOf s [] []
unfolding IsTextOf
text_of_nothing s = ([], refl, refl)

pub text_more : (s : CharacterSet) (bytes rest text : List ℕ) (c : ℕ) → BeginsWith s bytes c rest → IsTextOf s rest text → IsTextOf s bytes (encode_utf8 c ++ text)
unfolding IsTextOf
text_more s bytes rest text c b t = (c ∷ t.0, (rest, b, t.1), ap (λ x. encode_utf8 c ++ x) t.2)

-- a character at the start, if there are bytes
pub text_begins : (s : CharacterSet) (bytes text : List ℕ) → 0 < length bytes → IsTextOf s bytes text → (c : ℕ) × (rest : List ℕ) × BeginsWith s bytes c rest
unfolding IsTextOf
text_begins s bytes text h t = by_characters t.0 t.1 where
  by_characters : (cs : List ℕ) → AreEncodingsOf s cs bytes → (c : ℕ) × (rest : List ℕ) × BeginsWith s bytes c rest
  by_characters [] e = absurd (omega (arith, ap length e))
  by_characters (c ∷ cs) e = (c, e.0, e.1)

-- the text after the character at the start
pub text_after : (s : CharacterSet) (bytes rest text : List ℕ) (c : ℕ) → BeginsWith s bytes c rest → IsTextOf s bytes text → (more : List ℕ) × IsTextOf s rest more × (text ≡ encode_utf8 c ++ more)
unfolding IsTextOf
text_after s bytes rest text c b t = by_characters t.0 t.1 t.2 where
  by_characters : (cs : List ℕ) → AreEncodingsOf s cs bytes → text ≡ encode_utf8_all cs → (more : List ℕ) × IsTextOf s rest more × (text ≡ encode_utf8 c ++ more)
  by_characters [] e f = absurd (omega (arith, some_byte s c b.encoding b.encoded, ap length (sym b.split ∙ e), length-append b.encoding rest))
  by_characters (d ∷ cs) e f =
      let same = one_character s bytes rest e.0 c d b e.1 in
      (encode_utf8_all cs, (cs, subst (AreEncodingsOf s cs) (sym same.1) e.2, refl), f ∙ ap (λ x. encode_utf8 x ++ encode_utf8_all cs) (sym same.0))

nothing_after : (s : CharacterSet) (cs bytes : List ℕ) → length bytes ≡ 0 → AreEncodingsOf s cs bytes → cs ≡ []
nothing_after s [] bytes h e = refl
nothing_after s (c ∷ cs) bytes h e =
    absurd (omega (arith, some_byte s c e.1.encoding e.1.encoded, ap length e.1.split, length-append e.1.encoding e.0))

one_text_by : (s : CharacterSet) (cs bytes other : List ℕ) → AreEncodingsOf s cs bytes → IsTextOf s bytes other → encode_utf8_all cs ≡ other
unfolding IsTextOf
one_text_by s [] bytes other e t = sym (t.2 ∙ ap encode_utf8_all (nothing_after s t.0 bytes (ap length e) t.1))
one_text_by s (c ∷ cs) bytes other e t =
    let after = text_after s bytes e.0 other c e.1 t in
    ap (λ x. encode_utf8 c ++ x) (one_text_by s cs e.0 after.0 e.2 after.1) ∙ sym after.2

-- at most one text
pub one_text : (s : CharacterSet) (bytes text other : List ℕ) → IsTextOf s bytes text → IsTextOf s bytes other → text ≡ other
unfolding IsTextOf
one_text s bytes text other t u = t.2 ∙ one_text_by s t.0 bytes other t.1 u

text_scalars : (s : CharacterSet) (cs bytes : List ℕ) → AreEncodingsOf s cs bytes → scalars cs ≡ true
text_scalars s [] bytes e = refl
text_scalars s (c ∷ cs) bytes e = both_true e.1.scalar (text_scalars s cs e.0 e.2)

-- a text is UTF-8
pub text_is_utf8 : (s : CharacterSet) (bytes text : List ℕ) → IsTextOf s bytes text → IsUtf8 text
unfolding IsTextOf
text_is_utf8 s bytes text t = (t.0, (text_scalars s t.0 bytes t.1, sym t.2))

-- the text so far, of the bytes before the remaining ones
pub record Reads (s : CharacterSet) (bytes rest old new : List ℕ) : Type 0 where
  pub read : List ℕ
  pub text : new ≡ old ++ read
  pub whole : (t : List ℕ) → IsTextOf s rest t → IsTextOf s bytes (read ++ t)
  pub remains : (t : List ℕ) → IsTextOf s bytes t → (u : List ℕ) × IsTextOf s rest u

pub reads_nothing : (s : CharacterSet) (bytes old : List ℕ) → Reads s bytes bytes old old
reads_nothing s bytes old = record { read = []; text = sym (append-nil old); whole = λ t i. i; remains = λ t i. (t, i) }

pub reads_more : (s : CharacterSet) (bytes rest after old new newer : List ℕ) (c : ℕ) → Reads s bytes rest old new → BeginsWith s rest c after → newer ≡ new ++ encode_utf8 c → Reads s bytes after old newer
reads_more s bytes rest after old new newer c r b e = record {
  read = r.read ++ encode_utf8 c;
  text = e ∙ ap (λ x. x ++ encode_utf8 c) r.text ∙ append_assoc old r.read (encode_utf8 c);
  whole = λ t i. subst (IsTextOf s bytes) (sym (append_assoc r.read (encode_utf8 c) t)) (r.whole (encode_utf8 c ++ t) (text_more s rest after t c b i));
  remains = λ t i. let u = r.remains t i in let v = text_after s rest after u.0 c b u.1 in (v.0, v.1);
}

pub reads_all : (s : CharacterSet) (bytes rest old new : List ℕ) → Reads s bytes rest old new → length rest ≡ 0 → AppendsText s bytes old new
reads_all s bytes [] old new r h = record { text = r.read; is_text = subst (IsTextOf s bytes) (append-nil r.read) (r.whole [] (text_of_nothing s)); appended = r.text }
reads_all s bytes (x ∷ rest) old new r h = absurd (omega arith)

pub reads_no_text : (s : CharacterSet) (bytes rest old new text : List ℕ) → Reads s bytes rest old new → 0 < length rest → BeginsWithNone s rest → ¬ (IsTextOf s bytes text)
reads_no_text s bytes rest old new text r h none t =
    let u = r.remains text t in
    let b = text_begins s rest u.0 h u.1 in
    none b.0 b.1 b.2

-- text in UTF-8 is UTF-8
spelled_utf8 : (cs : List ℕ) → scalars cs ≡ true → AreEncodingsOf Utf8 cs (encode_utf8_all cs)
spelled_utf8 [] s = refl
spelled_utf8 (c ∷ cs) s = (encode_utf8_all cs, record { scalar = left_true _ _ s; encoding = encode_utf8 c; encoded = refl; split = refl }, spelled_utf8 cs (right_true _ _ s))

pub text_of_utf8 : (bytes : List ℕ) → IsUtf8 bytes → IsTextOf Utf8 bytes bytes
unfolding IsTextOf
text_of_utf8 bytes u = (u.0, subst (AreEncodingsOf Utf8 u.0) u.1.1 (spelled_utf8 u.0 u.1.0), sym u.1.1)

utf8_spelled : (cs bytes : List ℕ) → AreEncodingsOf Utf8 cs bytes → (scalars cs ≡ true) × (encode_utf8_all cs ≡ bytes)
utf8_spelled [] bytes e = (refl, sym e)
utf8_spelled (c ∷ cs) bytes e =
    let r = utf8_spelled cs e.0 e.2 in
    (both_true e.1.scalar r.0, ap (λ x. encode_utf8 c ++ x) r.1 ∙ sym (e.1.split ∙ ap (λ x. x ++ e.0) e.1.encoded))

pub utf8_of_text : (bytes text : List ℕ) → IsTextOf Utf8 bytes text → IsUtf8 bytes
unfolding IsTextOf
utf8_of_text bytes text t = (t.0, utf8_spelled t.0 bytes t.1)

-- text in ASCII is ASCII
spelled_ascii : (bytes : List ℕ) → IsAscii bytes → AreEncodingsOf Ascii bytes bytes
spelled_ascii [] a = refl
spelled_ascii (b ∷ bytes) a =
    (bytes, record { scalar = low_scalar b (omega (arith, a 0)); encoding = b ∷ []; encoded = (a 0, refl); split = refl }, spelled_ascii bytes (λ i. a (suc i)))

pub text_of_ascii : (bytes : List ℕ) → IsAscii bytes → IsTextOf Ascii bytes bytes
unfolding IsTextOf
text_of_ascii bytes a = (bytes, spelled_ascii bytes a, sym (encodes-IsAscii bytes a))

ascii_spelled : (cs bytes : List ℕ) → AreEncodingsOf Ascii cs bytes → IsAscii bytes
ascii_spelled [] bytes e = subst IsAscii (sym e) (λ i. omega arith)
ascii_spelled (c ∷ cs) bytes e = subst IsAscii (sym (e.1.split ∙ ap (λ x. x ++ e.0) e.1.encoded.1)) (ascii_more c e.0 e.1.encoded.0 (ascii_spelled cs e.0 e.2)) where
  ascii_more : (b : ℕ) (bs : List ℕ) → b < 128 → IsAscii bs → IsAscii (b ∷ bs)
  ascii_more b bs h a zero = h
  ascii_more b bs h a (suc i) = a i

pub ascii_of_text : (bytes text : List ℕ) → IsTextOf Ascii bytes text → IsAscii bytes
unfolding IsTextOf
ascii_of_text bytes text t = ascii_spelled t.0 bytes t.1

utf8_already : (s : CharacterSet) (bytes text : List ℕ) → is_utf8_already s ≡ true → IsTextOf s bytes text → IsUtf8 bytes
utf8_already Utf8 bytes text e t = utf8_of_text bytes text t
utf8_already Ascii bytes text e t = IsUtf8-from_ascii bytes (ascii_of_text bytes text t)
utf8_already Ucs2 bytes text e t = absurd (false≢true e)
utf8_already Utf16 bytes text e t = absurd (false≢true e)
utf8_already Utf16Le bytes text e t = absurd (false≢true e)
utf8_already Utf32 bytes text e t = absurd (false≢true e)
utf8_already (SingleByte table) bytes text e t = absurd (false≢true e)

-- what a check for UTF-8 finds is the text
pub text_found : {E : Type 0} (Q : E → Type 0) (s : CharacterSet) (bytes : List ℕ) (r : Result (Bor (List ℕ)) E) → (IsUtf8 bytes → IsTextOf s bytes bytes)
    → MatchResult r (λ x. (x.now ≡ bytes) × IsUtf8 bytes) Q → IfSome (result_ok r) (λ x. (x.now ≡ bytes) × IsTextOf s bytes x.now)
text_found Q s bytes (Ok x) f m = (m.0, subst (IsTextOf s bytes) (sym m.0) (f m.1))
text_found Q s bytes (Err e) f m = tt

pub no_text_found : {E : Type 0} (Q : E → Type 0) (s : CharacterSet) (bytes : List ℕ) (r : Result (Bor (List ℕ)) E)
    → MatchResult r (λ x. (x.now ≡ bytes) × IsUtf8 bytes) (λ e. ¬ (IsUtf8 bytes) × Q e) → IfNone (result_ok r) (is_utf8_already s ≡ true → (text : List ℕ) → ¬ (IsTextOf s bytes text))
no_text_found Q s bytes (Ok x) m = tt
no_text_found Q s bytes (Err e) m = λ already text t. m.0 (utf8_already s bytes text already t)
