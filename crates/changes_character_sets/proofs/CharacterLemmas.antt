-- Characters that bytes begin with.
use Rattle.std.proofs.Common.{◌≡◌, ◌<◌, ◌≤◌, ◌-◌, ℕ, List, [], ◌∷◌, ◌++◌, length, take, drop, get_or, arith, slice_index, refl, sym, ap, ◌∙◌, subst, true, false, Bool, ◌&&◌, append_assoc, length-append}
use Rattle.std.proofs.lemmas.List.{take_at, take-append-drop, append-nil, length-take-le, take_all}
use lib.Utf8.{scalars}
use Rattle.std.specs.Char.{IsScalar, len_utf8, encode_utf8}
use denote.Bor.{Bor}
use Rattle.std.specs.Str.{IsUtf8}
use Rattle.std.proofs.lemmas.Bool.{false≢true}
use Rattle.std.proofs.lemmas.Bool.Decides.{nat_tests}
use Rattle.std.proofs.lemmas.Str.{length-encode, len_utf8_bounds, IsUtf8-encode, cons_from_encodes}
use Rattle.changes_character_sets.specs.Texts.{BeginsWith, BeginsWithNone}
use Rattle.changes_character_sets.specs.declared.character_set.CharacterSet.TheVariants as CharacterSets

-- the first byte of a character in UTF-8 says how many bytes it has
pub first_byte : (c : ℕ) → IsScalar c → (slice_index (encode_utf8 c) 0 < 128 → len_utf8 c ≡ 1)
    × (128 ≤ slice_index (encode_utf8 c) 0 → slice_index (encode_utf8 c) 0 < 224 → len_utf8 c ≡ 2)
    × (224 ≤ slice_index (encode_utf8 c) 0 → slice_index (encode_utf8 c) 0 < 240 → len_utf8 c ≡ 3)
    × (240 ≤ slice_index (encode_utf8 c) 0 → len_utf8 c ≡ 4)
unfolding encode_utf8
first_byte c s = grind (arith, nat_tests)

-- bytes that begin with a character in UTF-8: their first byte, and as many as the character has
record Utf8Start (bytes : List ℕ) (c : ℕ) : Type 0 where
  first : slice_index (encode_utf8 c) 0 ≡ slice_index bytes 0
  long : len_utf8 c ≤ length bytes
  some : 0 < len_utf8 c
  whole : take (len_utf8 c) bytes ≡ encode_utf8 c

first_of : (a b : List ℕ) → 0 < length a → get_or a 0 0 ≡ get_or (a ++ b) 0 0
first_of (x ∷ a) b h = refl
first_of [] b h = absurd (omega arith)

utf8_start : (bytes rest : List ℕ) (c : ℕ) → BeginsWith CharacterSets.Utf8 bytes c rest → Utf8Start bytes c
utf8_start bytes rest c b =
    let e : bytes ≡ encode_utf8 c ++ rest = b.split ∙ ap (λ x. x ++ rest) b.encoded in
    let n = length-encode c in
    let m = len_utf8_bounds c in
    record {
      first = first_of (encode_utf8 c) rest (omega arith) ∙ ap (λ x. get_or x 0 0) (sym e);
      long = omega (arith, ap length e, length-append (encode_utf8 c) rest);
      some = m.0;
      whole = ap (take (len_utf8 c)) e ∙ take_at (encode_utf8 c) rest (len_utf8 c) n;
    }

-- where no character begins: at no byte, at too few, at bytes that aren't UTF-8
pub none_at_end : (bytes : List ℕ) → length bytes ≡ 0 → BeginsWithNone CharacterSets.Utf8 bytes
none_at_end bytes h c rest b = let s = utf8_start bytes rest c b in omega arith

pub none_in_few : (bytes : List ℕ) (n : ℕ) → length bytes < n
    → ((c : ℕ) → IsScalar c → slice_index (encode_utf8 c) 0 ≡ slice_index bytes 0 → n ≡ len_utf8 c) → BeginsWithNone CharacterSets.Utf8 bytes
none_in_few bytes n h v c rest b =
    let s = utf8_start bytes rest c b in
    let e = v c b.scalar s.first in
    omega arith

pub none_in_others : (bytes : List ℕ) (n : ℕ) → ¬ (IsUtf8 (take n bytes))
    → ((c : ℕ) → IsScalar c → slice_index (encode_utf8 c) 0 ≡ slice_index bytes 0 → n ≡ len_utf8 c) → BeginsWithNone CharacterSets.Utf8 bytes
none_in_others bytes n h v c rest b =
    let s = utf8_start bytes rest c b in
    let e = v c b.scalar s.first in
    h (subst IsUtf8 (sym (ap (λ k. take k bytes) e ∙ s.whole)) (IsUtf8-encode c b.scalar))

pub left_true : (x y : Bool) → (x && y) ≡ true → x ≡ true
left_true true y e = refl
left_true false y e = e

pub right_true : (x y : Bool) → (x && y) ≡ true → y ≡ true
right_true true y e = e
right_true false y e = absurd (false≢true e)

nil_of : (l : List ℕ) → length l ≡ 0 → l ≡ []
nil_of [] h = refl
nil_of (x ∷ l) h = absurd (omega arith)

head_scalar : (cs es : List ℕ) (c : ℕ) → cs ≡ c ∷ es → scalars cs ≡ true → IsScalar c
head_scalar cs es c e s = left_true _ _ (subst (λ l. scalars l ≡ true) e s)

-- bytes whose first ones are UTF-8 as long as the first byte says begin with a character
pub begins_utf8 : (bytes more : List ℕ) (n c : ℕ) → IsUtf8 (take n bytes) → n ≤ length bytes → 0 < n → take n bytes ≡ encode_utf8 c ++ more
    → ((d : ℕ) → IsScalar d → slice_index (encode_utf8 d) 0 ≡ slice_index bytes 0 → n ≡ len_utf8 d) → BeginsWith CharacterSets.Utf8 bytes c (drop n bytes)
begins_utf8 bytes more n c u h some e v =
    let parts = cons_from_encodes u.0 more c (u.1.1 ∙ e) in
    let scalar = head_scalar u.0 parts.0 c parts.1 u.1.0 in
    let whole : bytes ≡ encode_utf8 c ++ (more ++ drop n bytes) = sym (take-append-drop n bytes) ∙ ap (λ x. x ++ drop n bytes) e ∙ append_assoc (encode_utf8 c) more (drop n bytes) in
    let m = len_utf8_bounds c in
    let len = v c scalar (first_of (encode_utf8 c) (more ++ drop n bytes) (omega (arith, length-encode c)) ∙ ap (λ x. get_or x 0 0) (sym whole)) in
    let none : length more ≡ 0 = omega (arith, length-append (encode_utf8 c) more, ap length e, length-take-le n bytes h, length-encode c) in
    record {
      scalar = scalar;
      encoding = take n bytes;
      encoded = e ∙ ap (λ l. encode_utf8 c ++ l) (nil_of more none) ∙ append-nil _;
      split = sym (take-append-drop n bytes);
    }

-- a byte that has an entry in a table of characters
pub begins_byte : (t : Bor (List ℕ)) (bytes : List ℕ) (c : ℕ) → IsScalar c → 0 < length bytes → c ≡ slice_index t.now (slice_index bytes 0) → (c ≡ 0 → slice_index bytes 0 ≡ 0)
    → BeginsWith (CharacterSets.SingleByte t) bytes c (take (length bytes - 1) (drop 1 bytes))
begins_byte t (b ∷ bytes) c s h e z = record { scalar = s; encoding = b ∷ []; encoded = (b, refl, e, z); split = ap (λ l. b ∷ l) (sym (take_all (length (b ∷ bytes) - 1) bytes (omega arith))) }
begins_byte t [] c s h e z = absurd (omega arith)
