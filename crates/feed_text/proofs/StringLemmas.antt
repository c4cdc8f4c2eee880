-- Plain bytes are UTF-8, and are copied between quotes.
use Rattle.std.proofs.Common.{◌≡◌, ◌≤◌, ◌<◌, ◌+◌, ℕ, zero, suc, Bool, true, false, List, [], ◌∷◌, ◌++◌, length, take, drop, inl, inr, refl, sym, ap, ◌∙◌, append_assoc, arith}
use Rattle.std.proofs.Math.Seq.{take-length}
use Rattle.std.proofs.lemmas.Bool.Decides.{leb_tells}
use Rattle.std.proofs.lemmas.List.{append-nil, drop_all, length-append, length-take-le}
use Rattle.std.proofs.lemmas.Str.{IsUtf8-from_ascii, is_utf8-from_IsUtf8, IsUtf8-from_is_utf8, IsUtf8-string_bytes}
use Rattle.std.specs.Prelude.{take_while, nat_le, not, ◌&&◌, ◌==◌, Option, Some, None, IfSome, String, string_bytes}
use Rattle.std.specs.List.{flat_map}
use Rattle.std.specs.Str.{is_utf8, IsUtf8, IsAscii}
use Rattle.feed_writers.specs.Quoting.{is_plain_byte, quoted_byte, quoted}
use Rattle.feed_text.proofs.QuoteLemmas.{plain_run}

second_true : (a b c d : Bool) → ((a && b) && c) && d ≡ true → b ≡ true
second_true a true c d h = refl
second_true true false c d h = h
second_true false false c d h = h

plain_below : (x : ℕ) → is_plain_byte x ≡ true → x < 128
plain_below x h =
    let small = second_true (nat_le 32 x) (nat_le x 126) (not (x == 39)) (not (x == 92)) h in
    elim (leb_tells x 126) [ inl t ↦ omega (arith, t.1) | inr t ↦ absurd (cc (small, t.0)) ]

-- no byte is shorter between quotes
quoted_long : (xs : List ℕ) → length xs ≤ length (flat_map quoted_byte xs)
quoted_long [] = omega arith
quoted_long (x ∷ xs) = either (is_plain_byte x) refl (quoted_long xs)
  where
    either : (b : Bool) → is_plain_byte x ≡ b → length xs ≤ length (flat_map quoted_byte xs) → length (x ∷ xs) ≤ length (flat_map quoted_byte (x ∷ xs))
    either true h more = rw h (omega (arith, more))
    either false h more = rw h (omega (arith, more))

-- bytes that are as long between quotes are plain
as_long : (xs : List ℕ) → length (flat_map quoted_byte xs) ≡ length xs → IsAscii xs
as_long [] h = λ i. omega arith
as_long (x ∷ xs) h = either (is_plain_byte x) refl (as_long xs)
  where
    either : (b : Bool) → is_plain_byte x ≡ b → (length (flat_map quoted_byte xs) ≡ length xs → IsAscii xs) → IsAscii (x ∷ xs)
    either true e more zero = plain_below x e
    either true e more (suc i) = let long = rw e at h in more (omega (arith, long)) i
    either false e more i = let long = rw e at h in let least = quoted_long xs in absurd (omega (arith, long, least))

utf8_as_long : (xs : List ℕ) → length (flat_map quoted_byte xs) ≡ length xs → is_utf8 xs ≡ true
utf8_as_long xs h = is_utf8-from_IsUtf8 xs (IsUtf8-from_ascii xs (as_long xs h))

-- bytes between quotes that take two bytes more are UTF-8
pub utf8_by_end : (at end len : ℕ) (old new bytes : List ℕ) → at ≤ length old → end ≤ length new → len ≤ length bytes → end ≡ at + len + 2 → take end new ≡ take at old ++ quoted (take len bytes) → is_utf8 (take len bytes) ≡ true
unfolding quoted
utf8_by_end at end len old new bytes within room few is text =
    let s = take len bytes in
    let whole = ap length text in
    let left = length-take-le end new room in
    let base = length-take-le at old within in
    let first = length-append (take at old) (39 ∷ (flat_map quoted_byte s ++ 39 ∷ [])) in
    let second = length-append (flat_map quoted_byte s) (39 ∷ []) in
    let long = length-take-le len bytes few in
    utf8_as_long s (omega (arith, whole, left, base, first, second, long, is))

-- the same where there is an end
pub utf8_by_result : (r : Option ℕ) (at len : ℕ) (old new bytes : List ℕ) → at + 18 ≤ length old → length new ≡ length old → len ≤ 16 → len ≤ length bytes → IfSome r (λ end. end ≡ at + len + 2)
    → IfSome r (λ end. take end new ≡ take at old ++ quoted (take len bytes)) → IfSome r (λ end. is_utf8 (take len bytes) ≡ true)
utf8_by_result None at len old new bytes room long few within is text = tt
utf8_by_result (Some end) at len old new bytes room long few within is text = utf8_by_end at end len old new bytes (omega (arith, room)) (omega (arith, room, long, few, is)) within is text

-- no bytes that aren't UTF-8
pub utf8_refuted : (xs : List ℕ) → ¬ (IsUtf8 xs) → is_utf8 xs ≡ false
utf8_refuted xs h = either (is_utf8 xs) refl
  where
    either : (b : Bool) → is_utf8 xs ≡ b → is_utf8 xs ≡ false
    either true e = absurd (h (IsUtf8-from_is_utf8 xs e))
    either false e = e

-- the bytes of a string are UTF-8
pub utf8_string : {Z : Type 0} (s : String Z) (bytes : List ℕ) → bytes ≡ string_bytes s → is_utf8 bytes ≡ true
utf8_string s bytes is = rw is (is_utf8-from_IsUtf8 (string_bytes s) (IsUtf8-string_bytes s))

plain_copied : (xs : List ℕ) → length (take_while is_plain_byte xs) ≡ length xs → flat_map quoted_byte xs ≡ xs
plain_copied xs h =
    let none : drop (length xs) xs ≡ [] = drop_all (length xs) xs (omega arith) in
    plain_run xs ∙ ap (λ (n : ℕ). take n xs ++ flat_map quoted_byte (drop n xs)) h ∙ ap (λ (r : List ℕ). take (length xs) xs ++ flat_map quoted_byte r) none ∙ append-nil (take (length xs) xs) ∙ take-length xs

pub utf8_if_plain : (xs : List ℕ) → length (take_while is_plain_byte xs) ≡ length xs → is_utf8 xs ≡ true
utf8_if_plain xs h = utf8_as_long xs (ap length (plain_copied xs h))

pub quoted_if_plain : (xs base one two new : List ℕ) → length (take_while is_plain_byte xs) ≡ length xs → one ≡ base ++ 39 ∷ [] → two ≡ one ++ xs → new ≡ two ++ 39 ∷ [] → new ≡ base ++ quoted xs
unfolding quoted
quoted_if_plain xs base one two new h first second third =
    third ∙ ap (λ (t : List ℕ). t ++ 39 ∷ []) (second ∙ ap (λ (t : List ℕ). t ++ xs) first)
    ∙ append_assoc (base ++ 39 ∷ []) xs (39 ∷ [])
    ∙ append_assoc base (39 ∷ []) (xs ++ 39 ∷ [])
    ∙ ap (λ (t : List ℕ). base ++ (39 ∷ (t ++ 39 ∷ []))) (sym (plain_copied xs h))
