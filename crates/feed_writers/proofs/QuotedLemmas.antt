-- Bytes between quotes, some at a time.
use Rattle.std.proofs.Common.{◌≡◌, ℕ, zero, suc, ◌+◌, ◌-◌, ◌≤◌, ◌/◌, ◌%◌, true, false, List, [], ◌∷◌, ◌++◌, length, take, drop, refl, sym, ap, ap₂, ◌∙◌, append_assoc, arith}
use Rattle.std.specs.Prelude.{if◌then◌else◌}
use Rattle.std.specs.Fmt.{digit_glyph}
use Rattle.std.proofs.lemmas.List.{append-nil, take_all, take_at, take-take, length-take, length-take-le, length-append}
use Rattle.std.proofs.Math.Seq.{take-add, take-append_seam, drop-append_seam}
use Rattle.std.proofs.lemmas.List.Concat.{flat_map-append}
use Rattle.std.specs.List.{flat_map}
use Rattle.feed_writers.specs.Quoting.{is_plain_byte, quoted_byte, quoted}
use Rattle.feed_writers.specs.PlainBytes.{IsPlainPrefix}

-- plain bytes at the start are written unchanged
pub plain_prefix : (n : ℕ) (d : List ℕ) → n ≤ length d → IsPlainPrefix d n → flat_map quoted_byte d ≡ take n d ++ flat_map quoted_byte (drop n d)
plain_prefix zero d room h = refl
plain_prefix (suc n) [] room h = absurd (omega arith)
plain_prefix (suc n) (x ∷ d) room h = rw (h 0 (omega arith)) (ap (λ (t : List ℕ). x ∷ t) (plain_prefix n d (omega arith) (λ k q. h (suc k) (omega arith))))

-- plain bytes were written unchanged
pub plain_written : (base new d : List ℕ) → IsPlainPrefix d (length d) → new ≡ base ++ d → new ≡ base ++ flat_map quoted_byte d
plain_written base new d h is =
    is ∙ ap (λ (t : List ℕ). base ++ t) (sym (plain_prefix (length d) d (omega arith) h ∙ rw (take_all (length d) d (omega arith), drop_whole d) (append-nil d)))
  where
    drop_whole : (s : List ℕ) → drop (length s) s ≡ []
    drop_whole [] = refl
    drop_whole (x ∷ s) = drop_whole s

-- the first n bytes were written unchanged, and then the others
pub prefix_then : (base one new d prefix after : List ℕ) (n : ℕ) → prefix ≡ take n d → after ≡ drop n d → flat_map quoted_byte d ≡ take n d ++ flat_map quoted_byte (drop n d)
    → one ≡ base ++ prefix → new ≡ one ++ flat_map quoted_byte after → new ≡ base ++ flat_map quoted_byte d
prefix_then base one new d prefix after n f a e first is =
    is ∙ rw (first, f, a, e) (append_assoc base (take n d) (flat_map quoted_byte (drop n d)))

-- a quote, the bytes and a quote
pub quotes_written : (base one two new d : List ℕ) → one ≡ base ++ 39 ∷ [] → two ≡ one ++ flat_map quoted_byte d → new ≡ two ++ 39 ∷ [] → new ≡ base ++ quoted d
unfolding quoted
quotes_written base one two new d first second is = is ∙ ap (λ (t : List ℕ). t ++ 39 ∷ []) (second ∙ ap (λ (t : List ℕ). t ++ flat_map quoted_byte d) first) ∙ simp append_assoc

-- plain bytes were written with more bytes after them, and a quote after the plain ones
pub plain_quoted : (s r len : ℕ) (base one two new d : List ℕ) → len ≤ 16 → IsPlainPrefix d len → 16 ≤ length d → take s one ≡ base ++ 39 ∷ [] → r ≡ s + length (take 16 d) → take r two ≡ take s one ++ take 16 d → s ≤ length one
    → new ≡ take (s + len) two ++ 39 ∷ [] → new ≡ base ++ quoted (take len d)
unfolding quoted
plain_quoted s r len base one two new d few plain long first end second fits third =
    let sixteen : s + len ≤ r = omega (arith, few, end, length-take-le 16 d long) in
    third
    ∙ ap (λ (t : List ℕ). t ++ 39 ∷ []) (
    sym (take-take (s + len) r two sixteen)
    ∙ ap (take (s + len)) second
    ∙ ap (λ (k : ℕ). take (k + len) (take s one ++ take 16 d)) (sym (length-take-le s one fits))
    ∙ take-add (length (take s one)) len (take s one ++ take 16 d)
    ∙ ap₂ (λ (a b : List ℕ). a ++ take len b) (take-append_seam (take s one) (take 16 d)) (drop-append_seam (take s one) (take 16 d))
    ∙ ap₂ (λ (a b : List ℕ). a ++ b) first (take-take len 16 d few ∙ sym (plain_unchanged d len plain (omega arith)))
    )
    ∙ simp append_assoc
  where
    plain_unchanged : (s : List ℕ) (n : ℕ) → IsPlainPrefix s n → n ≤ length s → flat_map quoted_byte (take n s) ≡ take n s
    plain_unchanged s zero h le = refl
    plain_unchanged [] (suc n) h le = refl
    plain_unchanged (x ∷ s) (suc n) h le = rw (h 0 (omega arith)) (ap (λ (t : List ℕ). x ∷ t) (plain_unchanged s n (λ k q. h (suc k) (omega arith)) (omega arith)))

-- a write at an offset leaves the text before it unchanged
prefix_stays : (n k : ℕ) (one two more : List ℕ) → n ≤ length one → take (n + k) two ≡ take n one ++ more → take n two ≡ take n one
prefix_stays n k one two more fits is = sym (take-take n (n + k) two (omega arith)) ∙ ap (take n) is ∙ take_at (take n one) more n (length-take-le n one fits)

pub text_before : (m n : ℕ) (one two more : List ℕ) → m ≤ length one → take n two ≡ take m one ++ more → take m two ≡ take m one
text_before m n one two more fits is =
    let l : length (take m one) ≡ m = length-take-le m one fits in
    let e : length (take n two) ≡ length (take m one) + length more = ap length is ∙ length-append (take m one) more in
    let le : m ≤ n = omega (arith, l, e, length-take n two) in
    sym (take-take m n two le) ∙ ap (take m) is ∙ take_at (take m one) more m l

-- n of the first len bytes were written, and then the others
pub run_then_rest : (n len : ℕ) (base one new d after : List ℕ) → n ≤ len → one ≡ base ++ flat_map quoted_byte (take n d) → after ≡ take (len - n) (drop n d) → new ≡ one ++ flat_map quoted_byte after → new ≡ base ++ flat_map quoted_byte (take len d)
run_then_rest n len base one new d after few first e is =
    let all : n + (len - n) ≡ len = omega (arith, few) in
    let q = flat_map quoted_byte in
    is ∙ ap (λ (t : List ℕ). t ++ q after) first ∙ append_assoc base (q (take n d)) (q after)
    ∙ ap (λ (t : List ℕ). base ++ t)
    (ap (λ (t : List ℕ). q (take n d) ++ q t) e
    ∙ sym (flat_map-append quoted_byte (take n d) (take (len - n) (drop n d)))
    ∙ ap q (sym (take-add n (len - n) d) ∙ ap (λ (k : ℕ). take k d) all))

-- a plain byte was written, and digits after it that don't count
pub plain_counts : (n k b x : ℕ) (base one two more : List ℕ) → is_plain_byte b ≡ true → x ≡ (if is_plain_byte b then b else 92) → n ≤ length one → take n one ≡ base ++ x ∷ [] → take (n + k) two ≡ take n one ++ more → take n two ≡ base ++ quoted_byte b
plain_counts n k b x base one two more plain is fits first second = prefix_stays n k one two more fits second ∙ first ∙ rw (is, plain) refl

-- a backslash and the digits of a byte were written
pub escape_counts : (n k b x : ℕ) (base one two : List ℕ) → is_plain_byte b ≡ false → x ≡ (if is_plain_byte b then b else 92) → take n one ≡ base ++ x ∷ [] → take k two ≡ take n one ++ digit_glyph false (b / 16) ∷ digit_glyph false (b % 16) ∷ [] → take k two ≡ base ++ quoted_byte b
escape_counts n k b x base one two plain is first second = second ∙ rw (first, is, plain) (simp append_assoc)
