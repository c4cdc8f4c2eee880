-- Quoting, a run of plain bytes at a time.
use Rattle.std.proofs.Common.{◌≡◌, ◌≤◌, ℕ, zero, suc, ◌+◌, Bool, true, false, List, [], ◌∷◌, ◌++◌, length, take, drop, Result, Ok, Err, OnOk, IfErr, refl, sym, ap, ◌∙◌, append_assoc, arith, length-take}
use Rattle.std.proofs.Math.Seq.{take-length}
use Rattle.std.proofs.lemmas.List.{append-nil, take-append-le, take-take}
use Rattle.std.specs.Prelude.{take_while, not}
use Rattle.std.specs.List.{flat_map, prefix_len}
use Rattle.rows_errors.specs.declared.fault.RowsError.{RowsError}
use Rattle.feed_text.specs.TextPieces.{IsAppendError}
use Rattle.feed_writers.specs.Quoting.{is_plain_byte, escape, quoted_byte, quoted}

-- the plain bytes at the start are written unchanged
pub plain_run : (xs : List ℕ) → flat_map quoted_byte xs ≡ take (length (take_while is_plain_byte xs)) xs ++ flat_map quoted_byte (drop (length (take_while is_plain_byte xs)) xs)
plain_run [] = refl
plain_run (x ∷ xs) = either (is_plain_byte x) refl (plain_run xs)
  where
    either : (b : Bool) → is_plain_byte x ≡ b → flat_map quoted_byte xs ≡ take (length (take_while is_plain_byte xs)) xs ++ flat_map quoted_byte (drop (length (take_while is_plain_byte xs)) xs)
        → flat_map quoted_byte (x ∷ xs) ≡ take (length (take_while is_plain_byte (x ∷ xs))) (x ∷ xs) ++ flat_map quoted_byte (drop (length (take_while is_plain_byte (x ∷ xs))) (x ∷ xs))
    either true h more =
        let e : 1 + prefix_len is_plain_byte xs ≡ suc (prefix_len is_plain_byte xs) = omega arith in
        rw h (simp e (ap (λ (t : List ℕ). x ∷ t) more))
    either false h more = rw (h, h) refl

-- a run of plain bytes was appended, and the remaining bytes begin after it
pub run_more : (out new plain after rest : List ℕ) (n : ℕ) → new ≡ out ++ plain → plain ≡ take n rest → after ≡ drop n rest → n ≡ length (take_while is_plain_byte rest)
    → new ++ flat_map quoted_byte after ≡ out ++ flat_map quoted_byte rest
run_more out new plain after rest n is prefix back len =
    let m : ℕ = length (take_while is_plain_byte rest) in
    rw (is, prefix, back, len, append_assoc out (take m rest) (flat_map quoted_byte (drop m rest))) (ap (λ (t : List ℕ). out ++ t) (sym (plain_run rest)))

-- no bytes remain, and the second quote was written
pub quote_done : (old out rest bytes new : List ℕ) → out ++ flat_map quoted_byte rest ≡ (old ++ 39 ∷ []) ++ flat_map quoted_byte bytes → length rest ≡ 0 → new ≡ out ++ 39 ∷ [] → new ≡ old ++ quoted bytes
unfolding quoted
quote_done old out [] bytes new h none is = is ∙ ap (λ (t : List ℕ). t ++ 39 ∷ []) (sym (append-nil out) ∙ h) ∙ simp append_assoc
quote_done old out (x ∷ rest) bytes new h none is = absurd (omega arith)

-- appending leaves the text before unchanged
pub kept_more : (old out new more : List ℕ) → take (length old) out ≡ old → new ≡ out ++ more → take (length old) new ≡ old
kept_more old out new more kept is =
    let long : length old ≤ length out = let e = ap length kept in let l = length-take (length old) out in omega (arith, e, l) in
    ap (take (length old)) is ∙ take-append-le (length old) out more long ∙ kept

-- the bytes at the start that need an escape are escaped
pub escaped_run : (m : ℕ) (xs : List ℕ) → (let n = length (take_while (λ b. not (is_plain_byte b)) (take m xs)) in flat_map quoted_byte xs ≡ flat_map escape (take n xs) ++ flat_map quoted_byte (drop n xs))
escaped_run zero xs = refl
escaped_run (suc m) [] = refl
escaped_run (suc m) (x ∷ xs) = either (is_plain_byte x) refl (escaped_run m xs)
  where
    either : (b : Bool) → is_plain_byte x ≡ b
        → (let n = length (take_while (λ b. not (is_plain_byte b)) (take m xs)) in flat_map quoted_byte xs ≡ flat_map escape (take n xs) ++ flat_map quoted_byte (drop n xs))
        → (let n = length (take_while (λ b. not (is_plain_byte b)) (x ∷ take m xs)) in flat_map quoted_byte (x ∷ xs) ≡ flat_map escape (take n (x ∷ xs)) ++ flat_map quoted_byte (drop n (x ∷ xs)))
    either true h more = rw (h, h) refl
    either false h more =
        let e : 1 + prefix_len (λ b. not (is_plain_byte b)) (take m xs) ≡ suc (prefix_len (λ b. not (is_plain_byte b)) (take m xs)) = omega arith in
        rw h (simp e (ap (λ (t : List ℕ). escape x ++ t) more))

-- the bytes of a text that are escaped at once
abbrev escaped_at_once : ℕ → List ℕ → ℕ
escaped_at_once m xs = length (take_while (λ b. not (is_plain_byte b)) (take m xs))

run_within : (m : ℕ) (xs : List ℕ) → (escaped_at_once m xs ≤ m) × (escaped_at_once m xs ≤ length xs)
run_within zero xs = (omega arith, omega arith)
run_within (suc m) [] = (omega arith, omega arith)
run_within (suc m) (x ∷ xs) = either (is_plain_byte x) refl (run_within m xs)
  where
    either : (b : Bool) → is_plain_byte x ≡ b → (escaped_at_once m xs ≤ m) × (escaped_at_once m xs ≤ length xs) → (escaped_at_once (suc m) (x ∷ xs) ≤ suc m) × (escaped_at_once (suc m) (x ∷ xs) ≤ length (x ∷ xs))
    either true h more = rw h (omega arith, omega arith)
    either false h more =
        let e : 1 + prefix_len (λ b. not (is_plain_byte b)) (take m xs) ≡ suc (prefix_len (λ b. not (is_plain_byte b)) (take m xs)) = omega arith in
        rw h (simp e (omega (arith, more.0), omega (arith, more.1)))

-- at most sixteen bytes are escaped at once
pub escaped_within : (n : ℕ) (rest : List ℕ) → n ≡ length (take_while (λ b. not (is_plain_byte b)) (take 16 rest)) → (n ≤ 16) × (n ≤ length rest)
escaped_within n rest is = let within = run_within 16 rest in (omega (arith, is, within.0), omega (arith, is, within.1))

-- a run of bytes was escaped, and the remaining bytes begin after it
pub escapes_more : (out new others after rest : List ℕ) (n : ℕ) → new ≡ out ++ flat_map escape others → others ≡ take n rest → after ≡ drop n rest
    → n ≡ length (take_while (λ b. not (is_plain_byte b)) (take 16 rest)) → new ++ flat_map quoted_byte after ≡ out ++ flat_map quoted_byte rest
escapes_more out new others after rest n is prefix back len =
    let m : ℕ = length (take_while (λ b. not (is_plain_byte b)) (take 16 rest)) in
    rw (is, prefix, back, len, append_assoc out (flat_map escape (take m rest)) (flat_map quoted_byte (drop m rest))) (ap (λ (t : List ℕ). out ++ t) (sym (escaped_run 16 rest)))

-- a text was appended completely or not at all, so the text before is unchanged
pub kept_either : (old new text : List ℕ) (r : Result Unit RowsError) → OnOk r (new ≡ old ++ text) → IfErr r (λ e. IsAppendError e old new) → take (length old) new ≡ old
kept_either old new text (Ok u) whole none = kept_more old old new text (take-length old) whole
kept_either old new text (Err e) whole none = ap (take (length old)) none.1 ∙ take-length old

-- the text before is unchanged by two steps
pub kept_twice : (old out new : List ℕ) → take (length old) out ≡ old → take (length out) new ≡ out → take (length old) new ≡ old
kept_twice old out new first second =
    let long : length old ≤ length out = let e = ap length first in let l = length-take (length old) out in omega (arith, e, l) in
    sym (take-take (length old) (length out) new long) ∙ ap (take (length old)) second ∙ first
