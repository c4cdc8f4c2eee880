-- Long strings and Base64 in pieces.
use Rattle.std.proofs.Common.{◌≡◌, ℕ, zero, suc, ◌+◌, ◌*◌, ◌<◌, ◌≤◌, List, [], ◌∷◌, ◌++◌, length, take, drop, replicate, refl, sym, ap, subst, ◌∙◌, append_assoc, arith, Result, Ok, Err}
use Rattle.std.specs.Prelude.{OnOk, OnErr}
use Rattle.std.specs.List.{flat_map}
use Rattle.std.proofs.lemmas.List.{append-nil, take-append-drop, length-take-le}
use Rattle.std.proofs.lemmas.List.Concat.{flat_map-append}
use Rattle.base64.specs.Engines.{standard}
use Rattle.base64.specs.GeneralPurpose.{encode_of, engine_symbols}
use Rattle.base64.specs.Rfc4648.{encode_group, encode_symbols, padding_len}
use Rattle.feed_text.proofs.QuoteLemmas.{kept_more}
use Rattle.changes_writers.specs.JsonStrings.{json_byte}

-- ---- strings
pub string_more : (all text new rest piece after : List ℕ) (n : ℕ) → text ++ flat_map json_byte rest ≡ all → piece ≡ take n rest → after ≡ drop n rest → new ≡ text ++ flat_map json_byte piece → new ++ flat_map json_byte after ≡ all
string_more all text new rest piece after n h f a is =
    rw (is, f, a) (append_assoc text (flat_map json_byte (take n rest)) (flat_map json_byte (drop n rest))
    ∙ ap (λ (t : List ℕ). text ++ t) (sym (flat_map-append json_byte (take n rest) (drop n rest)) ∙ ap (flat_map json_byte) (take-append-drop n rest)) ∙ h)

-- ---- Base64: three bytes at a time
abbrev symbols : List ℕ
symbols = engine_symbols standard

padding_same : (n : ℕ) → padding_len (suc (suc (suc n))) ≡ padding_len n
padding_same n = omega arith

encoded_more : (a b c : ℕ) (rest : List ℕ) → encode_of standard (a ∷ b ∷ c ∷ rest) ≡ encode_group symbols a b c ++ encode_of standard rest
unfolding encode_symbols
encoded_more a b c rest = ap (λ (n : ℕ). (encode_group symbols a b c ++ encode_symbols symbols rest) ++ replicate n 61) (padding_same (length rest)) ∙ append_assoc (encode_group symbols a b c) (encode_symbols symbols rest) (replicate (padding_len (length rest)) 61)

abbrev thrice : ℕ → ℕ
thrice zero = 0
thrice (suc k) = suc (suc (suc (thrice k)))

thrice_is : (k : ℕ) → thrice k ≡ 3 * k
thrice_is zero = refl
thrice_is (suc k) = let e = thrice_is k in omega (arith, e)

pieces_join : (k : ℕ) (d : List ℕ) → thrice k ≤ length d → encode_of standard (take (thrice k) d) ++ encode_of standard (drop (thrice k) d) ≡ encode_of standard d
unfolding encode_symbols
pieces_join zero d h = refl
pieces_join (suc k) [] h = absurd (omega arith)
pieces_join (suc k) (a ∷ []) h = absurd (omega arith)
pieces_join (suc k) (a ∷ b ∷ []) h = absurd (omega arith)
pieces_join (suc k) (a ∷ b ∷ c ∷ d) h =
    ap (λ (t : List ℕ). t ++ encode_of standard (drop (thrice k) d)) (encoded_more a b c (take (thrice k) d))
    ∙ append_assoc (encode_group symbols a b c) (encode_of standard (take (thrice k) d)) (encode_of standard (drop (thrice k) d))
    ∙ ap (λ (t : List ℕ). encode_group symbols a b c ++ t) (pieces_join k d (omega (arith, h))) ∙ sym (encoded_more a b c d)

pub base64_more : (all text new rest piece after : List ℕ) → text ++ encode_of standard rest ≡ all → 3072 < length rest → piece ≡ take 3072 rest → after ≡ drop 3072 rest → new ≡ text ++ encode_of standard piece → new ++ encode_of standard after ≡ all
base64_more all text new rest piece after h long f a is =
    let n : thrice 1024 ≡ 3072 = thrice_is 1024 in
    let join = pieces_join 1024 rest (omega (arith, n, long)) in
    let join2 = subst (λ (k : ℕ). encode_of standard (take k rest) ++ encode_of standard (drop k rest) ≡ encode_of standard rest) n join in
    rw (is, f, a) (append_assoc text (encode_of standard (take 3072 rest)) (encode_of standard (drop 3072 rest)) ∙ ap (λ (t : List ℕ). text ++ t) join2 ∙ h)

-- ---- appending leaves the text before unchanged
pub kept_result : {E : Type 0} (old out new more : List ℕ) (r : Result Unit E) → OnOk r (new ≡ out ++ more) → OnErr r (new ≡ out) → take (length old) out ≡ old → take (length old) new ≡ old
kept_result old out new more (Ok u) whole none kept = kept_more old out new more kept whole
kept_result old out new more (Err e) whole none kept = ap (take (length old)) none ∙ kept
