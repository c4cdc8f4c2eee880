-- The table of column indexes, each followed by `=`.
use Rattle.std.proofs.Common.{◌≡◌, ℕ, zero, suc, ◌+◌, ◌-◌, ◌*◌, ◌/◌, ◌%◌, ◌<◌, ◌≤◌, Bool, true, false, ◌&&◌, ◌⊎◌, T, eqb, List, [], ◌∷◌, ◌++◌, length, take, drop, get_or, append_assoc, refl, sym, ap, ap₂, ◌∙◌, subst, inl, inr, arith, eq-zero-or-pos, eqb→eq}
use Rattle.std.proofs.lemmas.List.{drop-drop, take-take, length-take-le}
use Rattle.std.proofs.Math.Seq.{take-add, take-append_seam, drop-append_seam}
use Rattle.std.specs.Fmt.{decimal}
use Rattle.feed_writers.specs.declared.column_labels.TheConstants.{COLUMN_LABELS}
use Rattle.feed_writers.proofs.DigitLemmas.{count_two, count_three, padded_pair, decimal_two, decimal_three}
use lib.Ieee.Fits.{and_l, and_r}

-- the bytes begin with the two digits of a number and `=`
abbrev is_two : ℕ → List ℕ → Bool
is_two n [] = false
is_two n (a ∷ []) = false
is_two n (a ∷ b ∷ []) = false
is_two n (a ∷ b ∷ c ∷ r) = eqb a (48 + n / 10) && (eqb b (48 + n % 10) && eqb c 61)

-- the bytes begin with three digits
abbrev is_three : ℕ → List ℕ → Bool
is_three n [] = false
is_three n (a ∷ r) = eqb a (48 + n / 100) && is_two (n % 100) r

-- the same for k numbers from n on, each in four bytes
abbrev each : (ℕ → List ℕ → Bool) → ℕ → ℕ → List ℕ → Bool
each p zero n l = true
each p (suc k) n l = p n l && each p k (suc n) (drop 4 l)

each_at : (p : ℕ → List ℕ → Bool) (k n : ℕ) (l : List ℕ) → T (each p k n l) → (m : ℕ) → n ≤ m → m < n + k → T (p m (drop (4 * (m - n)) l))
each_at p zero n l t m lo hi = absurd (omega arith)
each_at p (suc k) n l t m lo hi =
    elim (eq-zero-or-pos (m - n)) [
      | inl z ↦ let e : m ≡ n = omega arith in let f : 4 * (m - n) ≡ 0 = omega arith in rw (f, e) (and_l _ (each p k (suc n) (drop 4 l)) t)
      | inr g ↦
          let f : 4 * (m - n) ≡ 4 + 4 * (m - suc n) = omega arith in
          subst (λ (t : List ℕ). T (p m t)) (drop-drop (4 * (m - suc n)) 4 l ∙ ap (λ j. drop j l) (sym f)) (each_at p k (suc n) (drop 4 l) (and_r _ (each p k (suc n) (drop 4 l)) t) m (omega arith) (omega arith))
    ]

two_is : (n : ℕ) (l : List ℕ) → T (is_two n l) → take 3 l ≡ (48 + n / 10) ∷ (48 + n % 10) ∷ 61 ∷ []
two_is n [] t = absurd t
two_is n (a ∷ []) t = absurd t
two_is n (a ∷ b ∷ []) t = absurd t
two_is n (a ∷ b ∷ c ∷ r) t =
    let u = and_r (eqb a (48 + n / 10)) _ t in
    rw (eqb→eq a _ (and_l _ _ t), eqb→eq b _ (and_l _ (eqb c 61) u), eqb→eq c _ (and_r (eqb b (48 + n % 10)) _ u)) refl

three_is : (n : ℕ) (l : List ℕ) → T (is_three n l) → take 4 l ≡ (48 + n / 100) ∷ (48 + n % 100 / 10) ∷ (48 + n % 100 % 10) ∷ 61 ∷ []
three_is n [] t = absurd t
three_is n (a ∷ r) t = ap₂ (λ (x : ℕ) (y : List ℕ). x ∷ y) (eqb→eq a _ (and_l _ (is_two (n % 100) r) t)) (two_is (n % 100) r (and_r (eqb a (48 + n / 100)) _ t))

column_two : (n : ℕ) → 10 ≤ n → n < 100 → take 3 (drop (4 * n) COLUMN_LABELS) ≡ decimal n ++ 61 ∷ []
column_two n lo hi =
    let j : 40 + 4 * (n - 10) ≡ 4 * n = omega arith in
    ap (λ (t : List ℕ). take 3 t) (ap (λ i. drop i COLUMN_LABELS) (sym j) ∙ sym (drop-drop (4 * (n - 10)) 40 COLUMN_LABELS))
    ∙ two_is n _ (each_at is_two 90 10 (drop 40 COLUMN_LABELS) tt n lo (omega arith))
    ∙ ap (λ (t : List ℕ). t ++ 61 ∷ []) (sym (padded_pair n hi) ∙ decimal_two n lo hi)

column_three : (n : ℕ) → 100 ≤ n → n < 1000 → take 4 (drop (4 * n) COLUMN_LABELS) ≡ decimal n ++ 61 ∷ []
column_three n lo hi =
    let j : 400 + 4 * (n - 100) ≡ 4 * n = omega arith in
    ap (λ (t : List ℕ). take 4 t) (ap (λ i. drop i COLUMN_LABELS) (sym j) ∙ sym (drop-drop (4 * (n - 100)) 400 COLUMN_LABELS))
    ∙ three_is n _ (each_at is_three 900 100 (drop 400 COLUMN_LABELS) tt n lo (omega arith))
    ∙ ap (λ (t : List ℕ). (48 + n / 100) ∷ t ++ 61 ∷ []) (sym (padded_pair (n % 100) (omega arith)))
    ∙ ap (λ (t : List ℕ). t ++ 61 ∷ []) (decimal_three n lo hi)

table_len : length COLUMN_LABELS ≡ 4000
table_len = refl

-- the first j of the bytes that were written
prefix_of : (at j r : ℕ) (old new piece : List ℕ) → at ≤ length old → j ≤ length piece → r ≡ at + length piece → take r new ≡ take at old ++ piece → take (at + j) new ≡ take at old ++ take j piece
prefix_of at j r old new piece room le end written =
    let prefix = take at old in
    let len : length prefix ≡ at = length-take-le at old room in
    sym (take-take (at + j) r new (omega (arith, le, end)))
    ∙ ap (take (at + j)) written
    ∙ ap (λ (i : ℕ). take (i + j) (prefix ++ piece)) (sym len)
    ∙ take-add (length prefix) j (prefix ++ piece)
    ∙ ap₂ (λ (a b : List ℕ). a ++ take j b) (take-append_seam prefix piece) (drop-append_seam prefix piece)

-- the four bytes at an offset
four_at : (k : ℕ) (l : List ℕ) → k + 4 ≤ length l → take 4 (drop k l) ≡ get_or l k 0 ∷ get_or l (k + 1) 0 ∷ get_or l (k + 2) 0 ∷ get_or l (k + 3) 0 ∷ []
four_at zero [] room = absurd (omega arith)
four_at zero (a ∷ []) room = absurd (omega arith)
four_at zero (a ∷ b ∷ []) room = absurd (omega arith)
four_at zero (a ∷ b ∷ c ∷ []) room = absurd (omega arith)
four_at zero (a ∷ b ∷ c ∷ d ∷ l) room = refl
four_at (suc k) [] room = absurd (omega arith)
four_at (suc k) (x ∷ l) room =
    let one : suc k + 1 ≡ suc (k + 1) = omega arith in
    let two : suc k + 2 ≡ suc (k + 2) = omega arith in
    let three : suc k + 3 ≡ suc (k + 3) = omega arith in
    rw (one, two, three) (four_at k l (omega (arith, room)))

-- four bytes, in sequence
pub four_pushed : (base one two three new : List ℕ) (a b c d : ℕ) → one ≡ base ++ a ∷ [] → two ≡ one ++ b ∷ [] → three ≡ two ++ c ∷ [] → new ≡ three ++ d ∷ [] → new ≡ base ++ a ∷ b ∷ c ∷ d ∷ []
four_pushed base one two three new a b c d first second third fourth =
    fourth
    ∙ ap (λ (t : List ℕ). t ++ d ∷ []) (third ∙ ap (λ (t : List ℕ). t ++ c ∷ []) (second ∙ ap (λ (t : List ℕ). t ++ b ∷ []) first))
    ∙ simp append_assoc

-- the digits of a number below 1,000 and `=` were written, with a space after two digits
pub column_written : (at r more n : ℕ) (old new piece : List ℕ) → 10 ≤ n → n < 1000 → at + 4 ≤ length old → (100 ≤ n → more ≡ 1) → (n < 100 → more ≡ 0) → r ≡ at + 4
    → piece ≡ get_or COLUMN_LABELS (4 * n) 0 ∷ get_or COLUMN_LABELS (4 * n + 1) 0 ∷ get_or COLUMN_LABELS (4 * n + 2) 0 ∷ get_or COLUMN_LABELS (4 * n + 3) 0 ∷ []
    → take r new ≡ take at old ++ piece → take (at + 3 + more) new ≡ take at old ++ (decimal n ++ 61 ∷ [])
column_written at r more n old new piece lo hi room high low end are written = by_width (eq-zero-or-pos (100 - n))
  where
    is : piece ≡ take 4 (drop (4 * n) COLUMN_LABELS)
    is = are ∙ sym (four_at (4 * n) COLUMN_LABELS (omega (arith, hi, table_len)))

    size : length piece ≡ 4
    size = ap length are

    by_width : (100 - n ≡ 0) ⊎ (0 < 100 - n) → take (at + 3 + more) new ≡ take at old ++ (decimal n ++ 61 ∷ [])
    by_width (inl z) =
        let e : at + 3 + more ≡ at + 4 = omega (arith, high (omega arith)) in
        ap (λ i. take i new) e
        ∙ prefix_of at 4 r old new piece (omega (arith, room)) (omega (arith, size)) (omega (arith, end, size)) written
        ∙ ap (λ (t : List ℕ). take at old ++ t) (ap (take 4) is ∙ take-take 4 4 (drop (4 * n) COLUMN_LABELS) (omega arith) ∙ column_three n (omega arith) hi)
    by_width (inr g) =
        let e : at + 3 + more ≡ at + 3 = omega (arith, low (omega arith)) in
        ap (λ i. take i new) e
        ∙ prefix_of at 3 r old new piece (omega (arith, room)) (omega (arith, size)) (omega (arith, end, size)) written
        ∙ ap (λ (t : List ℕ). take at old ++ t) (ap (take 3) is ∙ take-take 3 4 (drop (4 * n) COLUMN_LABELS) (omega arith) ∙ column_two n lo (omega arith))

-- the number of bytes
pub column_len : (more n : ℕ) → 10 ≤ n → n < 1000 → (100 ≤ n → more ≡ 1) → (n < 100 → more ≡ 0) → 3 + more ≡ length (decimal n) + 1
column_len more n lo hi high low = by_width (eq-zero-or-pos (100 - n))
  where
    by_width : (100 - n ≡ 0) ⊎ (0 < 100 - n) → 3 + more ≡ length (decimal n) + 1
    by_width (inl z) = omega (arith, high (omega arith), count_three n (omega arith) hi)
    by_width (inr g) = omega (arith, low (omega arith), count_two n lo (omega arith))
