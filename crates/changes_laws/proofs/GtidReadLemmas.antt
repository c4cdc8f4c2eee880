-- The JSON of a GTID without a tag shows its UUID and number, and the line of a statement its parts.
use Rattle.std.proofs.Common.{◌≡◌, ℕ, suc, ◌+◌, ◌/◌, ◌%◌, ◌<◌, ◌≤◌, ◌^◌, Bool, true, false, not, ◌||◌, T, eqb→eq, List, [], ◌∷◌, ◌++◌, length, take, drop, refl, sym, ap, ap₂, ◌∙◌, subst, append_assoc, arith, length-drop}
use Rattle.std.specs.Prelude.{slice_index, Some, ◌==◌}
use Rattle.std.specs.Fmt.{decimal}
use Rattle.std.proofs.lemmas.Bool.{false≢true}
use Rattle.std.proofs.lemmas.List.{drop-drop, length-take-le, take-append-drop}
use Rattle.hex.specs.Hex.{encode_lower, encode_with, lower_digits}
use Rattle.wire_buf.specs.Encoding.{AreBytes}
use Rattle.feed_writers.proofs.PlainLemmas.{upto, upto_sound}
use Rattle.rows_values.proofs.UnpackedLemmas.{take_bytes, drop_bytes}
use Rattle.feed_checks.specs.Kinds.{Numbered}
use Rattle.feed_transactions.specs.TransactionTexts.{uuid_text}
use Rattle.changes_origins.specs.GtidJson.{IsGtidJson}
use Rattle.changes_laws.proofs.TimestampReadLemmas.{decimals_same}
use Rattle.changes_laws.proofs.DateReadLemmas.{decimal_digits, digits_end}

abbrev first : List ℕ → ℕ
first [] = 0
first (x ∷ xs) = x

abbrev others : List ℕ → List ℕ
others [] = []
others (x ∷ xs) = xs

-- ---- hexadecimal digits
abbrev digit_in : ℕ → ℕ
digit_in k = slice_index lower_digits k

abbrev are_told : ℕ → ℕ → Bool
are_told i j = (i == j) || not (digit_in i == digit_in j)

digits_same : (i j : ℕ) → i < 16 → j < 16 → digit_in i ≡ digit_in j → i ≡ j
digits_same i j p q e = go (i == j) refl (digit_in i == digit_in j) refl (upto_sound (are_told i) 16 (upto_sound (λ k. upto (are_told k) 16) 16 tt i p) j q)
  where
    go : (b : Bool) → (i == j) ≡ b → (d : Bool) → (digit_in i == digit_in j) ≡ d → T (b || not d) → i ≡ j
    go true f d g h = eqb→eq i j (subst T (sym f) tt)
    go false f true g h = absurd h
    go false f false g h = absurd (let yes : (digit_in i == digit_in j) ≡ true = rw e (search arith) in false≢true (sym g ∙ yes))

hex_read : (a b s t : List ℕ) → AreBytes a → AreBytes b → length a ≡ length b → encode_lower a ++ s ≡ encode_lower b ++ t → (a ≡ b) × (s ≡ t)
unfolding encode_with
hex_read [] [] s t p q l e = (refl, e)
hex_read [] (y ∷ b) s t p q l e = absurd (omega (arith, l))
hex_read (x ∷ a) [] s t p q l e = absurd (omega (arith, l))
hex_read (x ∷ a) (y ∷ b) s t p q l e =
    let high = digits_same (x / 16) (y / 16) (omega (arith, p 0)) (omega (arith, q 0)) (ap first e) in
    let low = digits_same (x % 16) (y % 16) (omega arith) (omega arith) (ap first (ap others e)) in
    let same : x ≡ y = omega (arith, high, low) in
    let more = hex_read a b s t (λ i. p (suc i)) (λ i. q (suc i)) (omega (arith, l)) (ap others (ap others e)) in
    (ap₂ (λ (c : ℕ) (cs : List ℕ). c ∷ cs) same more.0, more.1)

-- ---- UUIDs
part : (k n : ℕ) (u : List ℕ) → AreBytes u → AreBytes (take k (drop n u))
part k n u h = take_bytes k (drop n u) (drop_bytes n u h)

part_long : (k n : ℕ) (u : List ℕ) → length u ≡ 16 → k + n ≤ 16 → length (take k (drop n u)) ≡ k
part_long k n u h le = length-take-le k (drop n u) (omega (arith, le, h, length-drop n u))

uuid_parts : (u s : List ℕ) → uuid_text u ++ s ≡ encode_lower (take 4 u) ++ 45 ∷ (encode_lower (take 2 (drop 4 u)) ++ 45 ∷ (encode_lower (take 2 (drop 6 u)) ++ 45 ∷ (encode_lower (take 2 (drop 8 u)) ++ 45 ∷ (encode_lower (drop 10 u) ++ s))))
uuid_parts u s = five (encode_lower (take 4 u)) (encode_lower (take 2 (drop 4 u))) (encode_lower (take 2 (drop 6 u))) (encode_lower (take 2 (drop 8 u))) (encode_lower (drop 10 u)) s
  where
    five : (a b c d e s : List ℕ) → (a ++ 45 ∷ b ++ 45 ∷ c ++ 45 ∷ d ++ 45 ∷ e) ++ s ≡ a ++ 45 ∷ (b ++ 45 ∷ (c ++ 45 ∷ (d ++ 45 ∷ (e ++ s))))
    five a b c d e s =
        let x = (a ++ 45 ∷ b) ++ 45 ∷ c in
        append_assoc (x ++ 45 ∷ d) (45 ∷ e) s ∙ append_assoc x (45 ∷ d) (45 ∷ (e ++ s)) ∙ append_assoc (a ++ 45 ∷ b) (45 ∷ c) (45 ∷ (d ++ 45 ∷ (e ++ s))) ∙ append_assoc a (45 ∷ b) (45 ∷ (c ++ 45 ∷ (d ++ 45 ∷ (e ++ s))))

rest_joined : (k n : ℕ) (u : List ℕ) → take k (drop n u) ++ drop (n + k) u ≡ drop n u
rest_joined k n u = ap (λ (t : List ℕ). take k (drop n u) ++ t) (sym (drop-drop k n u)) ∙ take-append-drop k (drop n u)

joined : (u : List ℕ) → take 4 u ++ (take 2 (drop 4 u) ++ (take 2 (drop 6 u) ++ (take 2 (drop 8 u) ++ drop 10 u))) ≡ u
joined u =
    ap (λ (t : List ℕ). take 4 u ++ (take 2 (drop 4 u) ++ (take 2 (drop 6 u) ++ t))) (rest_joined 2 8 u) ∙ ap (λ (t : List ℕ). take 4 u ++ (take 2 (drop 4 u) ++ t)) (rest_joined 2 6 u)
    ∙ ap (λ (t : List ℕ). take 4 u ++ t) (rest_joined 2 4 u) ∙ take-append-drop 4 u

pub uuids_read : (u v s t : List ℕ) → AreBytes u → AreBytes v → length u ≡ 16 → length v ≡ 16 → uuid_text u ++ s ≡ uuid_text v ++ t → (u ≡ v) × (s ≡ t)
uuids_read u v s t p q l m e =
    let same = λ (k n : ℕ) (le : k + n ≤ 16). part_long k n u l le ∙ sym (part_long k n v m le) in
    let a = hex_read (take 4 u) (take 4 v) _ _ (take_bytes 4 u p) (take_bytes 4 v q) (length-take-le 4 u (omega (arith, l)) ∙ sym (length-take-le 4 v (omega (arith, m)))) (sym (uuid_parts u s) ∙ e ∙ uuid_parts v t) in
    let b = hex_read (take 2 (drop 4 u)) (take 2 (drop 4 v)) _ _ (part 2 4 u p) (part 2 4 v q) (same 2 4 (omega arith)) (ap others a.1) in
    let c = hex_read (take 2 (drop 6 u)) (take 2 (drop 6 v)) _ _ (part 2 6 u p) (part 2 6 v q) (same 2 6 (omega arith)) (ap others b.1) in
    let d = hex_read (take 2 (drop 8 u)) (take 2 (drop 8 v)) _ _ (part 2 8 u p) (part 2 8 v q) (same 2 8 (omega arith)) (ap others c.1) in
    let f = hex_read (drop 10 u) (drop 10 v) s t (drop_bytes 10 u p) (drop_bytes 10 v q) (omega (arith, l, m, length-drop 10 u, length-drop 10 v)) (ap others d.1) in
    (sym (joined u) ∙ ap₂ (λ (x y : List ℕ). x ++ y) a.0 (ap₂ (λ (x y : List ℕ). x ++ y) b.0 (ap₂ (λ (x y : List ℕ). x ++ y) c.0 (ap₂ (λ (x y : List ℕ). x ++ y) d.0 f.0))) ∙ joined v, f.1)

pub gtids_read : (u v : List ℕ) (m n : ℕ) (x : List ℕ) → AreBytes u → AreBytes v → length u ≡ 16 → length v ≡ 16 → m < 2 ^ 64 → IsGtidJson (Some (Numbered u m)) x → IsGtidJson (Some (Numbered v n)) x → (u ≡ v) × (m ≡ n)
gtids_read u v m n x p q l k lt e f =
    let a = uuids_read u v (58 ∷ (decimal m ++ 34 ∷ [])) (58 ∷ (decimal n ++ 34 ∷ [])) p q l k (ap others (sym e ∙ f)) in
    let b = digits_end (decimal m) (decimal n) (34 ∷ []) (34 ∷ []) (decimal_digits m) (decimal_digits n) refl refl (ap others a.1) in
    (a.0, decimals_same m n lt b.0)
