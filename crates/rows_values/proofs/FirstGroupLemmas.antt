-- The first group of the remaining digits.
use Rattle.std.proofs.Common.{◌≡◌, ◌≤◌, ◌<◌, ◌+◌, ◌*◌, ◌-◌, ◌/◌, ◌%◌, ◌++◌, ℕ, zero, suc, List, [], ◌∷◌, length, take, drop, ◌⊎◌, inl, inr, append_assoc, arith, refl, sym, ap, subst, ◌∙◌}
use Rattle.std.proofs.Math.Seq.{take-length}
use Rattle.std.proofs.lemmas.List.{length-drop, drop-drop, append-nil, length-take-le}
use Rattle.rows_values.specs.Digits.{AreDigits, group_bytes, nines_bytes, before_bytes, after_bytes}
use Rattle.rows_values.proofs.GroupLemmas.{take_digits, drop_digits, drop_past}
use Rattle.std.proofs.lemmas.Bool.Decides.{leb_tells}
use Rattle.std.specs.Prelude.{min}
use Rattle.rows_values.specs.Steps.{SplitsGroup}
use Rattle.rows_values.proofs.UnpackLemmas.{before_of}

nines_prefix : (n : ℕ) (ds : List ℕ) → nines_bytes (suc n) ds ≡ group_bytes (take 9 ds) ++ nines_bytes n (drop 9 ds)
unfolding nines_bytes
nines_prefix zero ds = sym (append-nil (group_bytes (take 9 ds)))
nines_prefix (suc n) ds =
    let g = group_bytes (take 9 ds) in
    let position : 9 * suc n ≡ 9 + 9 * n = omega arith in
    let last : drop (9 * suc n) ds ≡ drop (9 * n) (drop 9 ds) = ap (λ k. drop k ds) position ∙ sym (drop-drop (9 * n) 9 ds) in
    ap (λ l. l ++ group_bytes (take 9 (drop (9 * suc n) ds))) (nines_prefix n ds) ∙ append_assoc g (nines_bytes n (drop 9 ds)) (group_bytes (take 9 (drop (9 * suc n) ds)))
    ∙ ap (λ l. g ++ (nines_bytes n (drop 9 ds) ++ group_bytes (take 9 l))) last

whole_before : (w : ℕ) (ds : List ℕ) → length ds ≡ 9 * w → before_bytes ds ≡ nines_bytes w ds
whole_before w ds long =
    let none : 9 * w % 9 ≡ 0 = omega arith in
    let all : 9 * w / 9 ≡ w = omega arith in
    before_of (9 * w) ds long ∙ ap (λ k. group_bytes (take k ds) ++ nines_bytes (9 * w / 9) (drop k ds)) none ∙ ap (λ k. nines_bytes k ds) all

pub before_left : (ds : List ℕ) → before_bytes ds ≡ group_bytes (take (length ds % 9) ds) ++ before_bytes (drop (length ds % 9) ds)
before_left ds =
    let left = length ds % 9 in
    let rest : length (drop left ds) ≡ 9 * (length ds / 9) = omega (arith, length-drop left ds) in
    before_of (length ds) ds refl ∙ ap (λ l. group_bytes (take left ds) ++ l) (sym (whole_before (length ds / 9) (drop left ds) rest))

pub before_nine : (ds : List ℕ) → length ds % 9 ≡ 0 → 0 < length ds → before_bytes ds ≡ group_bytes (take 9 ds) ++ before_bytes (drop 9 ds)
before_nine ds even some =
    let w = length ds / 9 - 1 in
    let long : length ds ≡ 9 * suc w = omega (arith, even, some) in
    let rest : length (drop 9 ds) ≡ 9 * w = omega (arith, long, length-drop 9 ds) in
    whole_before (suc w) ds long ∙ nines_prefix w ds ∙ ap (λ l. group_bytes (take 9 ds) ++ l) (sym (whole_before w (drop 9 ds) rest))

after_whole : (w : ℕ) (es : List ℕ) → length es / 9 ≡ w → after_bytes es ≡ nines_bytes w es ++ group_bytes (drop (9 * w) es)
unfolding after_bytes
after_whole w es e = ap (λ k. nines_bytes k es ++ group_bytes (drop (9 * k) es)) e

pub after_nine : (es : List ℕ) → 9 ≤ length es → after_bytes es ≡ group_bytes (take 9 es) ++ after_bytes (drop 9 es)
after_nine es some =
    let w = length es / 9 - 1 in
    let whole : length es / 9 ≡ suc w = omega (arith, some) in
    let rest : length (drop 9 es) / 9 ≡ w = omega (arith, some, length-drop 9 es) in
    let position : 9 * suc w ≡ 9 + 9 * w = omega arith in
    let last : drop (9 * suc w) es ≡ drop (9 * w) (drop 9 es) = ap (λ k. drop k es) position ∙ sym (drop-drop (9 * w) 9 es) in
    let g = group_bytes (take 9 es) in
    after_whole (suc w) es whole ∙ ap (λ l. l ++ group_bytes (drop (9 * suc w) es)) (nines_prefix w es) ∙ append_assoc g (nines_bytes w (drop 9 es)) (group_bytes (drop (9 * suc w) es))
    ∙ ap (λ l. g ++ (nines_bytes w (drop 9 es) ++ group_bytes l)) last ∙ ap (λ l. g ++ l) (sym (after_whole w (drop 9 es) rest))

pub after_short : (es : List ℕ) → length es < 9 → after_bytes es ≡ group_bytes es
unfolding nines_bytes
after_short es few = let none : length es / 9 ≡ 0 = omega (arith, few) in after_whole 0 es none

pub after_none : after_bytes [] ≡ []
unfolding after_bytes nines_bytes
after_none = refl

pub before_none : before_bytes [] ≡ []
unfolding before_bytes nines_bytes
before_none = refl

-- the first group before the point
pub splits_before : (before after group rest : List ℕ) (n : ℕ) → AreDigits before → AreDigits after → 0 < length before → ((length before % 9 ≡ 0) × (n ≡ 9)) ⊎ ((0 < length before % 9) × (n ≡ length before % 9))
    → group ≡ take n before → rest ≡ drop n before → SplitsGroup before after group rest after
splits_before before after group rest n h g some which prefix back = record {
  few = omega (arith, size, nine);
  whole = omega (arith, size, fits, ap length back, length-drop n before);
  group_are = subst AreDigits (sym prefix) (take_digits n before h);
  before_are = subst AreDigits (sym back) (drop_digits n before h);
  after_are = g;
  bytes_are = ap (λ l. l ++ after_bytes after) parts ∙ append_assoc (group_bytes (take n before)) (before_bytes (drop n before)) (after_bytes after)
      ∙ ap (λ l. group_bytes l ++ (before_bytes (drop n before) ++ after_bytes after)) (sym prefix) ∙ ap (λ l. group_bytes group ++ (before_bytes l ++ after_bytes after)) (sym back);
  none = λ e. absurd (omega (arith, e, size, positive));
}
  where
    nine : n ≤ 9
    nine = elim which [ inl q ↦ omega (arith, q.1) | inr q ↦ omega (arith, q.1) ]

    fits : n ≤ length before
    fits = elim which [ inl q ↦ omega (arith, q.1, q.0, some) | inr q ↦ omega (arith, q.1) ]

    positive : 0 < n
    positive = elim which [ inl q ↦ omega (arith, q.1) | inr q ↦ omega (arith, q.0, q.1) ]

    size : length group ≡ n
    size = ap length prefix ∙ length-take-le n before fits

    parts : before_bytes before ≡ group_bytes (take n before) ++ before_bytes (drop n before)
    parts = elim which [
      | inl q ↦ before_nine before q.0 some ∙ ap (λ k. group_bytes (take k before) ++ before_bytes (drop k before)) (sym q.1)
      | inr q ↦ before_left before ∙ ap (λ k. group_bytes (take k before) ++ before_bytes (drop k before)) (sym q.1)
    ]

no_list : (xs : List ℕ) → length xs ≡ 0 → xs ≡ []
no_list [] e = refl
no_list (x ∷ xs) e = absurd (omega (arith, e))

-- the first group after the point
pub splits_after : (before after group rest : List ℕ) (n : ℕ) → AreDigits before → AreDigits after → length before ≡ 0 → ((length after < 9) × (n ≡ length after)) ⊎ ((9 ≤ length after) × (n ≡ 9))
    → group ≡ take n after → rest ≡ drop n after → SplitsGroup before after group before rest
splits_after before after group rest n h g zeros which prefix back = record {
  few = omega (arith, size, nine);
  whole = omega (arith, size, fits, ap length back, length-drop n after);
  group_are = subst AreDigits (sym prefix) (take_digits n after g);
  before_are = h;
  after_are = subst AreDigits (sym back) (drop_digits n after g);
  bytes_are = alone after ∙ parts ∙ ap (λ l. group_bytes l ++ after_bytes (drop n after)) (sym prefix) ∙ ap (λ l. group_bytes group ++ after_bytes l) (sym back) ∙ ap (λ l. group_bytes group ++ l) (sym (alone rest));
  none = λ e. alone after ∙ ap after_bytes (no_list after (short (sym size ∙ e))) ∙ after_none;
}
  where
    alone : (es : List ℕ) → before_bytes before ++ after_bytes es ≡ after_bytes es
    alone es = ap (λ l. before_bytes l ++ after_bytes es) (no_list before zeros) ∙ ap (λ l. l ++ after_bytes es) before_none

    nine : n ≤ 9
    nine = elim which [ inl q ↦ omega (arith, q.0, q.1) | inr q ↦ omega (arith, q.1) ]

    fits : n ≤ length after
    fits = elim which [ inl q ↦ omega (arith, q.1) | inr q ↦ omega (arith, q.0, q.1) ]

    size : length group ≡ n
    size = ap length prefix ∙ length-take-le n after fits

    short : n ≡ 0 → length after ≡ 0
    short e = elim which [ inl q ↦ sym q.1 ∙ e | inr q ↦ absurd (omega (arith, q.1, e)) ]

    parts : after_bytes after ≡ group_bytes (take n after) ++ after_bytes (drop n after)
    parts = elim which [
      | inl q ↦
          after_short after q.0 ∙ ap group_bytes (sym (take-length after)) ∙ ap (λ k. group_bytes (take k after)) (sym q.1) ∙ sym (append-nil (group_bytes (take n after)))
          ∙ ap (λ l. group_bytes (take n after) ++ l) (sym (ap after_bytes (drop_past after n (omega (arith, q.1))) ∙ after_none))
      | inr q ↦ after_nine after q.0 ∙ ap (λ k. group_bytes (take k after) ++ after_bytes (drop k after)) (sym q.1)
    ]

pub nine_or_all : (n m : ℕ) → m ≡ min n 9 → ((n < 9) × (m ≡ n)) ⊎ ((9 ≤ n) × (m ≡ 9))
nine_or_all n m e = elim (leb_tells 9 n) [ inl t ↦ inr (t.1, omega (arith, e, t.1)) | inr t ↦ inl (omega (arith, t.1), omega (arith, e, t.1)) ]
