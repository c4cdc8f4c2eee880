-- The leading groups that are only zeros.
use Rattle.std.proofs.Common.{◌≡◌, ◌≤◌, ◌<◌, ◌+◌, ◌*◌, ◌-◌, ◌/◌, ◌%◌, ◌++◌, true, false, eqb, ltb, true≢false, ℕ, zero, suc, List, [], ◌∷◌, length, take, drop, inl, inr, append_assoc, arith, refl, sym, ap, subst, ◌∙◌}
use Rattle.std.proofs.lemmas.Bool.{and_parts, cases_Bool}
use Rattle.std.proofs.lemmas.Bool.Decides.{eqb_tells, leb_tells}
use mir.Val.{bool_byte}
use Rattle.std.proofs.lemmas.List.{length-drop, drop-drop, take-append-drop}
use Rattle.std.proofs.lemmas.List.Sums.{prefix_len-le-length}
use Rattle.std.specs.Prelude.{◌&&◌}
use Rattle.std.specs.List.{prefix_len}
use Rattle.rows_values.specs.Decimals.{only_zeros, without_zero_nines, without_zero_groups, first_group, DropsZeroGroups}

-- the number of leading zeros
abbrev pub zeros : List ℕ → ℕ
zeros ds = prefix_len (λ d. eqb d 0) ds

all_prefix : (k : ℕ) (ds : List ℕ) → k ≤ length ds → only_zeros (take k ds) ≡ true → zeros ds ≡ k + zeros (drop k ds)
all_prefix zero ds room h = omega arith
all_prefix (suc k) [] room h = absurd (omega (arith, room))
all_prefix (suc k) (d ∷ ds) room h =
    let parts = and_parts (eqb d 0) (only_zeros (take k ds)) h in
    let rest = all_prefix k ds (omega (arith, room)) parts.1 in
    rw parts.0 (omega (arith, rest))

some_prefix : (k : ℕ) (ds : List ℕ) → only_zeros (take k ds) ≡ false → zeros ds < k
some_prefix zero ds h = absurd (true≢false h)
some_prefix (suc k) [] h = absurd (true≢false h)
some_prefix (suc k) (d ∷ ds) h = elim (eqb_tells d 0) [
  | inl t ↦ let rest = some_prefix k ds (subst (λ b. (b && only_zeros (take k ds)) ≡ false) t.0 h) in rw t.0 (omega (arith, rest))
  | inr t ↦ rw t.0 (omega arith)
]

nines_dropped : (n : ℕ) (ds : List ℕ) → length ds ≡ 9 * n → drop (9 * n - 9 * ((9 * n - zeros ds + 8) / 9)) ds ≡ without_zero_nines n ds
unfolding without_zero_nines
nines_dropped zero ds long = let none : 9 * 0 - 9 * ((9 * 0 - zeros ds + 8) / 9) ≡ 0 = omega arith in ap (λ k. drop k ds) none
nines_dropped (suc n) ds long = elim (cases_Bool (only_zeros (take 9 ds))) [
  | inl h ↦
      let z = all_prefix 9 ds (omega (arith, long)) h in
      let rest : length (drop 9 ds) ≡ 9 * n = omega (arith, long, length-drop 9 ds) in
      let few = prefix_len-le-length (λ d. eqb d 0) (drop 9 ds) in
      let amount : 9 * suc n - 9 * ((9 * suc n - zeros ds + 8) / 9) ≡ 9 + (9 * n - 9 * ((9 * n - zeros (drop 9 ds) + 8) / 9)) = omega (arith, z, few, rest) in
      rw h (ap (λ k. drop k ds) amount ∙ sym (drop-drop (9 * n - 9 * ((9 * n - zeros (drop 9 ds) + 8) / 9)) 9 ds) ∙ nines_dropped n (drop 9 ds) rest)
  | inr h ↦
      let z = some_prefix 9 ds h in
      let none : 9 * suc n - 9 * ((9 * suc n - zeros ds + 8) / 9) ≡ 0 = omega (arith, z) in
      rw h (ap (λ k. drop k ds) none)
]

-- the last whole groups that hold the other digits are kept, or all digits
pub groups_dropped : (ds : List ℕ) → drop (length ds - 9 * ((length ds - zeros ds + 8) / 9)) ds ≡ without_zero_groups ds
groups_dropped ds =
    let n = length ds in
    let left = n % 9 in
    let w = n / 9 in
    elim (cases_Bool (only_zeros (take left ds))) [
      | inl h ↦
          let z = all_prefix left ds (omega arith) h in
          let rest : length (drop left ds) ≡ 9 * w = omega (arith, length-drop left ds) in
          let few = prefix_len-le-length (λ d. eqb d 0) (drop left ds) in
          let amount : n - 9 * ((n - zeros ds + 8) / 9) ≡ left + (9 * w - 9 * ((9 * w - zeros (drop left ds) + 8) / 9)) = omega (arith, z, few, rest) in
          rw h (ap (λ k. drop k ds) amount ∙ sym (drop-drop (9 * w - 9 * ((9 * w - zeros (drop left ds) + 8) / 9)) left ds) ∙ nines_dropped w (drop left ds) rest)
      | inr h ↦
          let z = some_prefix left ds h in
          let none : n - 9 * ((n - zeros ds + 8) / 9) ≡ 0 = omega (arith, z) in
          rw h (ap (λ k. drop k ds) none)
    ]

-- whole groups, and one more for the remainder
ceiling : (n : ℕ) → n / 9 + bool_byte (ltb 0 (n % 9)) ≡ (n + 8) / 9
ceiling n = elim (leb_tells 1 (n % 9)) [ inl t ↦ rw t.0 (omega (arith, t.1)) | inr t ↦ rw t.0 (omega (arith, t.1)) ]

pub kept_are_these : (ds : List ℕ) (n prefix rest m u : ℕ) → n ≡ length ds → prefix ≡ prefix_len (λ d. eqb d 0) ds → rest ≡ bool_byte (ltb 0 ((n - prefix) % 9)) → m ≡ length ds → u ≡ m - 9 * ((n - prefix) / 9 + rest)
    → drop u ds ≡ without_zero_groups ds
kept_are_these ds n prefix rest m u size is more again cut =
    let groups : (n - prefix) / 9 + rest ≡ (length ds - zeros ds + 8) / 9 =
    ap (λ k. (n - prefix) / 9 + k) more ∙ ceiling (n - prefix) ∙ ap (λ k. (k - prefix + 8) / 9) size ∙ ap (λ k. (length ds - k + 8) / 9) is in
    ap (λ k. drop k ds) (cut ∙ ap (λ k. k - 9 * ((n - prefix) / 9 + rest)) again ∙ ap (λ k. length ds - 9 * k) groups) ∙ groups_dropped ds

-- ---- the groups that are dropped

zeros_append : (xs ys : List ℕ) → only_zeros xs ≡ true → only_zeros ys ≡ true → only_zeros (xs ++ ys) ≡ true
zeros_append [] ys h g = g
zeros_append (x ∷ xs) ys h g = let parts = and_parts (eqb x 0) (only_zeros xs) h in rw parts.0 (zeros_append xs ys parts.1 g)

-- one more group is dropped
drops_more : (k : ℕ) (ds rest : List ℕ) → only_zeros (take k ds) ≡ true → length (drop k ds) % 9 ≡ 0 → DropsZeroGroups (drop k ds) rest → DropsZeroGroups ds rest
drops_more k ds rest h even r = record {
  dropped = take k ds ++ r.dropped;
  whole = sym (take-append-drop k ds) ∙ ap (λ l. take k ds ++ l) r.whole ∙ sym (append_assoc (take k ds) r.dropped rest);
  zeros = zeros_append (take k ds) r.dropped h r.zeros;
  at_group = elim r.at_group [
    | inl none ↦ inr (ap (λ l. length l % 9) (sym (r.whole ∙ ap (λ l. l ++ rest) none)) ∙ even)
    | inr e ↦ inr e
  ];
  others_first = r.others_first;
}

drops_none : (k : ℕ) (ds : List ℕ) → (0 < length ds → first_group (length ds) ≡ k) → only_zeros (take k ds) ≡ false → DropsZeroGroups ds ds
drops_none k ds is h = record { dropped = []; whole = refl; zeros = refl; at_group = inl refl; others_first = λ some. ap (λ n. only_zeros (take n ds)) (is some) ∙ h }

nine_first : (n : ℕ) → n % 9 ≡ 0 → first_group n ≡ 9
nine_first n e = elim (eqb_tells (n % 9) 0) [ inl t ↦ rw t.0 refl | inr t ↦ absurd (t.1 e) ]

left_first : (n : ℕ) → 0 < n % 9 → first_group n ≡ n % 9
left_first n some = elim (eqb_tells (n % 9) 0) [ inl t ↦ absurd (omega (arith, some, t.1)) | inr t ↦ rw t.0 refl ]

nines_split : (n : ℕ) (ds : List ℕ) → length ds ≡ 9 * n → DropsZeroGroups ds (without_zero_nines n ds)
unfolding without_zero_nines
nines_split zero ds long = record { dropped = []; whole = refl; zeros = refl; at_group = inl refl; others_first = λ some. absurd (omega (arith, some, long)) }
nines_split (suc n) ds long = elim (cases_Bool (only_zeros (take 9 ds))) [
  | inl h ↦
      let rest : length (drop 9 ds) ≡ 9 * n = omega (arith, long, length-drop 9 ds) in
      rw h (drops_more 9 ds (without_zero_nines n (drop 9 ds)) h (omega (arith, rest)) (nines_split n (drop 9 ds) rest))
  | inr h ↦ rw h (drops_none 9 ds (λ _. nine_first (length ds) (omega (arith, long))) h)
]

-- a list that isn't only zeros isn't empty
some_left : (k : ℕ) (ds : List ℕ) → only_zeros (take k ds) ≡ false → 0 < k
some_left zero ds h = absurd (true≢false h)
some_left (suc k) ds h = omega arith

pub groups_split : (ds : List ℕ) → DropsZeroGroups ds (without_zero_groups ds)
groups_split ds =
    let left = length ds % 9 in
    elim (cases_Bool (only_zeros (take left ds))) [
      | inl h ↦
          let rest : length (drop left ds) ≡ 9 * (length ds / 9) = omega (arith, length-drop left ds) in
          rw h (drops_more left ds (without_zero_nines (length ds / 9) (drop left ds)) h (omega (arith, rest)) (nines_split (length ds / 9) (drop left ds) rest))
      | inr h ↦ rw h (drops_none left ds (λ _. left_first (length ds) (some_left left ds h)) h)
    ]
