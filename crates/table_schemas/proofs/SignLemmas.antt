-- The signs of the columns that are left.
use Rattle.std.proofs.Common.{◌≡◌, ℕ, suc, ◌+◌, ◌<◌, Bool, true, false, List, [], ◌∷◌, ◌++◌, length, drop, get_or, map, refl, ap, ◌∙◌, sym, append_assoc, arith}
use Rattle.std.specs.Prelude.{count_by, not, cond, if◌then◌else◌}
use Rattle.std.specs.List.{filter, zip}
use Rattle.std.proofs.lemmas.List.{drop_more}
use Rattle.std.proofs.lemmas.List.Sums.{sum_by-cons}
use Rattle.rows_table_map.specs.BitLists.{highest_bit}
use Rattle.rows_table_map.specs.MetadataFields.{bits_from}
use Rattle.table_schemas.specs.YearSigns.{has_sign, is_year}

-- those of columns of these types, of so many bits from this one on
abbrev by_count : ℕ → List ℕ → List ℕ → ℕ → List Bool
by_count n types value k = map (λ s. s.1) (filter (λ s. not (is_year s.0)) (zip (filter has_sign types) (bits_from (highest_bit value) k n)))

abbrev pub signs_left : List ℕ → List ℕ → ℕ → List Bool
signs_left types value k = by_count (count_by has_sign types) types value k

-- that of a column
abbrev pub sign_of : ℕ → Bool → List Bool
sign_of number sign = if is_year number then [] else sign ∷ []

first_sign : (n t : ℕ) (ts value : List ℕ) (k : ℕ) (is_a_year : Bool) → has_sign t ≡ true → is_year t ≡ is_a_year → by_count (suc n) (t ∷ ts) value k ≡ sign_of t (highest_bit value k) ++ by_count n ts value (k + 1)
unfolding bits_from
first_sign n t ts value k true has year = rw (has, year) refl
first_sign n t ts value k false has year = rw (has, year) refl

counts : (t : ℕ) (ts : List ℕ) (has : Bool) → has_sign t ≡ has → count_by has_sign (t ∷ ts) ≡ (cond has 1 0) + count_by has_sign ts
counts t ts has is = sum_by-cons (λ (x : ℕ). cond (has_sign x) 1 0) t ts ∙ ap (λ (b : Bool). (cond b 1 0) + count_by has_sign ts) is

-- the first of them is that of the column at an index, which has one
pub with_sign : (types : List ℕ) (i : ℕ) (value : List ℕ) (k : ℕ) → i < length types → has_sign (get_or types i 0) ≡ true
    → signs_left (drop i types) value k ≡ sign_of (get_or types i 0) (highest_bit value k) ++ signs_left (drop (i + 1) types) value (k + 1)
with_sign types i value k within has =
    let t = get_or types i 0 in
    let ts = drop (i + 1) types in
    let more : count_by has_sign (t ∷ ts) ≡ suc (count_by has_sign ts) = counts t ts true has ∙ omega arith in
    ap (λ (l : List ℕ). signs_left l value k) (drop_more types i 0 within)
    ∙ ap (λ (n : ℕ). by_count n (t ∷ ts) value k) more
    ∙ first_sign (count_by has_sign ts) t ts value k (is_year t) has refl

-- a column without one
pub without_sign : (types : List ℕ) (i : ℕ) (value : List ℕ) (k : ℕ) → i < length types → has_sign (get_or types i 0) ≡ false → signs_left (drop i types) value k ≡ signs_left (drop (i + 1) types) value k
without_sign types i value k within none =
    let t = get_or types i 0 in
    let ts = drop (i + 1) types in
    let same : count_by has_sign (t ∷ ts) ≡ count_by has_sign ts = counts t ts false none ∙ omega arith in
    ap (λ (l : List ℕ). signs_left l value k) (drop_more types i 0 within)
    ∙ ap (λ (n : ℕ). by_count n (t ∷ ts) value k) same
    ∙ rw none refl

-- those that were found, and those that are left
pub sign_found : (old new whole : List Bool) (types : List ℕ) (i : ℕ) (value : List ℕ) (k : ℕ) (sign : Bool) → i < length types → has_sign (get_or types i 0) ≡ true
    → sign ≡ highest_bit value k → new ≡ old ++ sign_of (get_or types i 0) sign → old ++ signs_left (drop i types) value k ≡ whole → new ++ signs_left (drop (i + 1) types) value (k + 1) ≡ whole
sign_found old new whole types i value k sign within has is more so_far =
    ap (λ (l : List Bool). l ++ signs_left (drop (i + 1) types) value (k + 1)) (more ∙ ap (λ (s : Bool). old ++ sign_of (get_or types i 0) s) is)
    ∙ append_assoc old (sign_of (get_or types i 0) (highest_bit value k)) (signs_left (drop (i + 1) types) value (k + 1))
    ∙ ap (λ (l : List Bool). old ++ l) (sym (with_sign types i value k within has))
    ∙ so_far

pub sign_missing : (old whole : List Bool) (types : List ℕ) (i : ℕ) (value : List ℕ) (k : ℕ) → i < length types → has_sign (get_or types i 0) ≡ false
    → old ++ signs_left (drop i types) value k ≡ whole → old ++ signs_left (drop (i + 1) types) value k ≡ whole
sign_missing old whole types i value k within none so_far = ap (λ (l : List Bool). old ++ l) (sym (without_sign types i value k within none)) ∙ so_far
