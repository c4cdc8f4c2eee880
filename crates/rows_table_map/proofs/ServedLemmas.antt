-- The items for columns, one at a time.
use Rattle.std.proofs.Common.{◌≡◌, ℕ, suc, true, false, List, [], ◌∷◌, map, Option, Some, None, Ok, Err, inl, inr, refl, sym, ap, ◌∙◌}
use Rattle.rows_errors.specs.declared.fault.RowsError.{RowsError}
use Rattle.rows_errors.specs.Readings.{Reading, map_reading}
use Rattle.std.specs.Prelude.{◌==◌}
use Rattle.std.proofs.lemmas.Bool.Decides.{eqb_tells}
use Rattle.rows_table_map.specs.MetadataViews.{charset}
use Rattle.rows_table_map.specs.Lists.{numbers, pairs, items_in, items_of}
use Rattle.rows_table_map.specs.Served.{CharsetEntry, of_column, plain, chained, pair_entry, number_entry, key_indexes, charset_entries, default_item, next_index, charset_after}

-- empty bytes have no items
pub no_numbers : numbers [] ≡ []
unfolding items_of items_in
no_numbers = refl

pub no_pairs : pairs [] ≡ []
unfolding items_of items_in
no_pairs = refl

pub no_indexes : key_indexes None None ≡ []
unfolding items_of items_in
no_indexes = refl

pub no_charsets : charset_entries None None ≡ []
unfolding items_of items_in
no_charsets = refl

-- an error is the last item
pub chain_fault : {A : Type 0} (xs ys rest zs none : List (Reading A)) (e : RowsError) → xs ≡ Err e ∷ rest → zs ≡ none → none ≡ [] → chained xs ys ≡ Err e ∷ zs
chain_fault {A = A} xs ys rest zs none e h i j = rw h (ap (λ (t : List (Reading A)). Err e ∷ t) (sym (i ∙ j)))

-- ---- charsets

is_same : (j i : ℕ) → j ≡ i → (j == i) ≡ true
is_same j i h = elim (eqb_tells j i) [ inl e ↦ e.0 | inr e ↦ absurd (e.1 h) ]

is_other : (j i : ℕ) → (j ≡ i → ⊥) → (j == i) ≡ false
is_other j i h = elim (eqb_tells j i) [ inl e ↦ absurd (h e.1) | inr e ↦ e.0 ]

plain_entries : (ns : List (Reading ℕ)) → map (map_reading plain) (map (map_reading charset) ns) ≡ map (map_reading number_entry) ns
plain_entries [] = refl
plain_entries (Ok n ∷ ns) = ap (λ (t : List (Reading CharsetEntry)). Ok (plain (charset n)) ∷ t) (plain_entries ns)
plain_entries (Err e ∷ ns) = ap (λ (t : List (Reading CharsetEntry)). Err e ∷ t) (plain_entries ns)

pub entries-are : (xs ys : List (Reading (ℕ × ℕ))) (ms ns : List (Reading ℕ)) → xs ≡ ys → ms ≡ map (map_reading charset) ns
    → chained (map (map_reading pair_entry) xs) (map (map_reading plain) ms) ≡ chained (map (map_reading pair_entry) ys) (map (map_reading number_entry) ns)
entries-are xs ys ms ns h i = rw (h, i, plain_entries ns) refl

module _ (d : Option ℕ) (es : List (Reading CharsetEntry)) (i : ℕ) where
  pub default-first : charset_after d [] i 0 ≡ default_item d
  unfolding charset_after
  default-first = refl

  pub default-then : (j k : ℕ) → charset_after d [] j k ≡ charset_after d [] i (suc k)
  unfolding charset_after
  default-then j k = refl

  pub fault-first : (e : RowsError) → charset_after d (Err e ∷ es) i 0 ≡ Some (Err e)
  unfolding charset_after
  fault-first e = refl

  pub fault-then : (e : RowsError) (j k : ℕ) → charset_after None [] j k ≡ charset_after d (Err e ∷ es) i (suc k)
  unfolding charset_after
  fault-then e j k = refl

  pub plain-first : (c : ℕ) → charset_after d (Ok (plain c) ∷ es) i 0 ≡ Some (Ok c)
  unfolding charset_after
  plain-first c = refl

  pub plain-then : (c k : ℕ) → charset_after d es (next_index i) k ≡ charset_after d (Ok (plain c) ∷ es) i (suc k)
  unfolding charset_after
  plain-then c k = refl

  pub same-first : (j c : ℕ) → j ≡ i → charset_after d (Ok (of_column j c) ∷ es) i 0 ≡ Some (Ok c)
  unfolding charset_after
  same-first j c h = rw (is_same j i h) refl

  pub same-then : (j c k : ℕ) → j ≡ i → charset_after d es (next_index i) k ≡ charset_after d (Ok (of_column j c) ∷ es) i (suc k)
  unfolding charset_after
  same-then j c k h = rw (is_same j i h) refl

  pub other-first : (j c : ℕ) → (j ≡ i → ⊥) → charset_after d (Ok (of_column j c) ∷ es) i 0 ≡ default_item d
  unfolding charset_after
  other-first j c h = rw (is_other j i h) refl

  pub other-then : (j c k : ℕ) → (j ≡ i → ⊥) → charset_after d (Ok (of_column j c) ∷ es) (next_index i) k ≡ charset_after d (Ok (of_column j c) ∷ es) i (suc k)
  unfolding charset_after
  other-then j c k h = rw (is_other j i h) refl
