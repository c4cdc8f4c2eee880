-- The columns of a table have different names.
use Rattle.std.proofs.Common.{◌≡◌, ℕ, zero, suc, ◌+◌, ◌<◌, ◌≤◌, ◌^◌, Bool, true, false, not, ◌&&◌, ◌||◌, List, [], ◌∷◌, ◌++◌, map, length, refl, sym, ap, ◌∙◌, arith, Option, Some, None}
use Rattle.std.specs.Prelude.{◌≢◌, if◌then◌else◌, ◌==◌}
use Rattle.std.specs.List.{list_all, list_any, range_with_len}
use Rattle.std.specs.Str.{bytes_eq}
use Rattle.std.proofs.lemmas.Bool.{false≢true}
use Rattle.std.proofs.lemmas.Fmt.{decimal_injective}
use Rattle.std.proofs.lemmas.Slice.Eq.{bytes_eq-Decides}
use Rattle.rows_errors.specs.Readings.{Reading}
use Rattle.rows_table_map.specs.Lists.{strings}
use Rattle.rows_table_map.specs.TableMaps.{TableMap}
use Rattle.changes_tables.specs.UsedMetadata.{readable, used_metadata}
use Rattle.changes_tables.specs.NamesOfColumns.{are_new, are_distinct, is_name, are_names, index_name, index_names, names_or_indexes, names_of}
use Rattle.changes_tables.specs.ColumnParts.{column_names}
use Rattle.changes_laws.specs.JsonNames.{IsOther, AreDistinct}

both : (a b : Bool) → (a && b) ≡ true → (a ≡ true) × (b ≡ true)
both true b h = (refl, h)
both false b h = absurd (false≢true h)

turned : (a : Bool) → not a ≡ true → a ≡ false
turned true h = absurd (false≢true h)
turned false h = refl

neither : (a b : Bool) → (a || b) ≡ false → (a ≡ false) × (b ≡ false)
neither true b h = absurd (false≢true (sym h))
neither false b h = (refl, h)

-- a name that is new is none of the earlier ones
none_of : (name e : List ℕ) (pre post : List (List ℕ)) → list_any (λ d. bytes_eq d name) (pre ++ e ∷ post) ≡ false → name ≢ e
none_of name e [] post h f = false≢true (sym (neither (bytes_eq e name) (list_any (λ d. bytes_eq d name) post) h).0 ∙ (bytes_eq-Decides e name).1 (sym f))
none_of name e (d ∷ pre) post h f = none_of name e pre post (neither (bytes_eq d name) (list_any (λ d. bytes_eq d name) (pre ++ e ∷ post)) h).1 f

other_new : (e : List ℕ) (pre post names : List (List ℕ)) → are_new (pre ++ e ∷ post) names ≡ true → IsOther e names
other_new e pre post [] h = tt
other_new e pre post (n ∷ ns) h =
    let p = both (not (list_any (λ d. bytes_eq d n) (pre ++ e ∷ post))) (are_new (n ∷ (pre ++ e ∷ post)) ns) h in
    (none_of n e pre post (turned (list_any (λ d. bytes_eq d n) (pre ++ e ∷ post)) p.0), other_new e (n ∷ pre) post ns p.1)

distinct_new : (earlier names : List (List ℕ)) → are_new earlier names ≡ true → AreDistinct names
distinct_new earlier [] h = tt
distinct_new earlier (n ∷ ns) h =
    let p = both (not (list_any (λ d. bytes_eq d n) earlier)) (are_new (n ∷ earlier) ns) h in
    (other_new n [] earlier ns p.1, distinct_new (n ∷ earlier) ns p.1)

-- ---- indexes
abbrev others : List ℕ → List ℕ
others [] = []
others (x ∷ xs) = xs

other_indexes : (i start count : ℕ) → i < start → start + count ≤ 2 ^ 64 → IsOther (index_name i) (map index_name (range_with_len start count))
other_indexes i start zero lt le = tt
other_indexes i start (suc count) lt le =
    ((λ e. let same = decimal_injective start i (omega (arith, le)) (omega (arith, lt, le)) (ap others e) in absurd (omega (arith, same, lt))), other_indexes i (start + 1) count (omega (arith, lt)) (omega (arith, le)))

distinct_indexes : (start count : ℕ) → start + count ≤ 2 ^ 64 → AreDistinct (map index_name (range_with_len start count))
distinct_indexes start zero le = tt
distinct_indexes start (suc count) le = (other_indexes start (start + 1) count (omega arith) (omega (arith, le)), distinct_indexes (start + 1) count (omega (arith, le)))

-- ---- columns
some_distinct : (entries : List (Reading (List ℕ))) (count : ℕ) → count < 2 ^ 64 → AreDistinct (names_or_indexes entries count)
some_distinct entries count lt = go (are_names entries count) refl
  where
    go : (b : Bool) → are_names entries count ≡ b → AreDistinct (if b then readable entries else index_names count)
    go true h = distinct_new [] (readable entries) (both (list_all is_name entries && (length (readable entries) == count)) (are_distinct (readable entries)) h).1
    go false h = distinct_indexes 0 count (omega (arith, lt))

names_distinct : (o : Option (List ℕ)) (count : ℕ) → count < 2 ^ 64 → AreDistinct (names_of o count)
names_distinct None count lt = distinct_indexes 0 count (omega (arith, lt))
names_distinct (Some bytes) count lt = some_distinct (strings bytes) count lt

pub column_names_distinct : (m : TableMap) → length m.column_types < 2 ^ 64 → AreDistinct (column_names m)
column_names_distinct m lt = names_distinct (used_metadata m).names (length m.column_types) lt
