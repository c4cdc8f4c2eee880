-- The lengths of consecutive fields.
use Rattle.std.proofs.Common.{◌≡◌, ◌+◌, ◌++◌, ◌^◌, ℕ, suc, List, [], ◌∷◌, length, Bool, true, false, Option, Some, None, refl, arith, inl, inr}
use Rattle.std.specs.Prelude.{if◌then◌else◌, IfSome, min}
use Rattle.std.proofs.lemmas.List.{length-append}
use Rattle.std.proofs.lemmas.Bool.Decides.{leb_tells}
use Rattle.wire_buf.specs.Numbers.{lenenc_encoded}
use Rattle.wire_buf.specs.Writing.{concat_some}
use Rattle.wire_buf.proofs.LenencLemmas.{little_bytes-sound}
use Rattle.wire_fields.specs.Ints.{little_encoded}
use Rattle.wire_fields.specs.Strings.{counted_bytes, lenenc_string_encoded}
use Rattle.rows_table_map.specs.Lengths.{IsEventLen}
use Rattle.rows_table_map.specs.TableMaps.{TableMap, table_map_encoded}

-- what is written has this length
pub record HasLength (o : Option (List ℕ)) (n : ℕ) : Type 0 where
  pub length_is : IfSome o (λ bytes. length bytes ≡ n)

-- a part before others
pub prefix_length : (a b : Option (List ℕ)) (i j : ℕ) → HasLength a i → HasLength b j → HasLength (concat_some a b) (i + j)
prefix_length None b i j p q = record { length_is = tt }
prefix_length (Some a) None i j p q = record { length_is = tt }
prefix_length (Some a) (Some b) i j p q =
    let e : length a ≡ i = p.length_is in
    let f : length b ≡ j = q.length_is in
    record { length_is = omega (arith, e, f, length-append a b) }

-- a number of n bytes
pub little_length : (n v : ℕ) → HasLength (little_encoded n v) n
little_length n v = elim (leb_tells (suc v) (256 ^ n)) [
  | inl t ↦ let is = little_bytes-sound n v (omega (arith, t.1)) in rw t.0 (record { length_is = is.size })
  | inr f ↦ rw f.0 (record { length_is = tt })
]

-- if anything is written
pub if_length : (b : Bool) (o : Option (List ℕ)) (n : ℕ) → HasLength o n → HasLength (if b then o else None) n
if_length true o n h = h
if_length false o n h = record { length_is = tt }

-- the result of `len`
pub len_from_length : (o : Option (List ℕ)) (k n : ℕ) → HasLength o k → n ≡ min k 4294967276 → IsEventLen o n
len_from_length None k n h e = tt
len_from_length (Some bytes) k n h e = let same : length bytes ≡ k = h.length_is in rw same e

-- a table map's names, its column count, and the fields after it
abbrev names : TableMap → List ℕ
names t = counted_bytes 1 t.database ++ ((0 ∷ []) ++ (counted_bytes 1 t.table ++ ((0 ∷ []) ++ lenenc_encoded (length t.column_types))))

abbrev lists : TableMap → List ℕ
lists t = t.column_types ++ (lenenc_string_encoded t.metadata ++ (t.null_bitmask ++ t.optional_metadata))

names_length : (t : TableMap)
    → length (names t) ≡ 4 + length t.database + length t.table + length (lenenc_encoded (length t.column_types))
names_length t = simp length-append (omega arith)

lists_length : (t : TableMap) → length (lists t) ≡ length t.column_types + length (lenenc_encoded (length t.metadata)) + length t.metadata + length t.null_bitmask + length t.optional_metadata
lists_length t = simp length-append (omega arith)

length_as : (o : Option (List ℕ)) (i j : ℕ) → i ≡ j → HasLength o i → HasLength o j
length_as o i j e h = rw (← e) h

-- a table map
pub map_length : (t : TableMap)
    → HasLength (table_map_encoded t) (12 + length t.database + length t.table + length (lenenc_encoded (length t.column_types)) + length t.column_types
    + length (lenenc_encoded (length t.metadata)) + length t.metadata + length t.null_bitmask + length t.optional_metadata)
map_length t =
    let n = length (names t) in
    let l = length (lists t) in
    let prefix : n ≡ 4 + length t.database + length t.table + length (lenenc_encoded (length t.column_types)) = names_length t in
    let back = lists_length t in
    let all : (6 + (2 + n)) + l ≡ 12 + length t.database + length t.table + length (lenenc_encoded (length t.column_types)) + length t.column_types
    + length (lenenc_encoded (length t.metadata)) + length t.metadata + length t.null_bitmask + length t.optional_metadata = omega (arith, prefix, back) in
    let head = prefix_length _ _ 6 _ (little_length 6 t.table_id) (prefix_length _ (Some (names t)) 2 _ (little_length 2 t.flags) (record { length_is = refl })) in
    length_as _ _ _ all (if_length _ _ _ (prefix_length _ (Some (lists t)) _ _ head (record { length_is = refl })))
