-- Worked examples: documents of nested arrays.
use Rattle.std.specs.Prelude.{ℕ, zero, suc, List, [], ◌∷◌, ◌++◌, ◌+◌, length}
use Rattle.byteorder.specs.Endian.{little_bytes}
use Rattle.rows_jsonb.specs.JsonTrees.{Tree, array, item, no_items}

-- A small array, from its count on, with two entries that both point to the bytes after the header; n such arrays nested, the innermost pointing to an empty array.
abbrev pub doubled : ℕ → List ℕ
doubled zero = 0 ∷ 0 ∷ 4 ∷ 0 ∷ []
doubled (suc n) =
    let inner = doubled n in
    2 ∷ 0 ∷ (little_bytes 2 (10 + length inner) ++ (2 ∷ 10 ∷ 0 ∷ 2 ∷ 10 ∷ 0 ∷ inner))

abbrev pub doubled_tree : ℕ → Tree
doubled_tree zero = array no_items
doubled_tree (suc n) = let t = doubled_tree n in array (item t (item t no_items))

-- n nested small arrays, each but the innermost with one entry
abbrev pub nested : ℕ → List ℕ
nested zero = 0 ∷ 0 ∷ 4 ∷ 0 ∷ []
nested (suc n) =
    let inner = nested n in
    1 ∷ 0 ∷ (little_bytes 2 (7 + length inner) ++ (2 ∷ 7 ∷ 0 ∷ inner))

abbrev pub nested_tree : ℕ → Tree
nested_tree zero = array no_items
nested_tree (suc n) = array (item (nested_tree n) no_items)
