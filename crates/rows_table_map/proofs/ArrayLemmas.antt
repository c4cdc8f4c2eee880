-- The metadata of arrays, one element type at a time.
use Rattle.std.proofs.Common.{◌≡◌, ℕ, ◌+◌, List, [], ◌∷◌, Option, Some, None, refl, ap, arith}
use Rattle.std.specs.Option.{option_map}
use Rattle.wire_constants.specs.declared.column_type.ColumnType.{ColumnType}
use Rattle.rows_table_map.specs.ColumnMetadata.{column_type, plain_size, array_size}

-- the size of the rest, after this many bytes
abbrev pub size_after : ℕ → Option ℕ → Option ℕ
size_after i o = option_map (λ n. i + n) o

shifted : (i : ℕ) (o : Option ℕ) → size_after i (option_map (λ n. 1 + n) o) ≡ size_after (i + 1) o
shifted i None = refl
shifted i (Some n) = ap Some (omega arith)

pub all_of_them : (o : Option ℕ) → size_after 0 o ≡ o
all_of_them None = refl
all_of_them (Some n) = ap Some (omega arith)

pub array_unknown : (i b : ℕ) (rest : List ℕ) → column_type b ≡ None → size_after i (array_size (b ∷ rest)) ≡ None
unfolding array_size
array_unknown i b rest h = rw h refl

pub array_nested : (i b : ℕ) (rest : List ℕ) (t : ColumnType) → column_type b ≡ Some t → plain_size t ≡ None → size_after i (array_size (b ∷ rest)) ≡ size_after (i + 1) (array_size rest)
unfolding array_size
array_nested i b rest t h e = rw (h, e) (shifted i (array_size rest))

pub array_done : (i b : ℕ) (rest : List ℕ) (t : ColumnType) (n : ℕ) → column_type b ≡ Some t → plain_size t ≡ Some n → size_after i (array_size (b ∷ rest)) ≡ Some (i + n)
unfolding array_size
array_done i b rest t n h e = rw (h, e) refl

pub array_ends : (i : ℕ) → size_after i (array_size []) ≡ None
unfolding array_size
array_ends i = refl
