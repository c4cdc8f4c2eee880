-- The members of a column, string by string.
use Rattle.std.proofs.Common.{◌≡◌, ◌≤◌, ◌<◌, ℕ, suc, ◌-◌, ◌+◌, List, [], ◌∷◌, ◌++◌, map, Ok, Err, refl, sym, ap, ◌∙◌, arith, append_assoc, append-nil}
use Rattle.rows_errors.specs.declared.fault.RowsError.{RowsError}
use Rattle.rows_errors.specs.Readings.{Reading, ◌>>=◌}
use Rattle.rows_table_map.specs.Entries.{lenenc_at, string_at}
use Rattle.rows_table_map.specs.Members.{strings_in, members_at}

-- these strings, and then those that were found
abbrev pub prepend : List (List ℕ) → Reading (List (List ℕ) × List ℕ) → Reading (List (List ℕ) × List ℕ)
prepend before o = o >>= λ more. Ok (before ++ more.0, more.1)

-- the strings that were read, and then n more
abbrev pub with_strings : List (List ℕ) → ℕ → List ℕ → Reading (List (List ℕ) × List ℕ)
with_strings before n bytes = prepend before (strings_in n bytes)

from_one : (before : List (List ℕ)) (v : List ℕ) (o : Reading (List (List ℕ) × List ℕ))
    → prepend before (prepend (v ∷ []) o) ≡ prepend (before ++ (v ∷ [])) o
from_one before v (Err e) = refl
from_one before v (Ok x) = ap (λ (l : List (List ℕ)). Ok (l, x.1)) (sym (append_assoc before (v ∷ []) x.0))

-- one more string is read
read_one : (before : List (List ℕ)) (n m : ℕ) (bytes v after : List ℕ) → n ≡ suc m → string_at bytes ≡ Ok (v, after) → with_strings before n bytes ≡ with_strings (before ++ (v ∷ [])) m after
unfolding strings_in
read_one before n m bytes v after e h = rw (e, h) (from_one before v (strings_in m after))

pub string-read : (before : List (List ℕ)) (count i : ℕ) (bytes v after : List ℕ) → i < count → string_at bytes ≡ Ok (v, after)
    → with_strings before (count - i) bytes ≡ with_strings (before ++ (v ∷ [])) (count - (i + 1)) after
string-read before count i bytes v after h e = read_one before (count - i) (count - (i + 1)) bytes v after (omega (arith, h)) e

-- no string can be read
failed_one : (before : List (List ℕ)) (n m : ℕ) (bytes : List ℕ) (f : RowsError) → n ≡ suc m → string_at bytes ≡ Err f → with_strings before n bytes ≡ Err f
unfolding strings_in
failed_one before n m bytes f e h = rw (e, h) refl

pub string-failed : (before : List (List ℕ)) (count i : ℕ) (bytes : List ℕ) (f : RowsError) → i < count → string_at bytes ≡ Err f → with_strings before (count - i) bytes ≡ Err f
string-failed before count i bytes f h e = failed_one before (count - i) (count - (i + 1)) bytes f (omega (arith, h)) e

-- none is read yet
from_none : (o : Reading (List (List ℕ) × List ℕ)) → prepend [] o ≡ o
from_none (Ok x) = refl
from_none (Err e) = refl

pub strings-begin : (before : List (List ℕ)) (count : ℕ) (bytes : List ℕ) → before ≡ [] → strings_in count bytes ≡ with_strings before (count - 0) bytes
strings-begin before count bytes h =
    let all : count ≡ count - 0 = omega arith in
    rw h (sym (from_none (strings_in count bytes)) ∙ ap (λ (n : ℕ). prepend [] (strings_in n bytes)) all)

-- all are read
all_read : (before : List (List ℕ)) (n : ℕ) (bytes : List ℕ) → n ≡ 0 → with_strings before n bytes ≡ Ok (before, bytes)
unfolding strings_in
all_read before n bytes e = rw e (ap (λ (l : List (List ℕ)). Ok (l, bytes)) (append-nil before))

pub strings-end : (before : List (List ℕ)) (count i : ℕ) (bytes : List ℕ) → count ≤ i → with_strings before (count - i) bytes ≡ Ok (before, bytes)
strings-end before count i bytes h = all_read before (count - i) bytes (omega (arith, h))

-- the members follow the count
pub members-are : (bytes rest : List ℕ) (count : ℕ) (y : Reading (List (List ℕ) × List ℕ)) → lenenc_at bytes ≡ Ok (count, rest) → strings_in count rest ≡ y → members_at bytes ≡ y
members-are bytes rest count y h e = rw h e

map-snoc : {A B : Type 0} (f : A → B) (xs : List A) (x : A) → map f (xs ++ (x ∷ [])) ≡ map f xs ++ (f x ∷ [])
map-snoc f [] x = refl
map-snoc {B = B} f (y ∷ xs) x = ap (λ (t : List B). f y ∷ t) (map-snoc f xs x)

-- one more member is added
pub member-kept : {A B : Type 0} (f : A → B) (old new : List A) (x : A) (v : B) → new ≡ old ++ (x ∷ []) → f x ≡ v → map f old ++ (v ∷ []) ≡ map f new
member-kept f old new x v h e = rw (h, map-snoc f old x, e) refl
