-- The entries of lists for the columns one after the other.
use Rattle.std.proofs.Common.{◌≡◌, ℕ, zero, suc, ◌+◌, Bool, cond, List, [], ◌∷◌, ◌++◌, drop, refl, ap, sym, subst, ◌∙◌, arith, append_assoc, append-nil}
use Rattle.std.specs.Prelude.{count_by, if◌then◌else◌}
use Rattle.std.specs.List.{slice_get, AllZip}
use Rattle.std.proofs.lemmas.List.{drop-drop}
use Rattle.std.proofs.lemmas.List.Sums.{sum_by-cons}
use Rattle.wire_constants.specs.ColumnTypes.{is_enum_or_set, is_enum, is_set}
use Rattle.wire_constants.specs.declared.column_type.ColumnType.{ColumnType}
use Rattle.rows_table_map.specs.ColumnMetadata.{ColumnMeta}
use Rattle.changes_tables.specs.ShownColumns.{ColumnView}
use Rattle.changes_tables.specs.ColumnParts.{ColumnLists, ColumnPart, has_text, type_of, collation_of, members_of, part_of, parts_after}
use Rattle.changes_tables.specs.RemainingLists.{after_entry, after_column, first_part}

-- the lists after columns of earlier types
abbrev pub dropped : ColumnLists → List ColumnType → ColumnLists
dropped all earlier = record {
  texts = drop (count_by has_text earlier) all.texts;
  members = drop (count_by is_enum_or_set earlier) all.members;
  enums = drop (count_by is_enum earlier) all.enums;
  sets = drop (count_by is_set earlier) all.sets;
}

first_of_rest : {A : Type 0} (n : ℕ) (xs : List A) → slice_get (drop n xs) 0 ≡ slice_get xs n
first_of_rest zero [] = refl
first_of_rest zero (x ∷ xs) = refl
first_of_rest (suc n) [] = refl
first_of_rest (suc n) (x ∷ xs) = first_of_rest n xs

collation_first : (all : ColumnLists) (earlier : List ColumnType) (t : ColumnType) → collation_of (dropped all earlier) [] t ≡ collation_of all earlier t
collation_first all earlier t = rw (first_of_rest (count_by has_text earlier) all.texts, first_of_rest (count_by is_enum_or_set earlier) all.members) refl

members_first : (all : ColumnLists) (earlier : List ColumnType) (t : ColumnType) → members_of (dropped all earlier) [] t ≡ members_of all earlier t
members_first all earlier t = rw (first_of_rest (count_by is_enum earlier) all.enums, first_of_rest (count_by is_set earlier) all.sets) refl

-- the first column in the lists after earlier columns is the next one
pub part_first : (all : ColumnLists) (earlier : List ColumnType) (name : List ℕ) (c : ColumnMeta) → first_part (dropped all earlier) name c ≡ part_of all earlier name c
part_first all earlier name c = rw (collation_first all earlier (type_of c), members_first all earlier (type_of c)) refl

swapped : (a b : ℕ) → a + b ≡ b + a
swapped a b = omega arith

entry_dropped : {A : Type 0} (is_kind : ColumnType → Bool) (t : ColumnType) (earlier : List ColumnType) (xs : List A) → after_entry (is_kind t) (drop (count_by is_kind earlier) xs) ≡ drop (count_by is_kind (t ∷ earlier)) xs
entry_dropped is_kind t earlier xs =
    drop-drop (if is_kind t then 1 else 0) (count_by is_kind earlier) xs ∙ ap (λ (n : ℕ). drop n xs) (swapped (count_by is_kind earlier) (cond (is_kind t) 1 0) ∙ sym (sum_by-cons (λ (x : ColumnType). cond (is_kind x) 1 0) t earlier))

-- the lists after one more column
pub after_dropped : (all : ColumnLists) (earlier : List ColumnType) (t : ColumnType) → after_column (dropped all earlier) t ≡ dropped all (t ∷ earlier)
after_dropped all earlier t =
    rw (entry_dropped has_text t earlier all.texts, entry_dropped is_enum_or_set t earlier all.members, entry_dropped is_enum t earlier all.enums, entry_dropped is_set t earlier all.sets) refl

-- the columns so far, after which these lists, names and columns remain
pub record Walked (R : ColumnPart → ColumnView → Type 0) (all : ColumnLists) (wanted : List ColumnPart) (lists : ColumnLists) (names : List (List ℕ)) (columns : List ColumnMeta) (shown : List ColumnView) : Type 0 where
  pub earlier : List ColumnType
  pub parts : List ColumnPart
  pub lists_are : lists ≡ dropped all earlier
  pub parts_are : parts ++ parts_after all earlier names columns ≡ wanted
  pub shown_are : AllZip R parts shown

zip_push : {A B : Type 0} (R : A → B → Type 0) (xs : List A) (ys : List B) (x : A) (y : B) → AllZip R xs ys → R x y → AllZip R (xs ++ x ∷ []) (ys ++ y ∷ [])
zip_push R [] [] x y h r = (r, tt)
zip_push {A = A} {B = B} R [] (b ∷ ys) x y h r = elim h [ ]
zip_push {A = A} {B = B} R (a ∷ xs) [] x y h r = elim h [ ]
zip_push R (a ∷ xs) (b ∷ ys) x y h r = (h.0, zip_push R xs ys x y h.1 r)

-- one more column
pub walked_more : (R : ColumnPart → ColumnView → Type 0) (all : ColumnLists) (wanted : List ColumnPart) (lists now_lists : ColumnLists) (left names : List (List ℕ)) (name : List ℕ) (columns now_columns : List ColumnMeta) (c : ColumnMeta) (shown now_shown : List ColumnView) (v : ColumnView)
    → Walked R all wanted lists left columns shown → left ≡ name ∷ names → columns ≡ c ∷ now_columns → R (first_part lists name c) v → now_lists ≡ after_column lists (type_of c) → now_shown ≡ shown ++ v ∷ [] → Walked R all wanted now_lists names now_columns now_shown
walked_more R all wanted lists now_lists left names name columns now_columns c shown now_shown v w is_left is_columns is_shown is_lists is_now =
    let here = ap (λ (l : ColumnLists). first_part l name c) w.lists_are ∙ part_first all w.earlier name c in
    record {
      earlier = type_of c ∷ w.earlier;
      parts = w.parts ++ part_of all w.earlier name c ∷ [];
      lists_are = is_lists ∙ ap (λ (l : ColumnLists). after_column l (type_of c)) w.lists_are ∙ after_dropped all w.earlier (type_of c);
      parts_are = append_assoc w.parts (part_of all w.earlier name c ∷ []) (parts_after all (type_of c ∷ w.earlier) names now_columns) ∙ ap (λ (ns : List (List ℕ)). w.parts ++ parts_after all w.earlier ns (c ∷ now_columns)) (sym is_left) ∙ ap (λ (cs : List ColumnMeta). w.parts ++ parts_after all w.earlier left cs) (sym is_columns) ∙ w.parts_are;
      shown_are = subst (λ (vs : List ColumnView). AllZip R (w.parts ++ part_of all w.earlier name c ∷ []) vs) (sym is_now) (zip_push R w.parts shown (part_of all w.earlier name c) v w.shown_are (subst (λ (p : ColumnPart). R p v) here is_shown));
    }

-- no column remains
pub walked_all : (R : ColumnPart → ColumnView → Type 0) (all : ColumnLists) (wanted : List ColumnPart) (lists : ColumnLists) (names : List (List ℕ)) (columns : List ColumnMeta) (shown : List ColumnView)
    → Walked R all wanted lists names columns shown → ((earlier : List ColumnType) → parts_after all earlier names columns ≡ []) → AllZip R wanted shown
walked_all R all wanted lists names columns shown w none =
    subst (λ (ps : List ColumnPart). AllZip R ps shown) (sym (append-nil w.parts) ∙ ap (λ (ps : List ColumnPart). w.parts ++ ps) (sym (none w.earlier)) ∙ w.parts_are) w.shown_are

pub no_columns : (all : ColumnLists) (earlier : List ColumnType) (names : List (List ℕ)) → parts_after all earlier names [] ≡ []
no_columns all earlier [] = refl
no_columns all earlier (n ∷ names) = refl

pub no_names : (all : ColumnLists) (earlier : List ColumnType) (columns : List ColumnMeta) → parts_after all earlier [] columns ≡ []
no_names all earlier [] = refl
no_names all earlier (c ∷ columns) = refl

-- no column so far
pub walked_none : (R : ColumnPart → ColumnView → Type 0) (all : ColumnLists) (wanted : List ColumnPart) (lists : ColumnLists) (names : List (List ℕ)) (columns : List ColumnMeta) (shown : List ColumnView)
    → lists ≡ all → parts_after all [] names columns ≡ wanted → shown ≡ [] → Walked R all wanted lists names columns shown
walked_none R all wanted lists names columns shown is_all is_wanted is_none = record {
  earlier = [];
  parts = [];
  lists_are = is_all;
  parts_are = is_wanted;
  shown_are = subst (λ (vs : List ColumnView). AllZip R [] vs) (sym is_none) tt;
}
