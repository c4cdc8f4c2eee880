-- The kinds of fields so far, and those of the fields after them.
use Rattle.std.proofs.Common.{◌≡◌, Bool, true, false, List, [], ◌∷◌, Option, Some, None, Ok, refl, ap}
use Rattle.std.specs.Prelude.{◌||◌, option_map}
use Rattle.std.specs.List.{list_any}
use Rattle.rows_errors.specs.Readings.{Reading}
use Rattle.rows_table_map.specs.MetadataFields.{Field}
use Rattle.table_schemas.specs.LoggedFields.{has_signs, has_collations, has_names, has_members, has_key, kinds_of, all_read}
use Rattle.table_schemas.specs.KindsSoFar.{with_kind}
use Rattle.table_schemas.specs.declared.logged.Logged.{Logged}

-- the kinds so far, and those of these fields
abbrev pub later : Logged → List Field → Logged
later l fs = record {
  signs = list_any has_signs fs || l.signs;
  collations = list_any has_collations fs || l.collations;
  names = list_any has_names fs || l.names;
  members = list_any has_members fs || l.members;
  key = list_any has_key fs || l.key;
}

-- the same, if all fields can be read
abbrev pub later_read : Logged → List (Reading Field) → Option Logged
later_read l fields = option_map (later l) (all_read fields)

or-false : (a : Bool) → (a || false) ≡ a
or-false true = refl
or-false false = refl

or-turned : (a b c : Bool) → ((a || b) || c) ≡ (b || (a || c))
or-turned true true c = refl
or-turned true false c = refl
or-turned false true c = refl
or-turned false false c = refl

later-none : (fs : List Field) → later (kinds_of []) fs ≡ kinds_of fs
later-none fs = rw (or-false (list_any has_signs fs), or-false (list_any has_collations fs), or-false (list_any has_names fs), or-false (list_any has_members fs), or-false (list_any has_key fs)) refl

later-more : (l : Logged) (f : Field) (fs : List Field) → later l (f ∷ fs) ≡ later (with_kind l f) fs
later-more l f fs =
    rw (or-turned (has_signs f) (list_any has_signs fs) l.signs, or-turned (has_collations f) (list_any has_collations fs) l.collations, or-turned (has_names f) (list_any has_names fs) l.names, or-turned (has_members f) (list_any has_members fs) l.members, or-turned (has_key f) (list_any has_key fs) l.key) refl

pub read-none : (fields : List (Reading Field)) → later_read (kinds_of []) fields ≡ option_map kinds_of (all_read fields)
read-none fields = by (all_read fields)
  where
    by : (all : Option (List Field)) → option_map (later (kinds_of [])) all ≡ option_map kinds_of all
    by None = refl
    by (Some fs) = ap Some (later-none fs)

pub read-more : (l : Logged) (f : Field) (fields : List (Reading Field)) → later_read l (Ok f ∷ fields) ≡ later_read (with_kind l f) fields
read-more l f fields = by (all_read fields)
  where
    by : (all : Option (List Field)) → option_map (later l) (option_map (λ xs. f ∷ xs) all) ≡ option_map (later (with_kind l f)) all
    by None = refl
    by (Some fs) = ap Some (later-more l f fs)

pub read-all : (l : Logged) → later_read l [] ≡ Some l
read-all l = refl
