-- The keys of columns and the members of ENUM and SET columns are JSON of RFC 8259, and columns have different names.
use Rattle.std.proofs.Common.{◌≡◌, ℕ, zero, suc, ◌+◌, Bool, true, false, ◌&&◌, T, List, [], ◌∷◌, ◌++◌, map, length, eqb→eq, refl, sym, ap, ◌∙◌, subst, arith, Option, Some, None}
use Rattle.std.specs.Prelude.{IsUtf8, if◌then◌else◌, ◌==◌}
use Rattle.std.specs.List.{AllZip, list_all, range_with_len}
use Rattle.std.specs.Str.{is_utf8}
use Rattle.std.specs.Fmt.{decimal}
use Rattle.std.specs.declared.result.Result.TheVariants.{Ok, Err}
use Rattle.std.proofs.lemmas.Str.{IsUtf8-from_is_utf8}
use Rattle.std.proofs.lemmas.List.{length-map}
use Rattle.rows_errors.specs.Readings.{Reading}
use Rattle.rows_table_map.specs.ColumnMetadata.{ColumnMeta, columns_with_metadata, split_metadata, after_metadata}
use Rattle.rows_table_map.specs.Lists.{strings}
use Rattle.rows_table_map.specs.TableMaps.{TableMap}
use Rattle.wire_constants.specs.declared.column_type.ColumnType.{ColumnType}
use Rattle.changes_character_sets.proofs.TextLemmas.{text_is_utf8}
use Rattle.changes_writers.specs.JsonStrings.{json_string}
use Rattle.changes_tables.specs.UsedMetadata.{readable, used_metadata}
use Rattle.changes_tables.specs.NamesOfColumns.{are_distinct, is_name, are_names, index_name, index_names, names_or_indexes, names_of}
use Rattle.changes_tables.specs.ShownColumns.{ColumnView}
use Rattle.changes_tables.specs.ColumnParts.{ColumnLists, lists_of, part_of, type_of, parts_after, column_names, column_parts}
use Rattle.changes_tables.specs.ColumnsShown.{IsColumn}
use Rattle.changes_tables.specs.MemberTexts.{IsMemberJson}
use Rattle.changes_tables.specs.MemberTexts as members
use Rattle.changes_tables.specs.declared.columns.Shown.{Shown}
use Rattle.changes_tables.specs.declared.columns.Shown.TheVariants as shown
use Rattle.changes_tables.specs.declared.columns.TableOptions.{TableOptions}
use Rattle.changes_laws.proofs.WrittenJson.{IsJson, AllJson, string_json}
use Rattle.changes_laws.proofs.PlainGrammarLemmas.{plain_utf8, decimal_plain, base64_string_json, base64_object_json}
use Rattle.changes_laws.proofs.SoundCellLemmas.{EachHolds}

-- ---- names
both : (a b : Bool) → (a && b) ≡ true → (a ≡ true) × (b ≡ true)
both true b h = (refl, h)
both false b h = absurd (let no : false ≡ true = h in cc)

index_utf8 : (start count : ℕ) → EachHolds IsUtf8 (map index_name (range_with_len start count))
index_utf8 start zero = tt
index_utf8 start (suc count) = (plain_utf8 (64 ∷ decimal start) (refl, decimal_plain start), index_utf8 (start + 1) count)

readable_utf8 : (entries : List (Reading (List ℕ))) → list_all is_name entries ≡ true → EachHolds IsUtf8 (readable entries)
readable_utf8 [] h = tt
readable_utf8 (Ok name ∷ entries) h = let p = both (is_utf8 name) (list_all is_name entries) h in (IsUtf8-from_is_utf8 name p.0, readable_utf8 entries p.1)
readable_utf8 (Err e ∷ entries) h = readable_utf8 entries (both false (list_all is_name entries) h).1

length_range : (start count : ℕ) → length (range_with_len start count) ≡ count
length_range start zero = refl
length_range start (suc count) = ap suc (length_range (start + 1) count)

-- what is known of names of so many columns
record AreNames (count : ℕ) (names : List (List ℕ)) : Type 0 where
  utf8 : EachHolds IsUtf8 names
  long : length names ≡ count

some_names : (entries : List (Reading (List ℕ))) (count : ℕ) → AreNames count (names_or_indexes entries count)
some_names entries count = go (are_names entries count) refl
  where
    go : (b : Bool) → are_names entries count ≡ b → AreNames count (if b then readable entries else index_names count)
    go true h =
        let p = both (list_all is_name entries && (length (readable entries) == count)) (are_distinct (readable entries)) h in
        let q = both (list_all is_name entries) (length (readable entries) == count) p.0 in
        record { utf8 = readable_utf8 entries q.0; long = eqb→eq _ _ (subst T (sym q.1) tt) }
    go false h = record { utf8 = index_utf8 0 count; long = length-map (range_with_len 0 count) index_name ∙ length_range 0 count }

are_names_of : (o : Option (List ℕ)) (count : ℕ) → AreNames count (names_of o count)
are_names_of None count = record { utf8 = index_utf8 0 count; long = length-map (range_with_len 0 count) index_name ∙ length_range 0 count }
are_names_of (Some bytes) count = some_names (strings bytes) count

pub column_names_utf8 : (m : TableMap) → EachHolds IsUtf8 (column_names m)
column_names_utf8 m = (are_names_of (used_metadata m).names (length m.column_types)).utf8

pub length-column_names : (m : TableMap) → length (column_names m) ≡ length m.column_types
length-column_names m = (are_names_of (used_metadata m).names (length m.column_types)).long

-- ---- members of ENUM and SET
pub member_is_json : (P : Type 0) (text : Shown) (bytes json : List ℕ) → IsMemberJson text bytes json → IsJson P json
member_is_json P (shown.Text set) bytes json (members.string t is e) = subst (IsJson P) (sym e) (string_json P t (text_is_utf8 set bytes t is))
member_is_json P (shown.Text set) bytes json (members.object bad e) = subst (IsJson P) (sym e) (base64_object_json P bytes)
member_is_json P shown.Binary bytes json e = subst (IsJson P) (sym e) (base64_string_json P bytes)
member_is_json P shown.Plain bytes json e = subst (IsJson P) (sym e) (base64_object_json P bytes)
member_is_json P shown.Quoted bytes json e = subst (IsJson P) (sym e) (base64_object_json P bytes)
member_is_json P shown.Unknown bytes json e = subst (IsJson P) (sym e) (base64_object_json P bytes)
member_is_json P shown.Timestamp bytes json e = subst (IsJson P) (sym e) (base64_object_json P bytes)
member_is_json P shown.Bit bytes json e = subst (IsJson P) (sym e) (base64_object_json P bytes)
member_is_json P shown.Enum bytes json e = subst (IsJson P) (sym e) (base64_object_json P bytes)
member_is_json P shown.Set bytes json e = subst (IsJson P) (sym e) (base64_object_json P bytes)

members_are_json : (P : Type 0) (text : Shown) (names jsons : List (List ℕ)) → AllZip (IsMemberJson text) names jsons → AllJson P jsons
members_are_json P text [] [] h = tt
members_are_json P text [] (y ∷ ys) h = absurd h
members_are_json P text (x ∷ xs) [] h = absurd h
members_are_json P text (x ∷ xs) (y ∷ ys) h = (member_is_json P text x y h.0, members_are_json P text xs ys h.1)

-- ---- columns
-- a column with this name
abbrev pub IsNamed : Type 0 → List ℕ → ColumnView → Type 0
IsNamed P name c = IsUtf8 name × (c.key ≡ json_string name ++ 58 ∷ []) × AllJson P c.members

-- columns with these names
abbrev pub AreNamed : Type 0 → List (List ℕ) → List ColumnView → Type 0
AreNamed P names columns = AllZip (IsNamed P) names columns

parts_named : (P : Type 0) (options : TableOptions) (lists : ColumnLists) (earlier : List ColumnType) (names : List (List ℕ)) (metas : List ColumnMeta) (columns : List ColumnView) → EachHolds IsUtf8 names → length names ≡ length metas
    → AllZip (IsColumn options) (parts_after lists earlier names metas) columns → AreNamed P names columns
parts_named P options lists earlier [] [] [] u long h = tt
parts_named P options lists earlier [] [] (c ∷ cs) u long h = absurd h
parts_named P options lists earlier [] (m ∷ ms) columns u long h = absurd (omega (arith, long))
parts_named P options lists earlier (n ∷ ns) [] columns u long h = absurd (omega (arith, long))
parts_named P options lists earlier (n ∷ ns) (m ∷ ms) [] u long h = absurd h
parts_named P options lists earlier (n ∷ ns) (m ∷ ms) (c ∷ cs) u long h =
    let one = h.0 in
    ((u.0, one.key, members_are_json P one.text (part_of lists earlier n m).members c.members one.members), parts_named P options lists (type_of m ∷ earlier) ns ms cs u.1 (omega (arith, long)) h.1)

length-columns : (types : List ℕ) (bytes : Option (List ℕ)) → length (columns_with_metadata types bytes) ≡ length types
unfolding columns_with_metadata
length-columns [] bytes = refl
length-columns (n ∷ types) bytes = ap suc (length-columns types (after_metadata (split_metadata n bytes)))

pub columns_named : (P : Type 0) (options : TableOptions) (m : TableMap) (columns : List ColumnView) → AllZip (IsColumn options) (column_parts m) columns → AreNamed P (column_names m) columns
columns_named P options m columns h =
    parts_named P options (lists_of (length m.column_types) (used_metadata m)) [] (column_names m) (columns_with_metadata m.column_types (Some m.metadata)) columns (column_names_utf8 m)
    (length-column_names m ∙ sym (length-columns m.column_types (Some m.metadata))) h

pub length-shown_columns : (m : TableMap) → length (columns_with_metadata m.column_types (Some m.metadata)) ≡ length (column_names m)
length-shown_columns m = length-columns m.column_types (Some m.metadata) ∙ sym (length-column_names m)
