-- A walk advances by one column.
use Rattle.std.specs.Bool.{⊤}
use Rattle.std.proofs.Common.{◌≡◌, ℕ, zero, suc, ◌+◌, Bool, true, false, List, [], ◌∷◌, drop, Option, Some, None, Ok, Err, refl, sym, ap, ◌∙◌, arith, if◌then◌else◌}
use Rattle.std.specs.Prelude.{slice_get}
use Rattle.std.specs.declared.result.Result.{Result}
use Rattle.wire_constants.specs.ColumnTypes.{is_numeric, is_character, is_enum_or_set}
use Rattle.wire_constants.specs.declared.column_type.ColumnType.{ColumnType}
use Rattle.wire_constants.specs.declared.column_type.ColumnType.TheVariants as column
use Rattle.rows_errors.specs.declared.fault.RowsError.{RowsError}
use Rattle.rows_errors.specs.declared.fault.RowsError.TheVariants.{Metadata, Cell}
use Rattle.rows_errors.specs.Readings.{Reading}
use Rattle.rows_cells.specs.ColumnFormats.{column_format}
use Rattle.rows_cells.specs.declared.format.CellFormat.{CellFormat}
use Rattle.rows_table_map.specs.ColumnMetadata.{ColumnMeta}
use Rattle.rows_table_map.specs.declared.bad_column_type.BadColumnType.{BadColumnType}
use Rattle.rows_table_map.specs.ColumnViews.{real_type_of}
use Rattle.rows_table_map.specs.Served.{first_item}
use Rattle.rows_event_body.specs.Plans.{Table, column_real_type, is_json, count_before, sign_or_signed, sign_at, charset_or_none, charset_at, name_at, key_at, column_at}
use Rattle.rows_event_body.specs.PlanViews.{name_or_empty}
use Rattle.rows_event_body.specs.Walks.{SkipsName}

-- the rest begins with the element at the index
pub at_prefix : {A : Type 0} (xs : List A) (i : ℕ) (x : A) (rest : List A) → drop i xs ≡ x ∷ rest → slice_get xs i ≡ Some x
at_prefix [] zero x rest h = absurd cc
at_prefix [] (suc i) x rest h = absurd cc
at_prefix (y ∷ xs) zero x rest h = let e : y ≡ x = cc in ap Some e
at_prefix (y ∷ xs) (suc i) x rest h = at_prefix xs i x rest h

-- and the others follow it
pub after_prefix : {A : Type 0} (xs : List A) (i : ℕ) (x : A) (rest : List A) → drop i xs ≡ x ∷ rest → rest ≡ drop (suc i) xs
after_prefix [] zero x rest h = absurd cc
after_prefix [] (suc i) x rest h = absurd cc
after_prefix (y ∷ xs) zero x rest h = let e : xs ≡ rest = cc in sym e
after_prefix (y ∷ xs) (suc i) x rest h = after_prefix xs i x rest h

-- nothing remains, so there is no element at the index
pub none_left : {A : Type 0} (xs : List A) (i : ℕ) → drop i xs ≡ [] → slice_get xs i ≡ None
none_left [] i h = refl
none_left (y ∷ xs) zero h = absurd cc
none_left (y ∷ xs) (suc i) h = none_left xs i h

none_after : {A : Type 0} (xs : List A) (i : ℕ) → drop i xs ≡ [] → drop (suc i) xs ≡ []
none_after [] i h = refl
none_after (y ∷ xs) zero h = absurd cc
none_after (y ∷ xs) (suc i) h = none_after xs i h

first_left : {A : Type 0} (xs : List A) (n : ℕ) → first_item (drop n xs) ≡ slice_get xs n
first_left [] zero = refl
first_left [] (suc n) = refl
first_left (x ∷ xs) zero = refl
first_left (x ∷ xs) (suc n) = first_left xs n

one_dropped : {A : Type 0} (xs : List A) (n : ℕ) → drop 1 (drop n xs) ≡ drop (n + 1) xs
one_dropped xs n = let e : n + 1 ≡ suc n = omega arith in more xs n ∙ sym (ap (λ (k : ℕ). drop k xs) e)
  where
    more : {A : Type 0} (xs : List A) (n : ℕ) → drop 1 (drop n xs) ≡ drop (suc n) xs
    more [] zero = refl
    more [] (suc n) = refl
    more (x ∷ xs) zero = refl
    more (x ∷ xs) (suc n) = more xs n

-- column i exists, and has this real type
pub record Known (t : Table) (i : ℕ) (c : ColumnMeta) (real : ColumnType) : Type 0 where
  pub here : slice_get t.columns i ≡ Some c
  pub real_is : real_type_of c ≡ Ok real

typed : (t : Table) (i : ℕ) (c : ColumnMeta) (real : ColumnType) → Known t i c real → column_real_type (slice_get t.columns i) ≡ Ok real
typed t i c real k = rw (k.here, k.real_is) refl

pub count_next : (kind : ColumnType → Bool) (t : Table) (i : ℕ) (c : ColumnMeta) (real : ColumnType) → Known t i c real → count_before kind t (suc i) ≡ count_before kind t i + (if kind real then 1 else 0)
count_next kind t i c real k = rw (typed t i c real k) refl

pub sign_told : (t : Table) (i : ℕ) (real : ColumnType) (old : List Bool) → old ≡ drop (count_before is_numeric t i) t.signs
    → (if is_numeric real then sign_or_signed (first_item old) else false) ≡ sign_at t i real
sign_told t i real old h = ap (λ (o : Option Bool). if is_numeric real then sign_or_signed o else false) (ap first_item h ∙ first_left t.signs (count_before is_numeric t i))

-- one signedness bit was consumed, or none
pub signs_moved : {A : Type 0} (b : Bool) (n : ℕ) (xs old new : List A) → old ≡ drop n xs → new ≡ (if b then drop 1 old else old) → new ≡ drop (n + (if b then 1 else 0)) xs
signs_moved {A = A} true n xs old new h e = e ∙ ap (λ (l : List A). drop 1 l) h ∙ one_dropped xs n
signs_moved {A = A} false n xs old new h e = let z : n + 0 ≡ n = omega arith in e ∙ h ∙ sym (ap (λ (k : ℕ). drop k xs) z)

-- one character set was consumed, or none
pub charsets_moved : (b : Bool) (n : ℕ) (all old new : ℕ → Option (Reading ℕ)) → ((k : ℕ) → old k ≡ all (n + k)) → ((k : ℕ) → new k ≡ old (if b then suc k else k))
    → (k : ℕ) → new k ≡ all ((n + (if b then 1 else 0)) + k)
charsets_moved true n all old new h e k = let z : n + suc k ≡ (n + 1) + k = omega arith in e k ∙ h (suc k) ∙ ap all z
charsets_moved false n all old new h e k = let z : n + k ≡ (n + 0) + k = omega arith in e k ∙ h k ∙ ap all z

-- the next of the remaining names
pub name_passed : (xs : List (Reading (List ℕ))) (i : ℕ) (old : List (Reading (List ℕ))) (x : ⊤) (new : List (Reading (List ℕ))) → old ≡ drop i xs → SkipsName old (Ok x) new
    → (name_at xs i ≡ Ok (name_or_empty (name_at xs i))) × (new ≡ drop (suc i) xs)
name_passed xs i [] x new h e = let gone = none_left xs i (sym h) in (rw gone refl, e ∙ sym (none_after xs i (sym h)))
name_passed xs i (Ok name ∷ names) x new h e = let here = at_prefix xs i (Ok name) names (sym h) in (rw here refl, e ∙ after_prefix xs i (Ok name) names (sym h))
name_passed xs i (Err f ∷ names) x new h e = absurd e

pub name_failed : (xs : List (Reading (List ℕ))) (i : ℕ) (old : List (Reading (List ℕ))) (f : RowsError) (new : List (Reading (List ℕ))) → old ≡ drop i xs → SkipsName old (Err f) new → name_at xs i ≡ Err f
name_failed xs i [] f new h e = absurd e
name_failed xs i (Ok name ∷ names) f new h e = absurd e
name_failed xs i (Err g ∷ names) f new h e = let here = at_prefix xs i (Err g) names (sym h) in rw here (ap Err e)

-- the next character set of a column's kind
pub charset_told : (t : Table) (i : ℕ) (real : ColumnType) (old enums : ℕ → Option (Reading ℕ)) → ((k : ℕ) → old k ≡ t.charset (count_before is_character t i + k)) → ((k : ℕ) → enums k ≡ t.enum_charset (count_before is_enum_or_set t i + k))
    → (if is_character real then charset_or_none (old 0) else if is_enum_or_set real then charset_or_none (enums 0) else Ok 0) ≡ charset_at t i real
charset_told t i real old enums h g =
    let a : count_before is_character t i + 0 ≡ count_before is_character t i = omega arith in
    let b : count_before is_enum_or_set t i + 0 ≡ count_before is_enum_or_set t i = omega arith in
    rw (h 0 ∙ ap t.charset a, g 0 ∙ ap t.enum_charset b) refl

-- no type is of both kinds
pub one_kind : (t : ColumnType) (k : ℕ) → (if is_character t then k else if is_enum_or_set t then suc k else k) ≡ (if is_enum_or_set t then suc k else k)
one_kind column.MYSQL_TYPE_DECIMAL k = refl
one_kind column.MYSQL_TYPE_TINY k = refl
one_kind column.MYSQL_TYPE_SHORT k = refl
one_kind column.MYSQL_TYPE_LONG k = refl
one_kind column.MYSQL_TYPE_FLOAT k = refl
one_kind column.MYSQL_TYPE_DOUBLE k = refl
one_kind column.MYSQL_TYPE_NULL k = refl
one_kind column.MYSQL_TYPE_TIMESTAMP k = refl
one_kind column.MYSQL_TYPE_LONGLONG k = refl
one_kind column.MYSQL_TYPE_INT24 k = refl
one_kind column.MYSQL_TYPE_DATE k = refl
one_kind column.MYSQL_TYPE_TIME k = refl
one_kind column.MYSQL_TYPE_DATETIME k = refl
one_kind column.MYSQL_TYPE_YEAR k = refl
one_kind column.MYSQL_TYPE_NEWDATE k = refl
one_kind column.MYSQL_TYPE_VARCHAR k = refl
one_kind column.MYSQL_TYPE_BIT k = refl
one_kind column.MYSQL_TYPE_TIMESTAMP2 k = refl
one_kind column.MYSQL_TYPE_DATETIME2 k = refl
one_kind column.MYSQL_TYPE_TIME2 k = refl
one_kind column.MYSQL_TYPE_TYPED_ARRAY k = refl
one_kind column.MYSQL_TYPE_VECTOR k = refl
one_kind column.MYSQL_TYPE_UNKNOWN k = refl
one_kind column.MYSQL_TYPE_JSON k = refl
one_kind column.MYSQL_TYPE_NEWDECIMAL k = refl
one_kind column.MYSQL_TYPE_ENUM k = refl
one_kind column.MYSQL_TYPE_SET k = refl
one_kind column.MYSQL_TYPE_TINY_BLOB k = refl
one_kind column.MYSQL_TYPE_MEDIUM_BLOB k = refl
one_kind column.MYSQL_TYPE_LONG_BLOB k = refl
one_kind column.MYSQL_TYPE_BLOB k = refl
one_kind column.MYSQL_TYPE_VAR_STRING k = refl
one_kind column.MYSQL_TYPE_STRING k = refl
one_kind column.MYSQL_TYPE_GEOMETRY k = refl

-- all that is known of a column
pub column_known : (t : Table) (i : ℕ) (c : ColumnMeta) (real : ColumnType) (cs : ℕ) (name : List ℕ) (is_key : Bool) → Known t i c real
    → charset_at t i real ≡ Ok cs → name_at t.names i ≡ Ok name → key_at t i ≡ Ok is_key
    → column_at t i ≡ Ok (record { real_type = real; image = record { column = i; format = column_format real c.metadata (sign_at t i real); json_column = count_before is_json t i }; is_unsigned = sign_at t i real; character_set = cs; name = name; is_key = is_key })
unfolding column_at
column_known t i c real cs name is_key k a b d = rw (k.here, k.real_is, a, b, d) refl

pub charset_failed : (t : Table) (i : ℕ) (c : ColumnMeta) (real : ColumnType) (e : RowsError) → Known t i c real → charset_at t i real ≡ Err e → column_at t i ≡ Err e
unfolding column_at
charset_failed t i c real e k a = rw (k.here, k.real_is, a) refl

pub column_name_failed : (t : Table) (i : ℕ) (c : ColumnMeta) (real : ColumnType) (cs : ℕ) (e : RowsError) → Known t i c real → charset_at t i real ≡ Ok cs → name_at t.names i ≡ Err e → column_at t i ≡ Err e
unfolding column_at
column_name_failed t i c real cs e k a b = rw (k.here, k.real_is, a, b) refl

pub key_failed : (t : Table) (i : ℕ) (c : ColumnMeta) (real : ColumnType) (cs : ℕ) (name : List ℕ) (e : RowsError) → Known t i c real → charset_at t i real ≡ Ok cs → name_at t.names i ≡ Ok name → key_at t i ≡ Err e → column_at t i ≡ Err e
unfolding column_at
key_failed t i c real cs name e k a b d = rw (k.here, k.real_is, a, b, d) refl

pub type_failed : (t : Table) (i : ℕ) (c : ColumnMeta) (bad : BadColumnType) → slice_get t.columns i ≡ Some c → real_type_of c ≡ Err bad → column_at t i ≡ Err Cell
unfolding column_at
type_failed t i c bad here h = rw (here, h) refl

pub none_failed : (t : Table) (i : ℕ) → slice_get t.columns i ≡ None → column_at t i ≡ Err Metadata
unfolding column_at
none_failed t i h = rw h refl

-- a column that was returned is known
pub known : (t : Table) (i : ℕ) (c : ColumnMeta) (real : ColumnType) (old rest : List ColumnMeta) (r : Result ColumnType BadColumnType) → old ≡ drop i t.columns → old ≡ c ∷ rest → r ≡ real_type_of c → r ≡ Ok real → Known t i c real
known t i c real old rest r at gives typed is = record { here = at_prefix t.columns i c rest (sym at ∙ gives); real_is = sym typed ∙ is }

-- the column that is built from what is known
pub column_given : (t : Table) (i : ℕ) (c : ColumnMeta) (real : ColumnType) (format : CellFormat) (sign : Bool) (json cs : ℕ) (is_key : Bool) → Known t i c real
    → sign ≡ sign_at t i real → format ≡ column_format real c.metadata sign → json ≡ count_before is_json t i
    → charset_at t i real ≡ Ok cs → name_at t.names i ≡ Ok (name_or_empty (name_at t.names i)) → key_at t i ≡ Ok is_key
    → column_at t i ≡ Ok (record { real_type = real; image = record { column = i; format = format; json_column = json }; is_unsigned = sign; character_set = cs; name = name_or_empty (name_at t.names i); is_key = is_key })
column_given t i c real format sign json cs is_key k s f j a b d =
    rw (f, s, j) (column_known t i c real cs (name_or_empty (name_at t.names i)) is_key k a b d)
