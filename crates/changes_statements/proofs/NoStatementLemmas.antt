-- Where a change has a reason to be without a statement, no text is one.
use Rattle.std.proofs.Common.{◌≡◌, ◌⊎◌, ◌==◌, ◌<◌, ◌+◌, ◌^◌, ◌||◌, ℕ, zero, suc, Bool, true, false, List, [], ◌∷◌, ◌++◌, length, Option, Some, None, inl, inr, refl, sym, ap, subst, ◌∙◌, arith}
use Rattle.std.specs.Prelude.{slice_get, codes, from_bits, not, if◌then◌else◌}
use Rattle.std.specs.declared.result.Result.{Result}
use Rattle.std.specs.declared.result.Result.TheVariants.{Ok}
use Rattle.std.specs.Char.{digit_value}
use Rattle.std.specs.Float.{binary32, binary64, float_is_finite}
use Rattle.std.specs.Float.Ieee.{Float, nan, inf, fin}
use Rattle.std.specs.Float.Numeral.{Parts, exponent_text, text_of, IsWellFormed}
use Rattle.std.specs.Fmt.{sign_text}
use Rattle.std.specs.List.{AllZip, join_with_byte, list_any, range_with_len}
use Rattle.std.specs.Str.Parse.{AllDigits}
use Rattle.std.proofs.lemmas.Bool.{false≢true}
use Rattle.std.proofs.lemmas.List.Folds.{list_any-append}
use Rattle.std.proofs.lemmas.List.FromFn.{get_or-range_with_len, length-range_with_len}
use Rattle.std.proofs.lemmas.Option.{slice_get-get_or, slice_get_within}
use Rattle.ryu.specs.Plain.{IsPlainNumber, word_of}
use Rattle.rows_cells.specs.declared.cell.CellRef.{CellRef}
use Rattle.rows_cells.specs.declared.cell.CellRef.TheVariants as cell
use Rattle.rows_values.specs.Unpacked.{packed_text}
use Rattle.rows_errors.specs.declared.fault.RowsError.{RowsError}
use Rattle.rows_jsonb.specs.DocumentTrees.{document_tree}
use Rattle.rows_jsonb.specs.JsonTrees as tree
use Rattle.rows_jsonb.specs.JsonTrees.{Tree, Items, Members, Scalar, array, object, scalar, no_items, item, no_members, member}
use Rattle.feed_text.specs.DocumentForms.{IsScalarIn, IsDocumentIn, AreItemsIn, AreMembersIn}
use Rattle.changes_statements.specs.declared.row_change.RowChange.{RowChange}
use Rattle.changes_statements.specs.declared.row_change.RowChange.TheVariants.{Inserted, Deleted, Updated}
use Rattle.changes_tables.specs.declared.columns.Shown.{Shown}
use Rattle.changes_writers.specs.FloatTexts as json
use Rattle.changes_writers.specs.JsonStrings.{json_string}
use Rattle.changes_statements.specs.PlainDocuments.{plain_form}
use Rattle.changes_statements.specs.SqlNumbers.{IsFloatOrZero}
use Rattle.changes_statements.specs.SqlLiterals.{IsDocumentLiteral, IsLiteral, has_no_text}
use Rattle.changes_statements.specs.RowsOfCells.{Cells, cell_in}
use Rattle.changes_statements.specs.SqlStatements.{IsComparison, IsCondition, IsConditionBy, IsItem, IsItemList, IsKeptItem, IsStatement, kept_before, kept_of}
use Rattle.changes_statements.specs.NoStatements.{HasNoComparison, HasNoCondition, HasNoConditionBy, HasNoItems, HasNoJsonText, HasNoLiteral, HasNoStatement, IsNotFinite}
use Rattle.changes_statements.specs.declared.no_statement.NoStatement.{NoStatement}
use Rattle.changes_statements.specs.declared.sql_table.SqlColumn.{SqlColumn}
use Rattle.changes_statements.specs.declared.sql_table.SqlTable.{SqlTable}
use Rattle.changes_statements.specs.declared.statements.Item.{Item}
use Rattle.changes_statements.specs.declared.statements.Item.TheVariants as item_kind
use Rattle.changes_statements.proofs.StatementLemmas.{kept_push}

equal : (a b : ℕ) → (a == b) ≡ true → a ≡ b
equal a b h = grind arith

or_none : (b : Bool) → (b || false) ≡ b
or_none true = refl
or_none false = refl

-- ---- the text of a number

digit_plain : (c : ℕ) → digit_value c < 10 → (c == 255) ≡ false
digit_plain c small = go (c == 255) refl
  where
    none : digit_value 255 < 10 → ⊥
    none h = (let k : 36 < 10 = h in omega (arith, k))

    go : (z : Bool) → (c == 255) ≡ z → z ≡ false
    go false e = refl
    go true e = absurd (none (subst (λ (k : ℕ). digit_value k < 10) (equal c 255 e) small))

digits_plain : (ds : List ℕ) → AllDigits 10 ds → has_no_text ds ≡ false
digits_plain [] h = refl
digits_plain (c ∷ ds) h = λ i. digit_plain c h.0 i || digits_plain ds h.1 i

both_plain : (a b : List ℕ) → has_no_text a ≡ false → has_no_text b ≡ false → has_no_text (a ++ b) ≡ false
both_plain a b h k = list_any-append (λ (x : ℕ). x == 255) a b ∙ (λ i. h i || k i)

sign_plain : (negative : Bool) → has_no_text (sign_text negative) ≡ false
sign_plain true = refl
sign_plain false = refl

point_plain : (b : Bool) (ds : List ℕ) → has_no_text ds ≡ false → has_no_text (if b then 46 ∷ ds else []) ≡ false
point_plain true ds h = h
point_plain false ds h = refl

exponent_plain : (negative : Bool) (ds : List ℕ) → has_no_text ds ≡ false → has_no_text (exponent_text negative ds) ≡ false
exponent_plain negative [] h = refl
exponent_plain true (d ∷ ds) h = h
exponent_plain false (d ∷ ds) h = h

parts_plain : (p : Parts) → IsWellFormed p → has_no_text (text_of p) ≡ false
parts_plain p formed =
    let point = if p.point then 46 ∷ p.fraction else [] in
    let exponent = exponent_text p.exponent_negative p.exponent in
    both_plain p.whole (point ++ exponent) (digits_plain p.whole formed.whole_digits)
    (both_plain point exponent (point_plain p.point p.fraction (digits_plain p.fraction formed.fraction_digits)) (exponent_plain p.exponent_negative p.exponent (digits_plain p.exponent formed.exponent_digits)))

number_plain : (text : List ℕ) → IsPlainNumber text → has_no_text text ≡ false
number_plain text n = ap has_no_text n.2 ∙ both_plain (sign_text n.0) (text_of n.1) (sign_plain n.0) (parts_plain n.1 (n.3).well_formed)

word_plain : (f : Float) → has_no_text (json_string (word_of f)) ≡ false
unfolding json_string
word_plain nan = refl
word_plain (inf true) = refl
word_plain (inf false) = refl
word_plain (fin negative m e) = refl

double_plain : (f : Float) (text : List ℕ) → json.IsFloatText binary64 16 4 f text → has_no_text text ≡ false
double_plain f text h = go (float_is_finite f) refl
  where
    go : (z : Bool) → float_is_finite f ≡ z → has_no_text text ≡ false
    go true e = number_plain text (h.number e)
    go false e = ap has_no_text (h.word e) ∙ word_plain f

-- ---- all texts of a document have a byte in place of a value, or none has

joined : (xs : List (List ℕ)) → has_no_text (join_with_byte 44 xs) ≡ list_any has_no_text xs
joined [] = refl
joined (x ∷ []) = sym (or_none (has_no_text x))
joined (x ∷ y ∷ xs) = list_any-append (λ (b : ℕ). b == 255) x (44 ∷ join_with_byte 44 (y ∷ xs)) ∙ ap (λ (b : Bool). has_no_text x || b) (joined (y ∷ xs))

closed : (xs : List (List ℕ)) (close : ℕ) → (close == 255) ≡ false → has_no_text (join_with_byte 44 xs ++ close ∷ []) ≡ list_any has_no_text xs
closed xs close plain = list_any-append (λ (b : ℕ). b == 255) (join_with_byte 44 xs) (close ∷ []) ∙ ap (λ (b : Bool). has_no_text (join_with_byte 44 xs) || (b || false)) plain ∙ or_none (has_no_text (join_with_byte 44 xs)) ∙ joined xs

member_text : (key v x : List ℕ) → x ≡ key ++ (codes ":" ++ v) → has_no_text x ≡ (has_no_text key || has_no_text v)
member_text key v x e = ap has_no_text e ∙ list_any-append (λ (b : ℕ). b == 255) key (58 ∷ v)

same_scalar : (s : Scalar) (x y : List ℕ) → IsScalarIn plain_form s x → IsScalarIn plain_form s y → has_no_text x ≡ has_no_text y
unfolding IsScalarIn
same_scalar tree.null x y h k = ap has_no_text (h ∙ sym k)
same_scalar (tree.boolean b) x y h k = ap has_no_text (h ∙ sym k)
same_scalar (tree.int z) x y h k = ap has_no_text (h ∙ sym k)
same_scalar (tree.uint n) x y h k = ap has_no_text (h ∙ sym k)
same_scalar (tree.double bits) x y h k = double_plain (from_bits binary64 bits) x h ∙ sym (double_plain (from_bits binary64 bits) y k)
same_scalar (tree.decimal d) x y h k = ap has_no_text (h ∙ sym k)
same_scalar (tree.string s) x y h k = ap has_no_text (h ∙ sym k)
same_scalar (tree.time t) x y h k = ap has_no_text (h ∙ sym k)
same_scalar (tree.opaque number b) x y h k = ap has_no_text (h ∙ sym k)

mutual
  unfolding IsDocumentIn AreItemsIn AreMembersIn

  same_document : (t : Tree) (x y : List ℕ) → IsDocumentIn plain_form t x → IsDocumentIn plain_form t y → has_no_text x ≡ has_no_text y
  same_document (scalar s) x y h k = same_scalar s x y h k
  same_document (array is) x y h k = ap has_no_text h.2 ∙ closed h.0 93 refl ∙ same_items is h.0 k.0 h.1 k.1 ∙ sym (ap has_no_text k.2 ∙ closed k.0 93 refl)
  same_document (object ms) x y h k = ap has_no_text h.2 ∙ closed h.0 125 refl ∙ same_members ms h.0 k.0 h.1 k.1 ∙ sym (ap has_no_text k.2 ∙ closed k.0 125 refl)

  same_items : (is : Items) (xs ys : List (List ℕ)) → AreItemsIn plain_form is xs → AreItemsIn plain_form is ys → list_any has_no_text xs ≡ list_any has_no_text ys
  same_items no_items xs ys h k = ap (list_any has_no_text) (h ∙ sym k)
  same_items (item t ts) [] ys h k = absurd h
  same_items (item t ts) (x ∷ xs) [] h k = absurd k
  same_items (item t ts) (x ∷ xs) (y ∷ ys) h k = λ i. same_document t x y h.0 k.0 i || same_items ts xs ys h.1 k.1 i

  same_members : (ms : Members) (xs ys : List (List ℕ)) → AreMembersIn plain_form ms xs → AreMembersIn plain_form ms ys → list_any has_no_text xs ≡ list_any has_no_text ys
  same_members no_members xs ys h k = ap (list_any has_no_text) (h ∙ sym k)
  same_members (member key t ms) [] ys h k = absurd h
  same_members (member key t ms) (x ∷ xs) [] h k = absurd k
  same_members (member key t ms) (x ∷ xs) (y ∷ ys) h k =
      let text = json_string key in
      let first : has_no_text x ≡ has_no_text y =
      member_text text (h.0).0 x (h.0).2 ∙ ap (λ (b : Bool). has_no_text text || b) (same_document t (h.0).0 (k.0).0 (h.0).1 (k.0).1) ∙ sym (member_text text (k.0).0 y (k.0).2) in
      λ i. first i || same_members ms xs ys h.1 k.1 i

-- ---- literals

no_short_float : (bits : ℕ) (e : NoStatement) (x : List ℕ) → IsNotFinite binary32 bits e → IsFloatOrZero (bits == 2 ^ 31) (from_bits binary32 bits) x → ⊥
unfolding float_is_finite lib.Ieee.of_bits
no_short_float bits e x h = go (bits == 2 ^ 31) refl
  where
    zero_is_finite : float_is_finite (from_bits binary32 (2 ^ 31)) ≡ true
    zero_is_finite = refl

    go : (z : Bool) → (bits == 2 ^ 31) ≡ z → IsFloatOrZero z (from_bits binary32 bits) x → ⊥
    go true is l = false≢true (sym h.0 ∙ ap (λ (k : ℕ). float_is_finite (from_bits binary32 k)) (equal bits (2 ^ 31) is) ∙ zero_is_finite)
    go false is l = false≢true (sym h.0 ∙ l.finite)

no_float : (bits : ℕ) (e : NoStatement) (x : List ℕ) → IsNotFinite binary64 bits e → IsFloatOrZero (bits == 2 ^ 63) (from_bits binary64 bits) x → ⊥
unfolding float_is_finite lib.Ieee.of_bits
no_float bits e x h = go (bits == 2 ^ 63) refl
  where
    zero_is_finite : float_is_finite (from_bits binary64 (2 ^ 63)) ≡ true
    zero_is_finite = refl

    go : (z : Bool) → (bits == 2 ^ 63) ≡ z → IsFloatOrZero z (from_bits binary64 bits) x → ⊥
    go true is l = false≢true (sym h.0 ∙ ap (λ (k : ℕ). float_is_finite (from_bits binary64 k)) (equal bits (2 ^ 63) is) ∙ zero_is_finite)
    go false is l = false≢true (sym h.0 ∙ l.finite)

same_tree : (found : Result Tree RowsError) (t u : Tree) → found ≡ Ok t → found ≡ Ok u → t ≡ u
same_tree found t u h k = cc

no_decimal : (found : Option (List ℕ)) (x : List ℕ) → found ≡ None → found ≡ Some x → ⊥
no_decimal found x h k = cc

no_document : (b : List ℕ) (e : NoStatement) (x : List ℕ) → HasNoJsonText b e → IsDocumentLiteral b x → ⊥
no_document b e x (inl h) l = h.none l.tree l.is
no_document b e x (inr h) l =
    let is = subst (λ (t : Tree). IsDocumentIn plain_form t h.json) (same_tree (document_tree b) h.tree l.tree h.is l.is) h.json_is in
    false≢true (sym l.whole ∙ same_document l.tree l.json h.json l.json_is is ∙ h.lacks)

pub no_literal : (s : Shown) (padded_len : ℕ) (exact : Bool) (c : CellRef) (e : NoStatement) (x : List ℕ) → HasNoLiteral c e → IsLiteral s padded_len exact c x → ⊥
unfolding HasNoLiteral IsLiteral
no_literal s padded_len exact (cell.Float bits) e x h l = no_short_float bits e x h l
no_literal s padded_len exact (cell.Double bits) e x h l = no_float bits e x h l
no_literal s padded_len exact (cell.Decimal precision scale b) e x h l = no_decimal (packed_text precision scale b.now) x h.0 l
no_literal s padded_len exact (cell.Json b) e x h l = no_document b.now e x h l
no_literal s padded_len exact (cell.JsonDiffs b) e x h l = absurd l
no_literal s padded_len exact cell.Null e x h l = absurd h
no_literal s padded_len exact (cell.Int z) e x h l = absurd h
no_literal s padded_len exact (cell.UInt n) e x h l = absurd h
no_literal s padded_len exact (cell.Bytes b) e x h l = absurd h
no_literal s padded_len exact (cell.Year n) e x h l = absurd h
no_literal s padded_len exact (cell.NewDate n) e x h l = absurd h
no_literal s padded_len exact (cell.OldTime n) e x h l = absurd h
no_literal s padded_len exact (cell.OldDatetime n) e x h l = absurd h
no_literal s padded_len exact (cell.Timestamp n m) e x h l = absurd h
no_literal s padded_len exact (cell.Datetime n) e x h l = absurd h
no_literal s padded_len exact (cell.Time n) e x h l = absurd h

-- ---- the condition

same_found : {A : Type 0} (found : Option A) (a b : A) → found ≡ Some a → found ≡ Some b → a ≡ b
same_found found a b h k = cc

no_found : {A : Type 0} (found : Option A) (a : A) → found ≡ None → found ≡ Some a → ⊥
no_found found a h k = cc

no_comparison : (is_key : Bool) (columns : List SqlColumn) (cells : Cells) (index : ℕ) (e : NoStatement) (x : List ℕ) → HasNoComparison columns cells index e → IsComparison is_key columns cells index x → ⊥
no_comparison is_key columns cells index e x (inl h) c = of h.0
  where
    of : (slice_get columns index ≡ None) ⊎ (cell_in cells index ≡ None) → ⊥
    of (inl none) = no_found (slice_get columns index) c.column none c.column_is
    of (inr none) = no_found (cell_in cells index) c.cell none c.cell_is
no_comparison is_key columns cells index e x (inr v) c =
    let same = same_found (cell_in cells index) c.cell v.cell c.cell_is v.cell_is in
    no_literal c.column.shown c.column.padded_len (not is_key) c.cell e c.value (subst (λ (k : CellRef). HasNoLiteral k e) (sym same) v.none) c.value_is

zip_at : (R : ℕ → List ℕ → Type 0) (xs : List ℕ) (ys : List (List ℕ)) (k x : ℕ) → AllZip R xs ys → slice_get xs k ≡ Some x → (y : List ℕ) × R x y
zip_at R [] ys k x h e = absurd (no_found None x refl e)
zip_at R (z ∷ xs) [] k x h e = absurd h
zip_at R (z ∷ xs) (y ∷ ys) zero x h e = (y, subst (λ (w : ℕ). R w y) (same_found (Some z) z x refl e) h.0)
zip_at R (z ∷ xs) (y ∷ ys) (suc k) x h e = zip_at R xs ys k x h.1 e

in_range : (n k : ℕ) → k < n → slice_get (range_with_len 0 n) k ≡ Some k
in_range n k few =
    slice_get-get_or (range_with_len 0 n) k 0 (omega (arith, few, length-range_with_len 0 n)) ∙ ap Some (get_or-range_with_len 0 n k 0 few ∙ (let e : 0 + k ≡ k = omega arith in e))

no_condition_by : (key : List ℕ) (table : SqlTable) (cells : Cells) (e : NoStatement) (x : List ℕ) → HasNoConditionBy key table cells e → IsConditionBy key table cells x → ⊥
no_condition_by [] table cells e x h l =
    let columns = table.columns.items in
    let found = zip_at (IsComparison false columns cells) (range_with_len 0 (length columns)) l.1.texts h.0 h.0 l.1.are (in_range (length columns) h.0 h.1) in
    no_comparison false columns cells h.0 e found.0 h.2 found.1
no_condition_by (i ∷ indexes) table cells e x h l =
    let columns = table.columns.items in
    let found = zip_at (IsComparison true columns cells) table.key.items l.1.texts h.0 h.1 l.1.are h.2 in
    no_comparison true columns cells h.1 e found.0 h.3 found.1

no_condition : (table : SqlTable) (cells : Cells) (e : NoStatement) (x : List ℕ) → HasNoCondition table cells e → IsCondition table cells x → ⊥
unfolding HasNoCondition IsCondition
no_condition table cells e x h l = no_condition_by table.key.items table cells e x h l

-- ---- lists

-- the texts of the first part of a list, and those of its second part
record Split (R : SqlColumn × CellRef → List ℕ → Type 0) (xs zs : List (SqlColumn × CellRef)) : Type 0 where
  before : List (List ℕ)
  before_are : AllZip R xs before
  after : List (List ℕ)
  after_are : AllZip R zs after

zip_split : (R : SqlColumn × CellRef → List ℕ → Type 0) (xs zs : List (SqlColumn × CellRef)) (ys : List (List ℕ)) → AllZip R (xs ++ zs) ys → Split R xs zs
zip_split R [] zs ys h = record { before = []; before_are = search; after = ys; after_are = h }
zip_split R (x ∷ xs) zs [] h = absurd h
zip_split R (x ∷ xs) zs (y ∷ ys) h =
    let more = zip_split R xs zs ys h.1 in
    record { before = y ∷ more.before; before_are = (h.0, more.before_are); after = more.after; after_are = more.after_are }

kept_at : (R : SqlColumn × CellRef → List ℕ → Type 0) (columns : List SqlColumn) (cells : Cells) (n index : ℕ) (column : SqlColumn) (c : CellRef) (ys : List (List ℕ)) → index < n → slice_get columns index ≡ Some column → cell_in cells index ≡ Some c
    → AllZip R (kept_before n columns cells) ys → (y : List ℕ) × R (column, c) y
kept_at R columns cells zero index column c ys few column_is cell_is h = absurd (omega (arith, few))
kept_at R columns cells (suc n) index column c ys few column_is cell_is h = go (λ (ts : List (List ℕ)) (f : index < n) (k : AllZip R (kept_before n columns cells) ts). kept_at R columns cells n index column c ts f column_is cell_is k) (index == n) refl
  where
    more : kept_before (suc n) columns cells ≡ kept_before n columns cells ++ kept_of (slice_get columns n) (cell_in cells n)
    more = ap (λ (k : ℕ). kept_before k columns cells) (let e : suc n ≡ n + 1 = omega arith in e) ∙ kept_push n columns cells

    split : Split R (kept_before n columns cells) (kept_of (slice_get columns n) (cell_in cells n))
    split = zip_split R (kept_before n columns cells) (kept_of (slice_get columns n) (cell_in cells n)) ys (subst (λ (l : List (SqlColumn × CellRef)). AllZip R l ys) more h)

    last : (bs : List (List ℕ)) → AllZip R ((column, c) ∷ []) bs → (y : List ℕ) × R (column, c) y
    last [] k = absurd k
    last (y ∷ bs) k = (y, k.0)

    earlier : (index == n) ≡ false → index < suc n → index < n
    earlier e f = grind arith

    go : ((ts : List (List ℕ)) → index < n → AllZip R (kept_before n columns cells) ts → (y : List ℕ) × R (column, c) y) → (z : Bool) → (index == n) ≡ z → (y : List ℕ) × R (column, c) y
    go before true e =
        let same = equal index n e in
        let at_column = ap (slice_get columns) (sym same) ∙ column_is in
        let at_cell = ap (cell_in cells) (sym same) ∙ cell_is in
        let only : kept_of (slice_get columns n) (cell_in cells n) ≡ (column, c) ∷ [] = λ i. kept_of (at_column i) (at_cell i) in
        last split.after (subst (λ (l : List (SqlColumn × CellRef)). AllZip R l split.after) only split.after_are)
    go before false e = before split.before (earlier e few) split.before_are

-- a list whose items have the values of cells
abbrev ShowsLiterals : Item → Type 0
ShowsLiterals kind = (column : SqlColumn) (c : CellRef) (x : List ℕ) → IsItem kind column c x → (value : List ℕ) × IsLiteral column.shown column.padded_len false c value

no_items_of : (kind : Item) → ShowsLiterals kind → (columns : List SqlColumn) (cells : Cells) (e : NoStatement) (x : List ℕ) → HasNoItems columns cells e → IsItemList kind columns cells x → ⊥
no_items_of kind shows columns cells e x h l =
    let v = h.1 in
    let few : h.0 < length columns = slice_get_within columns h.0 v.column v.column_is in
    let found = kept_at (IsKeptItem kind) columns cells (length columns) h.0 v.column v.cell l.texts few v.column_is v.cell_is l.are in
    let literal = shows v.column v.cell found.0 found.1 in
    no_literal v.column.shown v.column.padded_len false v.cell e literal.0 v.none literal.1

values_show : ShowsLiterals item_kind.Value
unfolding IsItem
values_show column c x h = (x, h)

assignments_show : ShowsLiterals item_kind.Assignment
unfolding IsItem
assignments_show column c x h = (h.0, h.1)

pub no_statement : (table : SqlTable) (change : RowChange Cells) (e : NoStatement) (x : List ℕ) → HasNoStatement table change e → IsStatement table change x → ⊥
no_statement table (Inserted cells) e x h l = no_items_of item_kind.Value values_show table.columns.items cells e l.values h l.values_are
no_statement table (Deleted cells) e x h l = no_condition table cells e l.condition h l.condition_is
no_statement table (Updated before after) e x (inl h) l = no_items_of item_kind.Assignment assignments_show table.columns.items after e l.assignments h l.assignments_are
no_statement table (Updated before after) e x (inr h) l = no_condition table before e l.condition h l.condition_is
