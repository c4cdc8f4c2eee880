-- Lists of columns, comparisons and statements, part by part.
use Rattle.std.proofs.Common.{◌≡◌, ◌⊎◌, ◌+◌, ◌==◌, ◌<◌, ℕ, suc, Bool, true, false, List, [], ◌∷◌, ◌++◌, length, map, take, get_or, Option, Some, None, inl, inr, refl, sym, ap, subst, ◌∙◌, append_assoc, arith}
use Rattle.std.specs.Prelude.{slice_get, codes, not, if◌then◌else◌}
use Rattle.std.specs.List.{AllZip, flat_map, range_with_len}
use Rattle.std.proofs.Math.Seq.{take-suc}
use Rattle.std.proofs.lemmas.Grind.{flat_map-append}
use Rattle.std.proofs.lemmas.List.{append-nil}
use Rattle.std.proofs.lemmas.List.FromFn.{map-range_with_len_more}
use Rattle.rows_cells.specs.declared.cell.CellRef.{CellRef}
use Rattle.changes_writers.specs.FloatTexts.{AppendsSuch}
use Rattle.changes_statements.specs.declared.sql_table.SqlColumn.{SqlColumn}
use Rattle.changes_statements.specs.declared.sql_table.SqlTable.{SqlTable}
use Rattle.changes_statements.specs.declared.statements.Item.{Item}
use Rattle.changes_statements.specs.declared.statements.Item.TheVariants as item
use Rattle.changes_statements.specs.RowsOfCells.{Cells, cell_in}
use Rattle.changes_statements.specs.SqlLiterals.{IsLiteral}
use Rattle.changes_statements.specs.NoStatements.{HasNoComparison, HasNoCondition, HasNoConditionBy, HasNoKey, HasNoLiteral, HasNoneOfAll, HasNoValue, IsMemoryOr}
use Rattle.changes_statements.specs.declared.no_statement.NoStatement.{NoStatement}
use Rattle.changes_statements.specs.SqlStatements.{compared, HasComparisons, HasItems, IsComparison, IsComparisonOfAll, IsComparisonOfKey, IsCondition, IsConditionBy, IsDelete, IsInsert, IsItem, IsItemList, IsKeptItem, IsUpdate, is_none, kept_before, kept_of, may_be_text, separated}

zip_push : {A B : Type 0} (R : A → B → Type 0) (xs : List A) (ys : List B) (x : A) (y : B) → AllZip R xs ys → R x y → AllZip R (xs ++ x ∷ []) (ys ++ y ∷ [])
zip_push R [] [] x y h r = (r, h)
zip_push R [] (b ∷ ys) x y h r = absurd h
zip_push R (a ∷ xs) [] x y h r = absurd h
zip_push R (a ∷ xs) (b ∷ ys) x y h r = (h.0, zip_push R xs ys x y h.1 r)

one_by_one : (xs : List ℕ) → map (λ (i : ℕ). i) xs ≡ xs
one_by_one [] = refl
one_by_one (x ∷ xs) = ap (λ (l : List ℕ). x ∷ l) (one_by_one xs)

pub range_push : (n : ℕ) → range_with_len 0 (n + 1) ≡ range_with_len 0 n ++ n ∷ []
range_push n =
    sym (one_by_one (range_with_len 0 (n + 1)))
    ∙ map-range_with_len_more (λ (i : ℕ). i) 0 n n (omega arith)
    ∙ ap (λ (l : List ℕ). l ++ n ∷ []) (one_by_one (range_with_len 0 n))

separated_push : (between : List ℕ) (ts : List (List ℕ)) (t : List ℕ) → separated between (ts ++ t ∷ []) ≡ separated between ts ++ ((if is_none ts then [] else between) ++ t)
separated_push between [] t = append-nil t
separated_push between (u ∷ us) t =
    ap (λ (l : List ℕ). u ++ l) (flat_map-append (λ (x : List ℕ). between ++ x) us (t ∷ []) ∙ ap (λ (l : List ℕ). flat_map (λ (x : List ℕ). between ++ x) us ++ l) (append-nil (between ++ t)))
    ∙ sym (append_assoc u (flat_map (λ (x : List ℕ). between ++ x) us) (between ++ t))

not_none : (ts : List (List ℕ)) (t : List ℕ) → false ≡ is_none (ts ++ t ∷ [])
not_none [] t = refl
not_none (u ∷ us) t = refl

-- two appended parts are one
two : (a b c x y : List ℕ) → b ≡ a ++ x → c ≡ b ++ y → c ≡ a ++ (x ++ y)
two a b c x y e f = f ∙ ap (λ (l : List ℕ). l ++ y) e ∙ append_assoc a x y

-- ---- lists of columns

pub kept_push : (n : ℕ) (columns : List SqlColumn) (cells : Cells) → kept_before (n + 1) columns cells ≡ kept_before n columns cells ++ kept_of (slice_get columns n) (cell_in cells n)
kept_push n columns cells =
    ap (flat_map (λ (i : ℕ). kept_of (slice_get columns i) (cell_in cells i))) (range_push n)
    ∙ flat_map-append (λ (i : ℕ). kept_of (slice_get columns i) (cell_in cells i)) (range_with_len 0 n) (n ∷ [])
    ∙ ap (λ (l : List (SqlColumn × CellRef)). kept_before n columns cells ++ l) (append-nil (kept_of (slice_get columns n) (cell_in cells n)))

none_kept : (column : Option SqlColumn) (cell : Option CellRef) → (column ≡ None) ⊎ (cell ≡ None) → kept_of column cell ≡ []
none_kept None cell h = refl
none_kept (Some column) None h = refl
none_kept (Some column) (Some cell) (inl h) = grind arith
none_kept (Some column) (Some cell) (inr h) = grind arith

pub no_item : (item : Item) (columns : List SqlColumn) (cells : Cells) (n : ℕ) (first : Bool) (start now : List ℕ) → (slice_get columns n ≡ None) ⊎ (cell_in cells n ≡ None)
    → HasItems item columns cells n first start now → HasItems item columns cells (n + 1) first start now
no_item item columns cells n first start now none h = record {
  texts = h.texts;
  are = subst (λ (l : List (SqlColumn × CellRef)). AllZip (IsKeptItem item) l h.texts) (sym (kept_push n columns cells ∙ ap (λ (l : List (SqlColumn × CellRef)). kept_before n columns cells ++ l) (none_kept (slice_get columns n) (cell_in cells n) none) ∙ append-nil (kept_before n columns cells))) h.are;
  first_is = h.first_is;
  text = h.text;
}

pub one_item : (item : Item) (columns : List SqlColumn) (cells : Cells) (n : ℕ) (column : SqlColumn) (cell : CellRef) (first : Bool) (start now mid new : List ℕ)
    → slice_get columns n ≡ Some column → cell_in cells n ≡ Some cell → mid ≡ now ++ (if first then [] else codes ",") → AppendsSuch (IsItem item column cell) mid new
    → HasItems item columns cells n first start now → HasItems item columns cells (n + 1) false start new
one_item item columns cells n column cell first start now mid new column_is cell_is between added h =
    let kept : kept_before (n + 1) columns cells ≡ kept_before n columns cells ++ (column, cell) ∷ [] =
    kept_push n columns cells ∙ ap (λ (l : List (SqlColumn × CellRef)). kept_before n columns cells ++ l) (λ i. kept_of (column_is i) (cell_is i)) in
    record {
      texts = h.texts ++ added.text ∷ [];
      are = subst (λ (l : List (SqlColumn × CellRef)). AllZip (IsKeptItem item) l (h.texts ++ added.text ∷ [])) (sym kept) (zip_push (IsKeptItem item) (kept_before n columns cells) h.texts (column, cell) added.text h.are added.such);
      first_is = not_none h.texts added.text;
      text =
          added.appended ∙ ap (λ (l : List ℕ). l ++ added.text) between
          ∙ append_assoc now (if first then [] else codes ",") added.text
          ∙ ap (λ (l : List ℕ). l ++ ((if first then [] else codes ",") ++ added.text)) h.text
          ∙ append_assoc start (separated (codes ",") h.texts) ((if first then [] else codes ",") ++ added.text)
          ∙ ap (λ (b : Bool). start ++ (separated (codes ",") h.texts ++ ((if b then [] else codes ",") ++ added.text))) h.first_is
          ∙ ap (λ (l : List ℕ). start ++ l) (sym (separated_push (codes ",") h.texts added.text));
    }

pub no_items : (item : Item) (columns : List SqlColumn) (cells : Cells) (start : List ℕ) → HasItems item columns cells 0 true start start
no_items item columns cells start = record { texts = []; are = search; first_is = refl; text = sym (append-nil start) }

pub all_items : (item : Item) (columns : List SqlColumn) (cells : Cells) (n : ℕ) (first : Bool) (start now : List ℕ) → n ≡ length columns → HasItems item columns cells n first start now → AppendsSuch (IsItemList item columns cells) start now
all_items item columns cells n first start now is h = record {
  text = separated (codes ",") h.texts;
  such = record { texts = h.texts; are = subst (λ (k : ℕ). AllZip (IsKeptItem item) (kept_before k columns cells) h.texts) is h.are; text = refl };
  appended = h.text;
}

-- ---- comparisons

no_text : (R : ℕ → List ℕ → Type 0) (indexes : List ℕ) (texts : List (List ℕ)) → AllZip R indexes texts → (length indexes == 0) ≡ is_none texts
no_text R [] [] h = refl
no_text R [] (t ∷ texts) h = absurd h
no_text R (i ∷ indexes) [] h = absurd h
no_text R (i ∷ indexes) (t ∷ texts) h = grind arith

pub no_comparisons : (is_key : Bool) (columns : List SqlColumn) (cells : Cells) (start : List ℕ) → AppendsSuch (HasComparisons is_key columns cells []) start start
no_comparisons is_key columns cells start = record { text = []; such = record { texts = []; are = search; text = refl }; appended = sym (append-nil start) }

pub one_comparison : (is_key : Bool) (columns : List SqlColumn) (cells : Cells) (indexes all : List ℕ) (n index : ℕ) (start now mid new : List ℕ)
    → length indexes ≡ n → all ≡ indexes ++ index ∷ [] → mid ≡ now ++ (if n == 0 then [] else codes " AND ") → AppendsSuch (IsComparison is_key columns cells index) mid new
    → AppendsSuch (HasComparisons is_key columns cells indexes) start now → AppendsSuch (HasComparisons is_key columns cells all) start new
one_comparison is_key columns cells indexes all n index start now mid new long is between added h =
    let texts = h.such.texts in
    let first : (n == 0) ≡ is_none texts = ap (λ (k : ℕ). k == 0) (sym long) ∙ no_text (IsComparison is_key columns cells) indexes texts h.such.are in
    let more : mid ≡ now ++ (if is_none texts then [] else codes " AND ") = between ∙ ap (λ (b : Bool). now ++ (if b then [] else codes " AND ")) first in
    let text : separated (codes " AND ") (texts ++ added.text ∷ []) ≡ h.text ++ ((if is_none texts then [] else codes " AND ") ++ added.text) =
    separated_push (codes " AND ") texts added.text ∙ ap (λ (l : List ℕ). l ++ ((if is_none texts then [] else codes " AND ") ++ added.text)) (sym h.such.text) in
    record {
      text = separated (codes " AND ") (texts ++ added.text ∷ []);
      such = record {
        texts = texts ++ added.text ∷ [];
        are = subst (λ (l : List ℕ). AllZip (IsComparison is_key columns cells) l (texts ++ added.text ∷ [])) (sym is) (zip_push (IsComparison is_key columns cells) indexes texts index added.text h.such.are added.such);
        text = refl;
      };
      appended = two start now new h.text ((if is_none texts then [] else codes " AND ") ++ added.text) h.appended (two now mid new (if is_none texts then [] else codes " AND ") added.text more added.appended) ∙ ap (λ (l : List ℕ). start ++ l) (sym text);
    }

pub first_columns : (key : List ℕ) (n index : ℕ) → n < length key → index ≡ get_or key n index → take (n + 1) key ≡ take n key ++ index ∷ []
first_columns key n index few is = ap (λ (k : ℕ). take k key) (let e : n + 1 ≡ suc n = omega arith in e) ∙ take-suc key n index few ∙ ap (λ (k : ℕ). take n key ++ k ∷ []) (sym is)

pub all_columns : (is_key : Bool) (columns : List SqlColumn) (cells : Cells) (indexes all start now : List ℕ) → indexes ≡ all → AppendsSuch (HasComparisons is_key columns cells indexes) start now → AppendsSuch (HasComparisons is_key columns cells all) start now
all_columns is_key columns cells indexes all start now is h = subst (λ (l : List ℕ). AppendsSuch (HasComparisons is_key columns cells l) start now) is h

pub as_text : (is_key : Bool) (column : SqlColumn) (a b c d : List ℕ) → is_key ≡ false → may_be_text column.shown ≡ true → b ≡ a ++ codes "CAST(" → c ≡ b ++ column.quoted.items → d ≡ c ++ codes " AS BINARY)<=>" → d ≡ a ++ compared is_key column
unfolding compared
as_text is_key column a b c d key text e f g =
    let cast = column.quoted.items ++ codes " AS BINARY)<=>" in
    let is : compared is_key column ≡ codes "CAST(" ++ cast = rw (key, text) refl in
    two a b d (codes "CAST(") cast e (two b c d column.quoted.items (codes " AS BINARY)<=>") f g) ∙ ap (λ (l : List ℕ). a ++ l) (sym is)

pub one_compared : (is_key : Bool) (columns : List SqlColumn) (cells : Cells) (index : ℕ) (column : SqlColumn) (cell : CellRef) (a b c : List ℕ) → slice_get columns index ≡ Some column → cell_in cells index ≡ Some cell → b ≡ a ++ compared is_key column
    → AppendsSuch (IsLiteral column.shown column.padded_len (not is_key) cell) b c → AppendsSuch (IsComparison is_key columns cells index) a c
one_compared is_key columns cells index column cell a b c column_is cell_is begun literal = record {
  text = compared is_key column ++ literal.text;
  such = record { column = column; cell = cell; column_is = column_is; cell_is = cell_is; value = literal.text; value_is = literal.such; text = refl };
  appended = two a b c (compared is_key column) literal.text begun literal.appended;
}

pub by_key : (table : SqlTable) (cells : Cells) (a b c : List ℕ) → 0 < length table.key.items → b ≡ a ++ codes " WHERE " → AppendsSuch (IsComparisonOfKey table cells) b c → AppendsSuch (IsCondition table cells) a c
unfolding IsCondition
by_key table cells a b c some begun key = record { text = codes " WHERE " ++ key.text; such = of table.key.items some; appended = two a b c (codes " WHERE ") key.text begun key.appended }
  where
    of : (indexes : List ℕ) → 0 < length indexes → IsConditionBy indexes table cells (codes " WHERE " ++ key.text)
    of [] few = absurd (omega (arith, few))
    of (i ∷ indexes) few = (key.text, key.such, refl)

pub by_all : (table : SqlTable) (cells : Cells) (a b c d : List ℕ) → length table.key.items ≡ 0 → b ≡ a ++ codes " WHERE " → AppendsSuch (IsComparisonOfAll table cells) b c → d ≡ c ++ codes " LIMIT 1" → AppendsSuch (IsCondition table cells) a d
unfolding IsCondition
by_all table cells a b c d none begun all ended = record {
  text = codes " WHERE " ++ (all.text ++ codes " LIMIT 1");
  such = of table.key.items none;
  appended = two a b d (codes " WHERE ") (all.text ++ codes " LIMIT 1") begun (two b c d all.text (codes " LIMIT 1") all.appended ended);
}
  where
    of : (indexes : List ℕ) → length indexes ≡ 0 → IsConditionBy indexes table cells (codes " WHERE " ++ (all.text ++ codes " LIMIT 1"))
    of [] e = (all.text, all.such, refl)
    of (i ∷ indexes) e = absurd (omega (arith, e))

-- ---- why there is none

-- an image has the column, whose cell has no literal
pub no_value : (columns : List SqlColumn) (cells : Cells) (index : ℕ) (column : SqlColumn) (cell : CellRef) (e : NoStatement) → slice_get columns index ≡ Some column → cell_in cells index ≡ Some cell → IsMemoryOr (HasNoLiteral cell) e
    → IsMemoryOr (HasNoValue columns cells index) e
no_value columns cells index column cell e column_is cell_is (inl memory) = inl memory
no_value columns cells index column cell e column_is cell_is (inr none) = inr (record { column = column; cell = cell; column_is = column_is; cell_is = cell_is; none = none })

pub no_comparison_of : (columns : List SqlColumn) (cells : Cells) (index : ℕ) (e : NoStatement) → IsMemoryOr (HasNoValue columns cells index) e → IsMemoryOr (HasNoComparison columns cells index) e
no_comparison_of columns cells index e (inl memory) = inl memory
no_comparison_of columns cells index e (inr none) = inr (inr none)

-- the key, or all columns, are those of the condition
pub no_key : (table : SqlTable) (cells : Cells) (e : NoStatement) → 0 < length table.key.items → IsMemoryOr (HasNoKey table cells) e → IsMemoryOr (HasNoCondition table cells) e
unfolding HasNoCondition
no_key table cells e some (inl memory) = inl memory
no_key table cells e some (inr why) = inr (of table.key.items some)
  where
    of : (indexes : List ℕ) → 0 < length indexes → HasNoConditionBy indexes table cells e
    of [] few = absurd (omega (arith, few))
    of (i ∷ indexes) few = why

pub none_of_all : (table : SqlTable) (cells : Cells) (e : NoStatement) → length table.key.items ≡ 0 → IsMemoryOr (HasNoneOfAll table cells) e → IsMemoryOr (HasNoCondition table cells) e
unfolding HasNoCondition
none_of_all table cells e none (inl memory) = inl memory
none_of_all table cells e none (inr why) = inr (of table.key.items none)
  where
    of : (indexes : List ℕ) → length indexes ≡ 0 → HasNoConditionBy indexes table cells e
    of [] long = why
    of (i ∷ indexes) long = absurd (omega (arith, long))

-- ---- statements

-- a part was appended: what is to follow it is to follow the new text
on : (old new part : List ℕ) (rest : List ℕ) → new ≡ old ++ part → old ++ (part ++ rest) ≡ new ++ rest
on old new part rest e = sym (append_assoc old part rest) ∙ ap (λ (l : List ℕ). l ++ rest) (sym e)

pub inserted : (table : SqlTable) (cells : Cells) (a b c d e f g h : List ℕ) → b ≡ a ++ codes "INSERT INTO " → c ≡ b ++ table.name.items → d ≡ c ++ codes " (" → AppendsSuch (IsItemList item.Name table.columns.items cells) d e
    → f ≡ e ++ codes ") VALUES (" → AppendsSuch (IsItemList item.Value table.columns.items cells) f g → h ≡ g ++ codes ");\n" → AppendsSuch (IsInsert table cells) a h
inserted table cells a b c d e f g h begun named opened names closed values ended =
    let last = values.text ++ codes ");\n" in
    let close = codes ") VALUES (" ++ last in
    let list = names.text ++ close in
    let opening = codes " (" ++ list in
    record {
      text = codes "INSERT INTO " ++ (table.name.items ++ opening);
      such = record { names = names.text; values = values.text; names_are = names.such; values_are = values.such; text = refl };
      appended = sym (on a b (codes "INSERT INTO ") (table.name.items ++ opening) begun ∙ on b c table.name.items opening named ∙ on c d (codes " (") list opened
          ∙ on d e names.text close names.appended ∙ on e f (codes ") VALUES (") last closed ∙ on f g values.text (codes ");\n") values.appended ∙ sym ended);
    }

pub deleted : (table : SqlTable) (cells : Cells) (a b c d e : List ℕ) → b ≡ a ++ codes "DELETE FROM " → c ≡ b ++ table.name.items → AppendsSuch (IsCondition table cells) c d → e ≡ d ++ codes ";\n" → AppendsSuch (IsDelete table cells) a e
deleted table cells a b c d e begun named where_is ended =
    let last = where_is.text ++ codes ";\n" in
    record {
      text = codes "DELETE FROM " ++ (table.name.items ++ last);
      such = record { condition = where_is.text; condition_is = where_is.such; text = refl };
      appended = sym (on a b (codes "DELETE FROM ") (table.name.items ++ last) begun ∙ on b c table.name.items last named ∙ on c d where_is.text (codes ";\n") where_is.appended ∙ sym ended);
    }

pub updated : (table : SqlTable) (before after : Cells) (a b c d e f g : List ℕ) → b ≡ a ++ codes "UPDATE " → c ≡ b ++ table.name.items → d ≡ c ++ codes " SET " → AppendsSuch (IsItemList item.Assignment table.columns.items after) d e
    → AppendsSuch (IsCondition table before) e f → g ≡ f ++ codes ";\n" → AppendsSuch (IsUpdate table before after) a g
updated table before after a b c d e f g begun named opened assigned where_is ended =
    let last = where_is.text ++ codes ";\n" in
    let list = assigned.text ++ last in
    let opening = codes " SET " ++ list in
    record {
      text = codes "UPDATE " ++ (table.name.items ++ opening);
      such = record { assignments = assigned.text; condition = where_is.text; assignments_are = assigned.such; condition_is = where_is.such; text = refl };
      appended = sym (on a b (codes "UPDATE ") (table.name.items ++ opening) begun ∙ on b c table.name.items opening named ∙ on c d (codes " SET ") list opened
          ∙ on d e assigned.text last assigned.appended ∙ on e f where_is.text (codes ";\n") where_is.appended ∙ sym ended);
    }
