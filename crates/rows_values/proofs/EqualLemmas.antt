-- The result of `==` on columns, times and rows.
use Rattle.std.proofs.Common.{◌≡◌, Bool, true≢false, List, [], ◌∷◌, Option, Some, None, map, refl, sym, ap, rules}
use Rattle.std.proofs.lemmas.Bool.Decides.{Decides-like, Decides-and, Decides-eqb, Decides-int_eq}
use Rattle.std.specs.Bool.{Decides}
use Rattle.std.specs.Cmp.{booleans_Decides}
use Rattle.std.specs.List.{AllZip}
use Rattle.std.specs.Option.{option_eq}
use lib.Pointwise.{pointwise, bytes_decides}
use denote.Enum.Bare.{same_true, true_same}
use Rattle.wire_constants.specs.contracts.column_type.ColumnType.{the_type as column_type}
use Rattle.rows_values.specs.contracts.times.mysql_time.MysqlTimestampType.{the_type as time_type}
use Rattle.rows_values.specs.declared.rows.column.Column.{Column}
use Rattle.rows_values.specs.declared.rows.value.Value.{Value}
use Rattle.rows_values.specs.declared.rows.row.Row.{Row}
use Rattle.rows_values.specs.declared.times.mysql_time.MysqlTime.{MysqlTime}
use Rattle.rows_values.specs.Columns.{parts_of}
use Rattle.rows_values.specs.RowValues.{values_of, columns_of, SameCell}
use Rattle.rows_values.specs.Values.{SameValue}
use Rattle.rows_values.specs.contracts.rows.value.ValuePartialEq.TheImpl.{ghosts as value_equality}
use Rattle.rows_values.specs.contracts.rows.column.ColumnPartialEq.TheImpl.{ghosts as column_equality}
use Rattle.rows_values.specs.contracts.rows.row.RowPartialEq.TheImpl.{ghosts as row_equality}
use Rattle.rows_values.specs.contracts.times.mysql_time.MysqlTimePartialEq.TheImpl.{ghosts as time_equality}

pub columns_decide : (a b : Column) → Decides (column_equality.eq a b) (parts_of a ≡ parts_of b)
columns_decide a b =
    Decides-like _
    (λ w. λ i. record { column_type = w.0 i; schema = w.1.0 i; table = w.1.1.0 i; org_table = w.1.1.1.0 i; name = w.1.1.1.1.0 i; flags = record { 0 = w.1.1.1.1.1.0 i }; character_set = w.1.1.1.1.1.1 i })
    (λ e. (ap (λ p. p.column_type) e, (ap (λ p. p.schema) e, (ap (λ p. p.table) e, (ap (λ p. p.org_table) e, (ap (λ p. p.name) e, (ap (λ p. p.flags.0) e, ap (λ p. p.character_set) e)))))))
    (Decides-and _ _ (same_true column_type (search rules) a.column_type b.column_type, true_same column_type a.column_type b.column_type)
    (Decides-and _ _ (bytes_decides a.schema.items b.schema.items)
    (Decides-and _ _ (bytes_decides a.table.items b.table.items)
    (Decides-and _ _ (bytes_decides a.org_table.items b.org_table.items)
    (Decides-and _ _ (bytes_decides a.name.items b.name.items)
    (Decides-and _ _ (Decides-eqb a.flags.0 b.flags.0) (Decides-eqb a.character_set b.character_set)))))))

pub times_decide : (a b : MysqlTime) → Decides (time_equality.eq a b) (a ≡ b)
times_decide a b =
    Decides-like _
    (λ w. λ i. record {
      year = w.0 i;
      month = w.1.0 i;
      day = w.1.1.0 i;
      hour = w.1.1.1.0 i;
      minute = w.1.1.1.1.0 i;
      second = w.1.1.1.1.1.0 i;
      second_part = w.1.1.1.1.1.1.0 i;
      neg = w.1.1.1.1.1.1.1.0 i;
      time_type = w.1.1.1.1.1.1.1.1.0 i;
      time_zone_displacement = w.1.1.1.1.1.1.1.1.1 i;
    })
    (λ e. (
      ap (λ p. p.year) e,
      (
        ap (λ p. p.month) e,
        (
          ap (λ p. p.day) e,
          (
            ap (λ p. p.hour) e,
            (
              ap (λ p. p.minute) e,
              (
                ap (λ p. p.second) e,
                (
                  ap (λ p. p.second_part) e,
                  (ap (λ p. p.neg) e, (ap (λ p. p.time_type) e, ap (λ p. p.time_zone_displacement) e)),
                ),
              ),
            ),
          ),
        ),
      ),
    ))
    (Decides-and _ _ (Decides-eqb a.year b.year) (Decides-and _ _ (Decides-eqb a.month b.month) (Decides-and _ _ (Decides-eqb a.day b.day) (Decides-and _ _ (Decides-eqb a.hour b.hour)
    (Decides-and _ _ (Decides-eqb a.minute b.minute) (Decides-and _ _ (Decides-eqb a.second b.second) (Decides-and _ _ (Decides-eqb a.second_part b.second_part) (Decides-and _ _ (booleans_Decides a.neg b.neg)
    (Decides-and _ _ (same_true time_type (search rules) a.time_type b.time_type, true_same time_type a.time_type b.time_type) (Decides-int_eq a.time_zone_displacement b.time_zone_displacement))))))))))

value_decides : (a b : Value) → Decides (value_equality.eq a b) (SameValue a b)
value_decides a b = search rules

cell_decides : (a b : Option Value) → Decides (option_eq value_equality.eq a b) (SameCell a b)
cell_decides None None = (λ e. refl, λ e. refl)
cell_decides None (Some w) = (λ e. absurd (true≢false (sym e)), λ e. cc)
cell_decides (Some v) None = (λ e. absurd (true≢false (sym e)), λ e. cc)
cell_decides (Some v) (Some w) = value_decides v w

module _ {A : Type 0} (E : A → A → Bool) where
  zip_decides : (R : A → A → Type 0) → ((x y : A) → Decides (E x y) (R x y)) → (xs ys : List A) → Decides (pointwise E xs ys) (AllZip R xs ys)
  zip_decides R each [] [] = (λ e. tt, λ e. refl)
  zip_decides R each [] (y ∷ ys) = (λ e. absurd (true≢false (sym e)), λ e. absurd e)
  zip_decides R each (x ∷ xs) [] = (λ e. absurd (true≢false (sym e)), λ e. absurd e)
  zip_decides R each (x ∷ xs) (y ∷ ys) = Decides-and (E x y) (pointwise E xs ys) (each x y) (zip_decides R each xs ys)

  map_decides : {B : Type 0} (f : A → B) → ((x y : A) → Decides (E x y) (f x ≡ f y)) → (xs ys : List A) → Decides (pointwise E xs ys) (map f xs ≡ map f ys)
  map_decides f each [] [] = (λ e. refl, λ e. refl)
  map_decides f each [] (y ∷ ys) = (λ e. absurd (true≢false (sym e)), λ e. cc)
  map_decides f each (x ∷ xs) [] = (λ e. absurd (true≢false (sym e)), λ e. cc)
  map_decides f each (x ∷ xs) (y ∷ ys) =
      Decides-like _ (λ w. let first = w.0 in let rest = w.1 in cc) (λ e. (cc, cc)) (Decides-and (E x y) (pointwise E xs ys) (each x y) (map_decides f each xs ys))

pub rows_decide : (a b : Row) → Decides (row_equality.eq a b) (AllZip SameCell (values_of a) (values_of b) × (map parts_of (columns_of a) ≡ map parts_of (columns_of b)))
rows_decide a b =
    Decides-and _ _ (zip_decides (option_eq value_equality.eq) SameCell cell_decides (values_of a) (values_of b))
    (map_decides column_equality.eq parts_of columns_decide (columns_of a) (columns_of b))
