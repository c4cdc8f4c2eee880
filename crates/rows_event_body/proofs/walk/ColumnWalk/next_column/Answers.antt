use Rattle.std.proofs.Common.{ℕ, ◌≡◌, ◌+◌, ◌<◌, ◌≤◌, Bool, true, false, List, ◌∷◌, length, drop, sym, ap, ◌∙◌, arith}
use Rattle.std.specs.Bool.{if◌then◌else◌}
use Rattle.wire_constants.specs.ColumnTypes.{is_numeric, is_character, is_enum_or_set}
use Rattle.rows_table_map.specs.MetadataViews.{signs_left, charset_left, remaining_names}
use Rattle.rows_table_map.specs.Served.{first_item}
use Rattle.rows_table_map.specs.ColumnViews.{column_meta_view, remaining_columns}
use Rattle.rows_event_body.specs.Plans.{is_next, is_json, keys_after, after_column, name_at, count_before}
use Rattle.rows_event_body.specs.PlanViews.{name_or_empty}
use Rattle.rows_event_body.proofs.WalkLemmas.{none_left, at_prefix, after_prefix, known, sign_told, charset_told, name_passed, name_failed, none_failed, type_failed, charset_failed, column_name_failed, key_failed, column_given, count_next, signs_moved, charsets_moved, one_kind}
use Rattle.rows_event_body.proofs.walk.ColumnWalk.next_column.Goals as goal

index_fits : (n i : ℕ) → n ≤ i → i < 4294967296 → n < 4294967296
index_fits n i h f = omega arith

sum_fits : (b : Bool) (n d i : ℕ) → n ≤ i → i < 4294967296 → d ≡ (if b then 1 else 0) → n + d < 18446744073709551616
sum_fits true n d i h f e = omega arith
sum_fits false n d i h f e = omega arith

counts_one : (b : Bool) (n d i : ℕ) → n ≤ i → d ≡ (if b then 1 else 0) → n + d ≤ i + 1
counts_one true n d i h e = omega arith
counts_one false n d i h e = omega arith

one_fewer : {A : Type 0} (before after : List A) (x : A) → before ≡ x ∷ after → length after < length before
one_fewer before after x e = rw e (omega arith)

still_below : (n i : ℕ) → n ≤ i → n ≤ i + 1
still_below n i h = omega arith

pub returns-in_default-clause-json : goal.returns-in_default-clause-json
returns-in_default-clause-json c = still_below _ _ c.requires

pub returns-in_default-real_type-clause-json : goal.returns-in_default-real_type-clause-json
returns-in_default-real_type-clause-json c = still_below _ _ c.requires

pub returns-in-Err-clause-json : goal.returns-in-Err-clause-json
returns-in-Err-clause-json c = still_below _ _ c.requires

pub returns-in-Err-next_name-clause-json : goal.returns-in-Err-next_name-clause-json
returns-in-Err-next_name-clause-json c = still_below _ _ c.requires

pub returns-in-Err-next_key-clause-json : goal.returns-in-Err-next_key-clause-json
returns-in-Err-next_key-clause-json c = still_below _ _ c.requires

pub returns-in_default-clause-takes : goal.returns-in_default-clause-takes
returns-in_default-clause-takes c = λ t at. none_failed t c.args.column_index (none_left t.columns c.args.column_index (sym at.columns ∙ c.in_default.ensures.0))

pub returns-in_default-real_type-clause-takes : goal.returns-in_default-real_type-clause-takes
returns-in_default-real_type-clause-takes c = λ t at.
    type_failed t c.args.column_index (column_meta_view c.in-Some.column) c.in_default-real_type.field-0
    (at_prefix t.columns c.args.column_index (column_meta_view c.in-Some.column) (remaining_columns c.next_column.new.self) (sym at.columns ∙ c.in-Some.ensures))
    (sym c.real_type.ensures ∙ c.in_default-real_type.is)

pub returns-in-Err-clause-takes : goal.returns-in-Err-clause-takes
returns-in-Err-clause-takes c = λ t at.
    let k = known t c.args.column_index (column_meta_view c.in-Some.column) c.in-Ok.real_type (remaining_columns c.args.self.now.columns) (remaining_columns c.next_column.new.self) c.real_type.result at.columns c.in-Some.ensures c.real_type.ensures c.in-Ok.is in
    let told = charset_told t c.args.column_index c.in-Ok.real_type (charset_left c.args.self.now.charsets) (charset_left c.args.self.now.enum_charsets) at.charsets at.enum_charsets in
    charset_failed t c.args.column_index (column_meta_view c.in-Some.column) c.in-Ok.real_type c.in-Err.fault k (sym told ∙ sym c.next_character_set.ensures.value ∙ c.in-Err.is)

pub returns-in-Err-next_name-clause-takes : goal.returns-in-Err-next_name-clause-takes
returns-in-Err-next_name-clause-takes c = λ t at.
    let k = known t c.args.column_index (column_meta_view c.in-Some.column) c.in-Ok.real_type (remaining_columns c.args.self.now.columns) (remaining_columns c.next_column.new.self) c.real_type.result at.columns c.in-Some.ensures c.real_type.ensures c.in-Ok.is in
    let told = charset_told t c.args.column_index c.in-Ok.real_type (charset_left c.args.self.now.charsets) (charset_left c.args.self.now.enum_charsets) at.charsets at.enum_charsets in
    column_name_failed t c.args.column_index (column_meta_view c.in-Some.column) c.in-Ok.real_type c.in-Ok-next_character_set.character_set c.in-Err-next_name.fault k
    (sym told ∙ sym c.next_character_set.ensures.value ∙ c.in-Ok-next_character_set.is)
    (name_failed t.names c.args.column_index (remaining_names c.args.self.now.names) c.in-Err-next_name.fault (remaining_names c.next_name.new.names) at.names c.in-Err-next_name.ensures)

pub returns-in-Err-next_key-clause-takes : goal.returns-in-Err-next_key-clause-takes
returns-in-Err-next_key-clause-takes c = λ t at.
    let k = known t c.args.column_index (column_meta_view c.in-Some.column) c.in-Ok.real_type (remaining_columns c.args.self.now.columns) (remaining_columns c.next_column.new.self) c.real_type.result at.columns c.in-Some.ensures c.real_type.ensures c.in-Ok.is in
    let told = charset_told t c.args.column_index c.in-Ok.real_type (charset_left c.args.self.now.charsets) (charset_left c.args.self.now.enum_charsets) at.charsets at.enum_charsets in
    let named = name_passed t.names c.args.column_index (remaining_names c.args.self.now.names) c.in_default-next_name.field-0 (remaining_names c.next_name.new.names) at.names c.in_default-next_name.ensures in
    key_failed t c.args.column_index (column_meta_view c.in-Some.column) c.in-Ok.real_type c.in-Ok-next_character_set.character_set (name_or_empty (name_at t.names c.args.column_index)) c.in-Err-next_key.fault k
    (sym told ∙ sym c.next_character_set.ensures.value ∙ c.in-Ok-next_character_set.is) named.0
    (ap (λ l. is_next c.args.column_index (first_item l)) (sym at.keys) ∙ sym c.next_key.ensures.value ∙ c.in-Err-next_key.is)

pub returns-clause-takes : goal.returns-clause-takes
unfolding keys_after
returns-clause-takes c = λ t at.
    let i = c.args.column_index in
    let real = c.in-Ok.real_type in
    let column = column_meta_view c.in-Some.column in
    let old = c.args.self.now in
    let k = known t i column real (remaining_columns old.columns) (remaining_columns c.next_column.new.self) c.real_type.result at.columns c.in-Some.ensures c.real_type.ensures c.in-Ok.is in
    let told = charset_told t i real (charset_left old.charsets) (charset_left old.enum_charsets) at.charsets at.enum_charsets in
    let named = name_passed t.names i (remaining_names old.names) c.in_default-next_name.field-0 (remaining_names c.next_name.new.names) at.names c.in_default-next_name.ensures in
    let sign = c.next_sign-is_unsigned.ensures.value ∙ sign_told t i real (signs_left old.signs) at.signs in (
      column_given t i column real c.of_column.result c.next_sign-is_unsigned.result old.json_columns c.in-Ok-next_character_set.character_set c.in-Ok-next_key.is_key k
          sign c.of_column.ensures at.json
          (sym told ∙ sym c.next_character_set.ensures.value ∙ c.in-Ok-next_character_set.is) named.0
          (ap (λ l. is_next i (first_item l)) (sym at.keys) ∙ sym c.next_key.ensures.value ∙ c.in-Ok-next_key.is),
      record {
        columns = after_prefix t.columns i column (remaining_columns c.next_column.new.self) (sym at.columns ∙ c.in-Some.ensures);
        signs = signs_moved (is_numeric real) (count_before is_numeric t i) t.signs (signs_left old.signs) (signs_left c.next_sign-is_unsigned.new.signs) at.signs c.next_sign-is_unsigned.ensures.left
            ∙ ap (λ (n : ℕ). drop n t.signs) (sym (count_next is_numeric t i column real k));
        charsets = λ m. charsets_moved (is_character real) (count_before is_character t i) t.charset (charset_left old.charsets) (charset_left c.next_character_set.new.charsets) at.charsets c.next_character_set.ensures.charsets m
            ∙ ap (λ (n : ℕ). t.charset (n + m)) (sym (count_next is_character t i column real k));
        enum_charsets = λ m. charsets_moved (is_enum_or_set real) (count_before is_enum_or_set t i) t.enum_charset (charset_left old.enum_charsets) (charset_left c.next_character_set.new.enum_charsets) at.enum_charsets
            (λ n. c.next_character_set.ensures.enum_charsets n ∙ ap (charset_left old.enum_charsets) (one_kind real n)) m
            ∙ ap (λ (n : ℕ). t.enum_charset (n + m)) (sym (count_next is_enum_or_set t i column real k));
        names = named.1;
        keys = c.next_key.ensures.left ∙ ap (after_column i) at.keys;
        json = ap (λ (n : ℕ). n + c.json_documents.result) at.json ∙ ap (λ (n : ℕ). count_before is_json t i + n) c.json_documents.ensures ∙ sym (count_next is_json t i column real k);
      },
    )

pub overflow_cast-image : goal.overflow_cast-image
overflow_cast-image c = record { fits = index_fits _ _ c.requires c.ranges.column_index.fits }

pub overflow_add-self : goal.overflow_add-self
overflow_add-self c = record { fits = sum_fits (is_json c.in-Ok.real_type) _ _ _ c.requires c.ranges.column_index.fits c.json_documents.ensures }

pub returns-clause-json : goal.returns-clause-json
returns-clause-json c = counts_one (is_json c.in-Ok.real_type) _ _ _ c.requires c.json_documents.ensures

pub returns-clause-fewer : goal.returns-clause-fewer
returns-clause-fewer c = one_fewer _ _ _ c.in-Some.ensures
