-- What `==` means for fields.
use Rattle.std.proofs.Common.{◌≡◌, ℕ, zero, suc, ◌+◌, Bool, true, false, true≢false, List, ◌∷◌, refl, sym, ap, ◌∙◌}
use Rattle.std.proofs.lemmas.Bool.Decides.{Decides-like, Decides-and, Decides-eqb}
use Rattle.std.specs.Cmp.{booleans_Decides}
use Rattle.std.specs.Bool.{Decides, beq}
use lib.Pointwise.{pointwise, pointwise_decides, bytes_decides}
use Rattle.rows_table_map.specs.BitLists.{bit_of, len_of, list_from, bit_list}
use Rattle.rows_table_map.specs.declared.bits.Bits.{Bits}
use Rattle.rows_table_map.specs.MetadataFields.{Field, bits_from, signedness, default_charset, column_charset, column_name, set_str_value, enum_str_value, geometry_types, simple_primary_key, primary_key_with_prefix, enum_and_set_default_charset, enum_and_set_column_charset, column_visibility, dimensionality}
use Rattle.rows_table_map.specs.MetadataViews.{field_view, bits_view, default_charset_view}
use Rattle.rows_table_map.specs.declared.charsets.DefaultCharset.{DefaultCharset}
use Rattle.rows_table_map.specs.declared.field.OptionalMetadataField.{OptionalMetadataField}
use Rattle.rows_table_map.specs.declared.field.OptionalMetadataField.TheVariants as made
use Rattle.rows_table_map.specs.contracts.charsets.DefaultCharsetPartialEq.TheImpl.{ghosts as charset_equality}
use Rattle.rows_table_map.specs.contracts.field.OptionalMetadataFieldPartialEq.TheImpl.{ghosts as field_equality}

-- the two definitions of a list of bits agree
same_list : (f : ℕ → Bool) (k n : ℕ) → list_from f k n ≡ bits_from f k n
unfolding list_from bits_from
same_list f k zero = refl
same_list f k (suc n) = ap (λ rest. f k ∷ rest) (same_list f (k + 1) n)

same_view : (b : Bits) → bit_list b ≡ bits_view b
same_view b = same_list (bit_of b) 0 (len_of b)

bits_decide : (a b : Bits) → Decides (pointwise beq (bit_list a) (bit_list b)) (bits_view a ≡ bits_view b)
bits_decide a b =
    Decides-like _ (λ e. sym (same_view a) ∙ e ∙ same_view b) (λ e. same_view a ∙ e ∙ sym (same_view b)) (pointwise_decides booleans_Decides (bit_list a) (bit_list b))

charsets_decide : (a b : DefaultCharset) → Decides (charset_equality.eq a b) (default_charset_view a ≡ default_charset_view b)
charsets_decide a b =
    Decides-like _ (λ w. λ i. (w.0 i, w.1 i)) (λ e. (ap (λ p. p.0) e, ap (λ p. p.1) e))
    (Decides-and _ _ (Decides-eqb a.default_charset b.default_charset) (bytes_decides a.non_default.now b.non_default.now))

pub fields_decide : (a b : OptionalMetadataField) → Decides (field_equality.eq a b) (field_view a ≡ field_view b)
fields_decide (made.Signedness a) (made.Signedness b) = Decides-like _ (λ e. ap signedness e) (λ e. cc) (bits_decide a b)
fields_decide (made.DefaultCharset a) (made.DefaultCharset b) = Decides-like _ (λ e. ap default_charset e) (λ e. cc) (charsets_decide a b)
fields_decide (made.ColumnCharset a) (made.ColumnCharset b) = Decides-like _ (λ e. ap column_charset e) (λ e. cc) (bytes_decides a.charsets.now b.charsets.now)
fields_decide (made.ColumnName a) (made.ColumnName b) = Decides-like _ (λ e. ap column_name e) (λ e. cc) (bytes_decides a.names.now b.names.now)
fields_decide (made.SetStrValue a) (made.SetStrValue b) = Decides-like _ (λ e. ap set_str_value e) (λ e. cc) (bytes_decides a.values.now b.values.now)
fields_decide (made.EnumStrValue a) (made.EnumStrValue b) = Decides-like _ (λ e. ap enum_str_value e) (λ e. cc) (bytes_decides a.values.now b.values.now)
fields_decide (made.GeometryType a) (made.GeometryType b) = Decides-like _ (λ e. ap geometry_types e) (λ e. cc) (bytes_decides a.geometry_types.now b.geometry_types.now)
fields_decide (made.SimplePrimaryKey a) (made.SimplePrimaryKey b) = Decides-like _ (λ e. ap simple_primary_key e) (λ e. cc) (bytes_decides a.indexes.now b.indexes.now)
fields_decide (made.PrimaryKeyWithPrefix a) (made.PrimaryKeyWithPrefix b) = Decides-like _ (λ e. ap primary_key_with_prefix e) (λ e. cc) (bytes_decides a.keys.now b.keys.now)
fields_decide (made.EnumAndSetDefaultCharset a) (made.EnumAndSetDefaultCharset b) = Decides-like _ (λ e. ap enum_and_set_default_charset e) (λ e. cc) (charsets_decide a b)
fields_decide (made.EnumAndSetColumnCharset a) (made.EnumAndSetColumnCharset b) = Decides-like _ (λ e. ap enum_and_set_column_charset e) (λ e. cc) (bytes_decides a.charsets.now b.charsets.now)
fields_decide (made.ColumnVisibility a) (made.ColumnVisibility b) = Decides-like _ (λ e. ap column_visibility e) (λ e. cc) (bits_decide a b)
fields_decide (made.Dimensionality a) (made.Dimensionality b) = Decides-like _ (λ e. ap dimensionality e) (λ e. cc) (bytes_decides a.dimensionalities.now b.dimensionalities.now)
fields_decide a b = (λ e. absurd (true≢false (sym e)), λ e. cc)
