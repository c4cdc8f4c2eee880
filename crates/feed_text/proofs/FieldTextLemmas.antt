-- The text of the cell at the start of the bytes.
use Rattle.std.proofs.Common.{◌≡◌, ◌≤◌, ◌-◌, Bor, false, ℕ, List, length, take, drop, Option, Some, None, Ok, Err, inl, inr, arith, refl, sym, ap, ◌∙◌}
use Rattle.std.proofs.lemmas.Bool.Decides.{leb_tells}
use Rattle.std.proofs.lemmas.List.{length-take-le}
use Rattle.std.specs.Option.{option_map}
use Rattle.rows_errors.specs.declared.fault.RowsError.TheVariants.{EndOfBody, Decimal as BadDecimal}
use Rattle.rows_values.specs.Decimals.{packed_size}
use Rattle.rows_errors.specs.Readings.{Reading, ◌>>=◌}
use Rattle.rows_values.specs.Unpacked.{packed_text}
use Rattle.rows_cells.specs.declared.format.CellFormat.TheVariants.{Decimal}
use Rattle.rows_cells.specs.CellSizes.{decimal_size}
use Rattle.rows_cells.specs.CellValues.{CellValue, bytes, decimal_value}
use Rattle.rows_cells.specs.Cells.{content_at, cell_at}
use Rattle.feed_writers.specs.Quoting.{quoted}
use Rattle.rows_cells.specs.declared.format.CellFormat.{CellFormat}
use Rattle.feed_text.specs.CellText.{cell_value_text}
use Rattle.feed_text.specs.FieldText.{WritesOrNone, WritesNext, Advances}

abbrev with_rest : List ℕ → CellValue → Reading (CellValue × List ℕ)
with_rest rest v = Ok (v, rest)

-- the bytes of a packed decimal are the first ones
pub record IsPackedPrefix (precision scale : ℕ) (b content : List ℕ) : Type 0 where
  pub ordered : scale ≤ precision
  pub size : length content ≡ packed_size (precision - scale) scale
  pub within : length content ≤ length b
  pub prefix : take (length content) b ≡ content

pub packed_prefix : (precision scale : ℕ) (b content rest : List ℕ) → content_at (decimal_size precision scale) b ≡ Ok (content, rest) → IsPackedPrefix precision scale b content
packed_prefix precision scale b content rest h = elim (leb_tells scale precision) [
  | inl t ↦
      let n = packed_size (precision - scale) scale in
      elim (leb_tells n (length b)) [
        | inl q ↦
            let both : (let o : Reading (List ℕ × List ℕ) = Ok (take n b, drop n b) in o ≡ Ok (content, rest)) = rw (t.0, q.0) at h in
            let pair : (let x : List ℕ × List ℕ = (take n b, drop n b) in x ≡ (content, rest)) = cc in
            let first : take n b ≡ content = ap (λ (x : List ℕ × List ℕ). x.0) pair in
            let long : length content ≡ n = ap length (sym first) ∙ length-take-le n b q.1 in
            record {
              ordered = t.1;
              size = long;
              within = omega (arith, long, q.1);
              prefix = ap (λ (k : ℕ). take k b) long ∙ first;
            }
        | inr q ↦ let none : (let o : Reading (List ℕ × List ℕ) = Err EndOfBody in o ≡ Ok (content, rest)) = rw (t.0, q.0) at h in absurd cc
      ]
  | inr t ↦ let none : (let o : Reading (List ℕ × List ℕ) = Err BadDecimal in o ≡ Ok (content, rest)) = rw t.0 at h in absurd cc
]

-- the bytes of a packed decimal are a cell of it, and its text is quoted
pub decimal_at : (precision scale : ℕ) (b content rest text : List ℕ) → content_at (decimal_size precision scale) b ≡ Ok (content, rest) → option_map quoted (packed_text precision scale content) ≡ Some text
    → (v : CellValue) × (cell_at (Decimal precision scale) b ≡ Ok (v, rest)) × (cell_value_text v ≡ Ok text)
unfolding cell_at cell_value_text
decimal_at precision scale b content rest text h q = rw h (either (packed_text precision scale content) refl q)
  where
    either : (o : Option (List ℕ)) → o ≡ packed_text precision scale content → option_map quoted o ≡ Some text → (v : CellValue) × ((decimal_value o >>= with_rest rest) ≡ Ok (v, rest)) × (cell_value_text v ≡ Ok text)
    either None e k = absurd cc
    either (Some plain) e k = let t : quoted plain ≡ text = cc in (bytes plain, refl, ap (λ s. Ok s) t)

-- the bytes after a field that was written
pub advanced : (f g : CellFormat) (b rest : List ℕ) (at : ℕ) (old new : List ℕ) (w : Option (ℕ × Bor (List ℕ))) (r : Option ℕ) → f ≡ g → WritesOrNone false g b at old new w → Advances w rest r → WritesNext f b rest at old new r
advanced f g b rest at old new (Some x) (Some end) same is next = rw (same, next.0, next.1) is
advanced f g b rest at old new (Some x) None same is next = absurd next
advanced f g b rest at old new None (Some end) same is next = absurd next
advanced f g b rest at old new None None same is next = is

pub kept_next : (f : CellFormat) (b rest : List ℕ) (at : ℕ) (text : List ℕ) → WritesNext f b rest at text text None
kept_next f b rest at text = refl
