-- Cells whose text has a maximum length by their format.
use Rattle.std.proofs.Common.{◌≡◌, ◌≤◌, ◌+◌, ◌++◌, ◌∷◌, [], ℕ, List, length, take, Option, Some, None, Ok, Err, refl, sym, ap, ◌∙◌, arith}
use Rattle.std.proofs.lemmas.List.{length-take-le, take-append-le, take-take}
use Rattle.std.specs.Option.{option_map}
use Rattle.rows_errors.specs.declared.fault.RowsError.TheVariants.{Cell, Decimal as BadDecimal}
use Rattle.rows_errors.specs.Readings.{Reading, ◌>>=◌}
use Rattle.rows_values.specs.Unpacked.{packed_text}
use Rattle.rows_cells.specs.declared.format.CellFormat.{CellFormat}
use Rattle.rows_cells.specs.declared.format.CellFormat.TheVariants.{Signed, Unsigned, Float, Double, Year, NewDate, OldTime, OldDatetime, Timestamp2, Datetime2, Time2, Decimal, Plain, Counted, Json, JsonDiffs, NoMetadata, NoCells}
use Rattle.rows_cells.specs.CellSizes.{decimal_size}
use Rattle.rows_cells.specs.CellValues.{CellValue, bytes, decimal_value}
use Rattle.rows_cells.specs.Cells.{content_at, cell_at}
use Rattle.changes_cells.specs.ShownTimes.{in_quotes}
use Rattle.changes_cells.specs.FieldJson.{IsFixed}

abbrev with_rest : List ℕ → CellValue → Reading (CellValue × List ℕ)
with_rest rest v = Ok (v, rest)

-- the decimal that the bytes begin with, in quotes
pub decimal_read : (precision scale : ℕ) (b content rest text : List ℕ) → content_at (decimal_size precision scale) b ≡ Ok (content, rest) → option_map in_quotes (packed_text precision scale content) ≡ Some text
    → (plain : List ℕ) × (cell_at (Decimal precision scale) b ≡ Ok (bytes plain, rest)) × (text ≡ in_quotes plain)
unfolding cell_at
decimal_read precision scale b content rest text h q = rw h (either (packed_text precision scale content) q)
  where
    either : (o : Option (List ℕ)) → option_map in_quotes o ≡ Some text → (plain : List ℕ) × ((decimal_value o >>= with_rest rest) ≡ Ok (bytes plain, rest)) × (text ≡ in_quotes plain)
    either None k = absurd cc
    either (Some plain) k = let t : in_quotes plain ≡ text = cc in (plain, refl, sym t)

-- there is none
pub decimal_fails : (precision scale : ℕ) (b content rest : List ℕ) → content_at (decimal_size precision scale) b ≡ Ok (content, rest) → option_map in_quotes (packed_text precision scale content) ≡ None → cell_at (Decimal precision scale) b ≡ Err BadDecimal
unfolding cell_at
decimal_fails precision scale b content rest h q = rw h (either (packed_text precision scale content) q)
  where
    either : (o : Option (List ℕ)) → option_map in_quotes o ≡ None → (decimal_value o >>= with_rest rest) ≡ Err BadDecimal
    either None k = refl
    either (Some plain) k = absurd cc

pub none_quoted : (o : Option (List ℕ)) → o ≡ None → option_map in_quotes o ≡ None
none_quoted o e = ap (option_map in_quotes) e

-- a format without other cells has none
pub unreadable : (f : CellFormat) (b : List ℕ) → IsFixed f → (f ≡ Float → ⊥) → (f ≡ Double → ⊥) → (f ≡ Year → ⊥) → (f ≡ NewDate → ⊥) → (f ≡ OldTime → ⊥) → (f ≡ OldDatetime → ⊥) → ((d : ℕ) → f ≡ Timestamp2 d → ⊥) → ((d : ℕ) → f ≡ Datetime2 d → ⊥) → ((d : ℕ) → f ≡ Time2 d → ⊥) → ((d e : ℕ) → f ≡ Decimal d e → ⊥) → (f ≡ NoMetadata → ⊥) → cell_at f b ≡ Err Cell
unfolding cell_at
unreadable (Signed w) b fixed h0 h1 h2 h3 h4 h5 h6 h7 h8 h9 h10 = absurd fixed
unreadable (Unsigned w) b fixed h0 h1 h2 h3 h4 h5 h6 h7 h8 h9 h10 = absurd fixed
unreadable (Counted w) b fixed h0 h1 h2 h3 h4 h5 h6 h7 h8 h9 h10 = absurd fixed
unreadable (Plain w) b fixed h0 h1 h2 h3 h4 h5 h6 h7 h8 h9 h10 = absurd fixed
unreadable Json b fixed h0 h1 h2 h3 h4 h5 h6 h7 h8 h9 h10 = absurd fixed
unreadable JsonDiffs b fixed h0 h1 h2 h3 h4 h5 h6 h7 h8 h9 h10 = absurd fixed
unreadable Float b fixed h0 h1 h2 h3 h4 h5 h6 h7 h8 h9 h10 = absurd (h0 refl)
unreadable Double b fixed h0 h1 h2 h3 h4 h5 h6 h7 h8 h9 h10 = absurd (h1 refl)
unreadable Year b fixed h0 h1 h2 h3 h4 h5 h6 h7 h8 h9 h10 = absurd (h2 refl)
unreadable NewDate b fixed h0 h1 h2 h3 h4 h5 h6 h7 h8 h9 h10 = absurd (h3 refl)
unreadable OldTime b fixed h0 h1 h2 h3 h4 h5 h6 h7 h8 h9 h10 = absurd (h4 refl)
unreadable OldDatetime b fixed h0 h1 h2 h3 h4 h5 h6 h7 h8 h9 h10 = absurd (h5 refl)
unreadable (Timestamp2 d) b fixed h0 h1 h2 h3 h4 h5 h6 h7 h8 h9 h10 = absurd (h6 d refl)
unreadable (Datetime2 d) b fixed h0 h1 h2 h3 h4 h5 h6 h7 h8 h9 h10 = absurd (h7 d refl)
unreadable (Time2 d) b fixed h0 h1 h2 h3 h4 h5 h6 h7 h8 h9 h10 = absurd (h8 d refl)
unreadable (Decimal d e) b fixed h0 h1 h2 h3 h4 h5 h6 h7 h8 h9 h10 = absurd (h9 d e refl)
unreadable NoMetadata b fixed h0 h1 h2 h3 h4 h5 h6 h7 h8 h9 h10 = absurd (h10 refl)
unreadable NoCells b fixed h0 h1 h2 h3 h4 h5 h6 h7 h8 h9 h10 = refl

-- the text is unchanged up to a byte that was written, and more was written after it
pub kept_before : (at start : ℕ) (old one new : List ℕ) (x : ℕ) → at ≤ length old → start ≡ at + 1 → take start one ≡ take at old ++ x ∷ [] → take start new ≡ take start one → take at new ≡ take at old
kept_before at start old one new x room next first same =
    let size : length (take at old) ≡ at = length-take-le at old room in
    sym (take-take at start new (omega (arith, next))) ∙ ap (take at) (same ∙ first) ∙ take-append-le at (take at old) (x ∷ []) (omega (arith, size)) ∙ take-take at at old (omega arith)
