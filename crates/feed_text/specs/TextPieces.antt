-- Concatenated texts.
use Rattle.std.specs.Prelude.{◌≡◌, ℕ, List}
use Rattle.std.specs.Borrow.{Bor}
use Rattle.std.specs.List.{flat_map}
use Rattle.rows_errors.specs.declared.fault.RowsError.{RowsError}
use Rattle.rows_errors.specs.declared.fault.RowsError.TheVariants.{Memory}

-- the concatenation of the texts in slices
abbrev pub pieces_text : List (Bor (List ℕ)) → List ℕ
pieces_text pieces = flat_map (λ p. p.now) pieces

-- out of memory, and nothing was written
abbrev pub IsAppendError : RowsError → List ℕ → List ℕ → Type 0
IsAppendError e old new = (e ≡ Memory) × (new ≡ old)
