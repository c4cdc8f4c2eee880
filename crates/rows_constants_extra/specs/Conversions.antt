-- How numbers wider than a byte are converted to constants of one byte, the sequence numbers of GTIDs, and types whose constants have distinct numbers.
use Rattle.std.specs.Prelude.{◌≡◌, ◌≢◌, ◌<◌, ◌≤◌, ◌^◌, ℕ, min, Result, Ok, Err}
use Rattle.rows_constants_extra.specs.declared.gno.Gno.{Gno}
use Rattle.rows_constants_extra.specs.declared.gno.InvalidGno.{InvalidGno}

-- The result for a number is the constant that has it; if no constant has it, an error that holds the number or, above 255, 255.
abbrev pub IsByteConstantOf : {C E : Type 0} → (C → ℕ) → (E → ℕ) → ℕ → Result C E → Type 0
IsByteConstantOf number failed n (Ok constant) = number constant ≡ n
IsByteConstantOf {C} number failed n (Err unknown) = (failed unknown ≡ min n 255) × ((constant : C) → number constant ≢ n)

-- the sequence number of a transaction
abbrev pub gno_number : Gno → ℕ
gno_number gno = gno.0

-- A number up to 2 ^ 63 - 1 is a sequence number; a greater one is an error that holds the number.
abbrev pub IsGnoOf : ℕ → Result Gno InvalidGno → Type 0
IsGnoOf n (Ok gno) = (gno_number gno ≡ n) × (n < 2 ^ 63)
IsGnoOf n (Err invalid) = (invalid.0 ≡ n) × (2 ^ 63 ≤ n)

-- no two constants have the same number
abbrev pub AreDistinct : {C : Type 0} → (C → ℕ) → Type 0
AreDistinct {C} number = (a b : C) → number a ≡ number b → a ≡ b
