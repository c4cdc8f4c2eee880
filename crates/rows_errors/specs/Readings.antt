-- The result of reading: a value or an error.
use Rattle.std.specs.declared.result.Result.{Result}
use Rattle.std.specs.declared.result.Result.TheVariants.{Ok, Err}
use Rattle.rows_errors.specs.declared.fault.RowsError.{RowsError}

-- the result of reading: a value, or why there is none
abbrev pub Reading : Type 0 → Type 0
Reading A = Result A RowsError

-- the step f applied to the value; an error stays
infixl 10 ◌>>=◌
abbrev pub ◌>>=◌ : {A B : Type 0} → Reading A → (A → Reading B) → Reading B
(Ok x) >>= f = f x
(Err e) >>= f = Err e

-- a result with f applied to its value
abbrev pub map_reading : {A B : Type 0} → (A → B) → Result A RowsError → Reading B
map_reading f (Ok x) = Ok (f x)
map_reading f (Err e) = Err e
