-- Consecutive items up to the end of the bytes, and the walk that finds them up to the first item that can't be read.
use Rattle.std.specs.Prelude.{◌≡◌, ◌<◌, ◌++◌, ℕ, zero, suc, List, [], ◌∷◌, length, Option, Some, None, ◌==◌, if◌then◌else◌}
use Rattle.std.specs.declared.result.Result.{Result}
use Rattle.std.specs.declared.result.Result.TheVariants.{Ok, Err}
use Rattle.wire_buf.specs.Encoding.{Encoding}
use Rattle.rows_errors.specs.declared.fault.RowsError.{RowsError}
use Rattle.rows_errors.specs.Readings.{Reading}

-- consecutive items
abbrev pub AreItemsEncoded : {A : Type 0} → Encoding A → Encoding (List A)
AreItemsEncoded encodes [] bytes rest = bytes ≡ []
AreItemsEncoded encodes (v ∷ vs) bytes rest =
    (own : List ℕ) × (more : List ℕ) × (bytes ≡ own ++ more) × encodes v own (more ++ rest) × AreItemsEncoded encodes vs more rest

-- the items found, and the error that ended the walk, if any
pub record Walked (A : Type 0) : Type 0 where
  pub items : List A
  pub fault : Option RowsError

-- no bytes remain, or the remaining bytes don't begin with an item
abbrev pub WalkEndsAt : {A : Type 0} → (List ℕ → Reading (A × List ℕ)) → Option RowsError → List ℕ → Type 0
WalkEndsAt item_at None rest = rest ≡ []
WalkEndsAt item_at (Some e) rest = (0 < length rest) × (item_at rest ≡ Err e)

-- the result of `walk`, as the laws state it: consecutive items up to the end or to the first item that can't be read
pub record Finds {A : Type 0} (encodes : A → List ℕ → List ℕ → Type 0) (item_at : List ℕ → Reading (A × List ℕ)) (found : Walked A) (bytes : List ℕ) : Type 0 where
  pub own : List ℕ
  pub rest : List ℕ
  pub parts : bytes ≡ own ++ rest
  pub items_are : AreItemsEncoded encodes found.items own rest
  pub stops : WalkEndsAt item_at found.fault rest

-- an item, and the items found after it
abbrev pub prepend_item : {A : Type 0} → A → Walked A → Walked A
prepend_item v w = record { items = v ∷ w.items; fault = w.fault }

-- no item and the error, or the item and those that `more` finds after it
abbrev pub found_by : {A : Type 0} → Reading (A × List ℕ) → (List ℕ → Walked A) → Walked A
found_by (Err e) more = record { items = []; fault = Some e }
found_by (Ok x) more = prepend_item x.0 (more x.1)

-- the result of a walk of at most n items
unfoldable pub walk : {A : Type 0} → (List ℕ → Reading (A × List ℕ)) → ℕ → List ℕ → Walked A
walk item_at zero bytes = record { items = []; fault = None }
walk item_at (suc n) bytes = if length bytes == 0 then record { items = []; fault = None } else found_by (item_at bytes) (λ rest. walk item_at n rest)

-- the items of bytes: no item is empty, so there are at most as many items as bytes
abbrev pub items_at : {A : Type 0} → (List ℕ → Reading (A × List ℕ)) → List ℕ → Walked A
items_at item_at bytes = walk item_at (length bytes) bytes

-- these items, up to the end of the bytes, without an error
abbrev pub all_found : {A : Type 0} → List A → Walked A
all_found vs = record { items = vs; fault = None }

-- the bytes after an item
abbrev pub after_item : {A : Type 0} → Reading (A × List ℕ) → Reading (List ℕ)
after_item (Ok x) = Ok x.1
after_item (Err e) = Err e

-- the error of a call, if it failed
abbrev pub error_of : {A : Type 0} → Result A RowsError → Option RowsError
error_of (Ok x) = None
error_of (Err e) = Some e
