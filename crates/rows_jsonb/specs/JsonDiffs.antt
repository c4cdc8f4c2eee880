-- JSON diffs (MySQL's source: `json_diff.h`): the operation's number, the length-encoded path, and, unless the operation removes a value, a length-encoded document.
use Rattle.std.specs.Prelude.{◌≡◌, ℕ, List, [], ◌∷◌, length, take, drop, Option, Some, None, nat_le, ◌==◌, if◌then◌else◌}
use Rattle.std.specs.declared.result.Result.TheVariants.{Ok, Err}
use Rattle.wire_buf.specs.Encoding.{Encoding, Alone, Both, Then}
use Rattle.wire_buf.specs.Numbers.{IsLenencString}
use Rattle.wire_buf.specs.LenencSplit.{split_lenenc}
use Rattle.rows_errors.specs.declared.fault.RowsError.{RowsError}
use Rattle.rows_errors.specs.declared.fault.RowsError.TheVariants.{Jsonb}
use Rattle.rows_jsonb.specs.JsonbValues.{JsonbValue, malformed, document}
use Rattle.rows_errors.specs.Readings.{Reading, ◌>>=◌}
use Rattle.rows_jsonb.specs.declared.diff.JsonDiffOperation.{JsonDiffOperation}
use Rattle.rows_jsonb.specs.declared.diff.JsonDiffOperation.TheVariants.{REPLACE, INSERT, REMOVE}

abbrev pub json_diff_operation_number : JsonDiffOperation → ℕ
json_diff_operation_number REPLACE = 0
json_diff_operation_number INSERT = 1
json_diff_operation_number REMOVE = 2

-- the number of the operation in one byte
abbrev pub IsOperation : Encoding JsonDiffOperation
IsOperation op bytes rest = bytes ≡ json_diff_operation_number op ∷ []

-- a length-encoded document; the length may count more bytes than the document's value takes
pub record IsEmbedded (seen : JsonbValue) (bytes : List ℕ) : Type 0 where
  pub content : List ℕ
  pub content_is : IsLenencString content bytes
  pub value_is : document content ≡ Ok seen

-- the value of a JSON diff: a removal has none
abbrev pub IsDiffValue : JsonDiffOperation → Encoding (Option JsonbValue)
IsDiffValue REMOVE None bytes rest = bytes ≡ []
IsDiffValue REMOVE (Some s) bytes rest = ⊥
IsDiffValue op None bytes rest = ⊥
IsDiffValue op (Some s) bytes rest = IsEmbedded s bytes

-- a JSON diff: its operation, path and value
abbrev pub Diff : Type 0
Diff = JsonDiffOperation × (List ℕ × Option JsonbValue)

abbrev pub IsDiff : Encoding Diff
IsDiff = Then IsOperation (λ op. Both (Alone IsLenencString) (IsDiffValue op))

-- an error in a document
abbrev pub IsJsonbFault : RowsError → Type 0
IsJsonbFault (Jsonb e) = Unit {0}
IsJsonbFault _ = ⊥

-- The rest of this file computes what `IsDiff` states, as the law `diffs_are_read` says: the diff that bytes begin with, and the bytes after it.

-- the operation that bytes begin with, and the bytes after it
abbrev pub operation_at : List ℕ → Reading (JsonDiffOperation × List ℕ)
operation_at [] = Err malformed
operation_at (n ∷ bytes) =
    if n == 0 then Ok (REPLACE, bytes)
    else if n == 1 then Ok (INSERT, bytes)
    else if n == 2 then Ok (REMOVE, bytes)
    else Err malformed

-- the text of that length, and the bytes after it
abbrev pub text_of_length : Option (ℕ × List ℕ) → Reading (List ℕ × List ℕ)
text_of_length None = Err malformed
text_of_length (Some n) = if nat_le n.0 (length n.1) then Ok (take n.0 n.1, drop n.0 n.1) else Err malformed

-- a length-encoded text, and the bytes after it
unfoldable pub text_at : List ℕ → Reading (List ℕ × List ℕ)
text_at bytes = text_of_length (split_lenenc bytes)

-- a length-encoded document
abbrev pub embedded_at : List ℕ → Reading (Option JsonbValue × List ℕ)
embedded_at bytes = do
  content ← text_at bytes
  value ← document content.0
  Ok (Some value, content.1)

-- the new value, unless the operation removes one, and the bytes after it
abbrev pub diff_value_at : JsonDiffOperation → List ℕ → Reading (Option JsonbValue × List ℕ)
diff_value_at REMOVE bytes = Ok (None, bytes)
diff_value_at op bytes = embedded_at bytes

-- the diff that bytes begin with, and the bytes after it
unfoldable pub diff_at : List ℕ → Reading (Diff × List ℕ)
diff_at bytes = do
  op ← operation_at bytes
  path ← text_at op.1
  value ← diff_value_at op.0 path.1
  Ok ((op.0, (path.0, value.0)), value.1)
