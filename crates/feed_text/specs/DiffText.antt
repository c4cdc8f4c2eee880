-- The text of the feed: partial updates of JSON documents, as PARTIAL_UPDATE_ROWS_EVENT has them.
use Rattle.std.specs.Prelude.{ℕ, List, [], ◌∷◌, ◌++◌, codes, Option, Some, None}
use Rattle.std.specs.declared.result.Result.TheVariants.{Ok}
use Rattle.std.specs.List.{join_with_byte}
use Rattle.rows_jsonb.specs.JsonbValues.{JsonbValue}
use Rattle.rows_errors.specs.Readings.{Reading, ◌>>=◌}
use Rattle.rows_jsonb.specs.DocumentTrees.{tree_in}
use Rattle.rows_jsonb.specs.JsonDiffs.{Diff}
use Rattle.rows_jsonb.specs.declared.diff.JsonDiffOperation.{JsonDiffOperation}
use Rattle.rows_jsonb.specs.declared.diff.JsonDiffOperation.TheVariants.{REPLACE, INSERT, REMOVE}
use Rattle.feed_writers.specs.Quoting.{quoted}
use Rattle.feed_text.specs.JsonText.{document_text}

-- the word of an operation
abbrev pub operation_text : JsonDiffOperation → List ℕ
operation_text REPLACE = codes "replace "
operation_text INSERT = codes "insert "
operation_text REMOVE = codes "remove "

-- a space and the text of a JSON document
abbrev pub document_part : JsonbValue → Reading (List ℕ)
document_part v = tree_in v >>= λ t. Ok (32 ∷ document_text t)

-- the text of the new value, if there is one
abbrev pub value_part : Option JsonbValue → Reading (List ℕ)
value_part None = Ok []
value_part (Some v) = document_part v

-- an operation, its quoted path, and the new value, if it has one
abbrev pub diff_text : Diff → Reading (List ℕ)
diff_text d = value_part d.1.1 >>= λ v. Ok (operation_text d.0 ++ (quoted d.1.0 ++ v))

-- the text of each update, in order
unfoldable pub diff_texts : List Diff → Reading (List (List ℕ))
diff_texts [] = Ok []
diff_texts (d ∷ ds) = diff_text d >>= λ t. diff_texts ds >>= λ ts. Ok (t ∷ ts)

-- `diff[`, the texts with a comma between each two, and `]`
abbrev pub bracketed : List (List ℕ) → List ℕ
bracketed texts = codes "diff[" ++ (join_with_byte 44 texts ++ codes "]")

-- the text of all updates of a cell; an error if one has none
abbrev pub diffs_text : List Diff → Reading (List ℕ)
diffs_text ds = diff_texts ds >>= λ ts. Ok (bracketed ts)
