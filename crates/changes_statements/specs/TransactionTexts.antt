-- The statements of transactions, as a client sends them (MySQL Reference Manual, "START TRANSACTION, COMMIT, and ROLLBACK Statements").
use Rattle.std.specs.Prelude.{ℕ, Bool, List, [], ◌∷◌, ◌++◌, codes, reverse, if◌then◌else◌}
use Rattle.feed_checks.specs.LogFormat.{joined}

-- what comes before all statements: text in UTF-8, times in UTC, and values as they are
unfoldable pub session : List ℕ
session = codes "SET NAMES utf8mb4;\nSET SESSION time_zone = '+00:00';\nSET SESSION sql_mode = 'NO_AUTO_VALUE_ON_ZERO,ALLOW_INVALID_DATES';\n"

-- the texts that take a transaction back, by the statements that take its changes back in their order
abbrev pub texts_back : List ℕ → List (List ℕ) → List (List ℕ)
texts_back heading statements = heading ∷ codes "BEGIN;\n" ∷ (reverse statements ++ codes "COMMIT;\n" ∷ [])

-- the text of a transaction: its statements in their order
abbrev pub text_forth : List ℕ → Bool → List (List ℕ) → List ℕ
text_forth heading has_rows statements =
    heading ++ ((if has_rows then codes "BEGIN;\n" else []) ++ (joined statements ++ (if has_rows then codes "COMMIT;\n" else [])))

-- all that takes transactions back, by the texts that do
abbrev pub undo_text : List (List ℕ) → List ℕ
undo_text [] = []
undo_text (text ∷ texts) = session ++ (text ++ joined texts)
