-- Transactions as JSON lines (docs/FORMAT.md, "JSON lines").
use Rattle.std.specs.Prelude.{◌≡◌, ℕ, true, false, List, [], ◌∷◌, ◌++◌}
use Rattle.std.specs.List.{concat, flat_map}
use Rattle.changes_resume.specs.KeptJson.{is_last_line}
use Rattle.changes_resume.specs.LineKeepers.{EndsLine}

-- lines of which none is the last of its transaction
abbrev pub AreOpening : List (List ℕ) → Type 0
AreOpening [] = Unit {0}
AreOpening (line ∷ lines) = (EndsLine line × (is_last_line line ≡ false)) × AreOpening lines

-- the lines of a transaction: the last of them, and no other, ends it
pub record IsTransaction (lines : List (List ℕ)) : Type 0 where
  pub opening : List (List ℕ)
  pub last : List ℕ
  pub is : lines ≡ opening ++ last ∷ []
  pub are_opening : AreOpening opening
  pub last_is_line : EndsLine last
  pub last_ends : is_last_line last ≡ true

abbrev pub AreTransactions : List (List (List ℕ)) → Type 0
AreTransactions [] = Unit {0}
AreTransactions (t ∷ ts) = IsTransaction t × AreTransactions ts

-- the lines of transactions
abbrev pub lines_of : List (List (List ℕ)) → List (List ℕ)
lines_of ts = flat_map (λ t. t) ts

-- the text of transactions
abbrev pub text_of : List (List (List ℕ)) → List ℕ
text_of ts = concat (lines_of ts)
