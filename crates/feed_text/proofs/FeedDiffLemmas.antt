-- The updates of the form of the feed have the feed's texts.
use Rattle.std.proofs.Common.{◌≡◌, ℕ, List, [], ◌∷◌, ◌++◌, Ok, Option, Some, None, refl, ap, ◌∙◌}
use Rattle.std.proofs.lemmas.List.{append-nil}
use Rattle.rows_errors.specs.Readings.{◌>>=◌}
use Rattle.rows_jsonb.specs.JsonbValues.{JsonbValue}
use Rattle.rows_jsonb.specs.JsonDiffs.{Diff}
use Rattle.feed_writers.specs.Quoting.{quoted}
use Rattle.feed_text.specs.CellText.{Appends}
use Rattle.feed_text.specs.DiffText.{operation_text, value_part, diff_text, diff_texts, diffs_text}
use Rattle.feed_text.specs.DocumentForms.{IsNewValueIn, IsUpdateIn, AreUpdatesIn, IsUpdatesIn, AppendsOne}
use Rattle.feed_text.specs.FeedDocuments.{feed_form, update_text}
use Rattle.feed_text.proofs.FeedDocumentLemmas.{document_is}

update_is : (d : Diff) (x : List ℕ) → IsUpdateIn feed_form d x → diff_text d ≡ Ok x
update_is d x h = by_value d.1.1 h.0 h.1 h.2
  where
    by_value : (v : Option JsonbValue) (w : Option (List ℕ)) → IsNewValueIn feed_form v w → x ≡ update_text d.0 d.1.0 w → (value_part v >>= λ t. Ok (operation_text d.0 ++ (quoted d.1.0 ++ t))) ≡ Ok x
    by_value None w k is = rw (is, k) (ap (λ (t : List ℕ). Ok (operation_text d.0 ++ t)) (append-nil (quoted d.1.0)))
    by_value (Some v) w k is = let found = k.1 in let y = k.2 in let same = document_is k.0 y.0 y.1 in rw (is, y.2, found, same) refl

updates_are : (ds : List Diff) (xs : List (List ℕ)) → AreUpdatesIn feed_form ds xs → diff_texts ds ≡ Ok xs
unfolding AreUpdatesIn diff_texts
updates_are [] xs h = rw h refl
updates_are (d ∷ ds) [] h = absurd h
updates_are (d ∷ ds) (x ∷ xs) h = let one = update_is d x h.0 in let rest = updates_are ds xs h.1 in rw (one, rest) refl

-- the text of all updates was appended
pub updates_appended : (ds : List Diff) (old new : List ℕ) → AppendsOne (IsUpdatesIn feed_form ds) old new → Appends (diffs_text ds) old new
updates_appended ds old new h =
    let all = h.such in
    let found = updates_are ds all.0 all.1 in
    rw found (h.appended ∙ ap (λ (x : List ℕ). old ++ x) all.2)
