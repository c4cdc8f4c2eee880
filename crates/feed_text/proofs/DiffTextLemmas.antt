-- The texts of partial updates, in sequence.
use Rattle.std.proofs.Common.{◌≡◌, ℕ, List, [], ◌∷◌, ◌++◌, map, Ok, Err, refl, sym, ap, ◌∙◌, append_assoc, Option, Some, None, inl, inr}
use Rattle.std.proofs.lemmas.List.{append-nil}
use Rattle.std.specs.List.{join_with_byte}
use Rattle.rows_errors.specs.declared.fault.RowsError.{RowsError}
use Rattle.rows_errors.specs.Readings.{Reading, ◌>>=◌}
use Rattle.rows_jsonb.specs.JsonDiffs.{Diff}
use Rattle.rows_jsonb.specs.JsonDiffViews.{diff_view}
use Rattle.rows_jsonb.specs.declared.diff.JsonDiff.{JsonDiff}
use Rattle.rows_jsonb.specs.JsonParsing.{Parses}
use Rattle.rows_jsonb.specs.JsonbValues.{JsonbValue}
use Rattle.feed_writers.specs.Quoting.{quoted}
use Rattle.feed_text.specs.JsonText.{document_text}
use Rattle.feed_text.specs.DiffText.{operation_text, value_part, diff_text, diff_texts, bracketed, diffs_text}
use Rattle.feed_text.specs.DocumentForms.{Form, IsNewValueIn, IsUpdateIn, AreUpdatesIn, IsUpdatesIn, AppendsOne}
use Rattle.feed_text.specs.NamelessFaults.{HasNamelessValue, HasNamelessDiff}
use Rattle.feed_text.proofs.CellLemmas.{no_more}
use Rattle.feed_text.proofs.DocumentLemmas.{led}

pub first_update : (f : Form) (d : Diff) (ds : List Diff) (x : List ℕ) (xs : List (List ℕ)) → IsUpdateIn f d x → AreUpdatesIn f ds xs → AreUpdatesIn f (d ∷ ds) (x ∷ xs)
unfolding AreUpdatesIn
first_update f d ds x xs h e = (h, e)

pub no_updates : (f : Form) (ds : List JsonDiff) → ds ≡ [] → AreUpdatesIn f (map diff_view ds) []
unfolding AreUpdatesIn
no_updates f ds h = rw h refl

-- there is no list of texts if one of them is missing
pub no_first_text : (d : Diff) (ds : List Diff) (e : RowsError) → Parses (λ (t : List ℕ). t) (Err e) (diff_text d) → Parses (λ (ts : List (List ℕ)). ts) (Err e) (diff_texts (d ∷ ds))
unfolding diff_texts
no_first_text d ds e h = no_list (diff_text d) h
  where
    no_list : (o : Reading (List ℕ)) → Parses (λ (t : List ℕ). t) (Err e) o → Parses (λ (ts : List (List ℕ)). ts) (Err e) (o >>= λ t. diff_texts ds >>= λ ts. Ok (t ∷ ts))
    no_list o p = no_more (λ (t : List ℕ). t) e o (λ t. diff_texts ds >>= λ ts. Ok (t ∷ ts)) p

pub no_later_text : (d : Diff) (ds : List Diff) (t : List ℕ) (e : RowsError) → diff_text d ≡ Ok t → Parses (λ (ts : List (List ℕ)). ts) (Err e) (diff_texts ds) → Parses (λ (ts : List (List ℕ)). ts) (Err e) (diff_texts (d ∷ ds))
unfolding diff_texts
no_later_text d ds t e h p = rw h (no_more (λ (ts : List (List ℕ)). ts) e (diff_texts ds) (λ ts. Ok (t ∷ ts)) p)

pub no_diffs_text : (ds : List Diff) (e : RowsError) → Parses (λ (ts : List (List ℕ)). ts) (Err e) (diff_texts ds) → Parses (λ (t : List ℕ). t) (Err e) (diffs_text ds)
no_diffs_text ds e p = no_more (λ (ts : List (List ℕ)). ts) e (diff_texts ds) (λ ts. Ok (bracketed ts)) p

-- all texts were written, and what is after them
pub ended : (f : Form) (ds : List Diff) (all : List (List ℕ)) (old out separator after new : List ℕ) → AreUpdatesIn f ds all → out ++ led separator [] ≡ (old ++ f.before_updates) ++ join_with_byte 44 all → after ≡ f.after_updates → new ≡ out ++ after
    → AppendsOne (IsUpdatesIn f ds) old new
ended f ds all old out separator after new are is last written = record {
  text = f.before_updates ++ (join_with_byte 44 all ++ f.after_updates);
  such = (all, are, refl);
  appended =
      written
      ∙ ap (λ (t : List ℕ). t ++ after) (sym (append-nil out) ∙ is)
      ∙ ap (λ (t : List ℕ). ((old ++ f.before_updates) ++ join_with_byte 44 all) ++ t) last
      ∙ append_assoc (old ++ f.before_updates) (join_with_byte 44 all) f.after_updates
      ∙ append_assoc old f.before_updates (join_with_byte 44 all ++ f.after_updates);
}

-- an update that has a text in one form has one in the feed
pub in_feed : (f : Form) (d : Diff) (x : List ℕ) → IsUpdateIn f d x → (u : List ℕ) × (diff_text d ≡ Ok u)
in_feed f d x h = by_value d.1.1 h.0 h.1
  where
    by_value : (v : Option JsonbValue) (w : Option (List ℕ)) → IsNewValueIn f v w → (u : List ℕ) × ((value_part v >>= λ t. Ok (operation_text d.0 ++ (quoted d.1.0 ++ t))) ≡ Ok u)
    by_value None w k = (operation_text d.0 ++ (quoted d.1.0 ++ []), refl)
    by_value (Some v) w k = let found = k.1 in (operation_text d.0 ++ (quoted d.1.0 ++ (32 ∷ document_text k.0)), rw found refl)

pub first_nameless : (d : Diff) (ds : List Diff) → HasNamelessValue d.1.1 → HasNamelessDiff (d ∷ ds)
unfolding HasNamelessDiff
first_nameless d ds h = inl h

pub later_nameless : (d : Diff) (ds : List Diff) (t : List ℕ) → diff_text d ≡ Ok t → HasNamelessDiff ds → HasNamelessDiff (d ∷ ds)
unfolding HasNamelessDiff
later_nameless d ds t h p = inr (t, h, p)
