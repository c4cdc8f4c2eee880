-- A rows event that is shown has as many lines as its rows data has rows.
use Rattle.std.proofs.Common.{◌≡◌, ◌⊎◌, inl, inr, ℕ, suc, ◌<◌, Bool, true, false, List, [], ◌∷◌, length, Option, Some, None, Ok, Err, refl, sym, ap, subst, ◌∙◌, arith}
use Rattle.std.specs.Prelude.{◌==◌, Result}
use Rattle.std.proofs.lemmas.List.{length-map}
use Rattle.wire_buf.specs.Encoding.{Alone}
use Rattle.rows_cells.specs.Images.{ColumnValue, ImageShape}
use Rattle.rows_cells.specs.EventRows.{IsEventRow, row_at}
use Rattle.rows_cells.proofs.RowLemmas.{row-is, row-here, row-shrinks}
use Rattle.rows_jsonb.specs.Items.{Walked, Finds, items_at}
use Rattle.rows_errors.specs.Readings.{Reading, ◌>>=◌}
use Rattle.rows_jsonb.proofs.ItemLemmas.{walk_done, walk_on, items-found}
use Rattle.rows_errors.specs.declared.fault.RowsError.{RowsError}
use Rattle.rows_table_map.specs.TableMaps.{TableMap}
use Rattle.rows_event_body.specs.EventShapes.{event_rows, event_shapes, row_read}
use Rattle.rows_event_body.specs.RowsEvents.{RowsBody}
use Rattle.feed_checks.specs.declared.verdict.Verdict.{Verdict}
use Rattle.feed_transactions.specs.MappedRows.{Row, change_of, image_texts, row_texts, value_or_none, walked_texts, texts_of_rows, rows_by, rows_result, rows_in, fault_in, plan_by}
use Rattle.feed_checks.specs.Kinds.{Kind, Rows, newest_map}
use Rattle.feed_transactions.specs.Transactions.{Changed, lines_at}
use Rattle.binlog_feed.specs.RowsByMap.{AreRowsOf}

not_empty : (n : ℕ) → 0 < n → (n == 0) ≡ false
not_empty n h = search (arith, h)

-- as many texts as rows
row_texts-length : (rows : List (List (List ColumnValue))) (texts : List (List (List ℕ))) → row_texts rows ≡ Ok texts → length texts ≡ length rows
unfolding row_texts
row_texts-length [] texts h = let same : [] ≡ texts = cc in ap length (sym same)
row_texts-length (row ∷ rows) texts h = of (image_texts row) (row_texts rows) (row_texts-length rows) refl h
  where
    of : (o : Reading (List (List ℕ))) (q : Reading (List (List (List ℕ)))) → ((more : List (List (List ℕ))) → row_texts rows ≡ Ok more → length more ≡ length rows)
        → row_texts rows ≡ q → (o >>= λ own. q >>= λ more. Ok (own ∷ more)) ≡ Ok texts → length texts ≡ length (row ∷ rows)
    of (Ok own) (Ok more) hyp e h = let same : own ∷ more ≡ texts = cc in ap length (sym same) ∙ ap suc (hyp more e)
    of (Ok own) (Err v) hyp e h = cc
    of (Err v) q hyp e h = cc

-- rows that all have a text were read up to the end
walked-all : (w : Walked (List (List ColumnValue))) (texts : List (List (List ℕ))) → walked_texts w ≡ Some texts → (w.fault ≡ None) × (length texts ≡ length w.items)
walked-all w texts h = of w.fault (row_texts w.items) refl refl h
  where
    of : (o : Option RowsError) (q : Reading (List (List (List ℕ)))) → w.fault ≡ o → row_texts w.items ≡ q → ◌≡◌ {A = Option (List (List (List ℕ)))} (elim o [ None ↦ value_or_none q | Some e ↦ None ]) (Some texts)
        → (w.fault ≡ None) × (length texts ≡ length w.items)
    of None (Ok x) f e h = let same : x ≡ texts = cc in (f, row_texts-length w.items texts (e ∙ ap (λ (l : List (List (List ℕ))). Ok l) same))
    of None (Err v) f e h = cc
    of (Some v) q f e h = cc

module _ (r : RowsBody) (t : TableMap) where
  -- the property of the rows read from bytes, for this result
  abbrev HasAll : Walked (List (List ColumnValue)) → Result (List Row) Verdict → Type 0
  HasAll w o = (w.fault ≡ None) × (length (rows_in o) ≡ length w.items)

  all-of : (w : Walked (List (List ColumnValue))) (o : Option (List (List (List ℕ)))) → walked_texts w ≡ o → fault_in (rows_by r t o) ≡ None → HasAll w (rows_by r t o)
  all-of w None e h = cc
  all-of w (Some texts) e h = let all = walked-all w texts e in (all.0, length-map texts (λ images. record { on_rows = change_of r; database = t.database; table = t.table; images = images }) ∙ all.1)

  -- no bytes are no rows
  abbrev rows_of : List ℕ → Bool → Result (List Row) Verdict
  rows_of x b = elim b [ true ↦ Ok [] | false ↦ rows_by r t (walked_texts (items_at (row_read r (plan_by t)) x)) ]

  of-test : (x : List ℕ) (b : Bool) → b ≡ false → fault_in (rows_of x b) ≡ None → HasAll (items_at (row_read r (plan_by t)) x) (rows_of x b)
  of-test x true e h = cc
  of-test x false e h = all-of (items_at (row_read r (plan_by t)) x) (walked_texts (items_at (row_read r (plan_by t)) x)) refl h

  of-bytes : (x : List ℕ) → fault_in (rows_of x (length x == 0)) ≡ None → HasAll (items_at (row_read r (plan_by t)) x) (rows_of x (length x == 0))
  of-bytes [] h = (ap (λ w. w.fault) (walk_done (row_read r (plan_by t)) 0), sym (ap (λ w. length w.items) (walk_done (row_read r (plan_by t)) 0)))
  of-bytes (b ∷ x) h = of-test (b ∷ x) (length (b ∷ x) == 0) (not_empty (length (b ∷ x)) (omega arith)) h

  all-found : fault_in (rows_result (Some t) r) ≡ None → HasAll (event_rows r (plan_by t)) (rows_result (Some t) r)
  unfolding rows_result texts_of_rows
  all-found h = of-bytes r.rows_data h

  pub a-line-for-each-pair : fault_in (rows_result (Some t) r) ≡ None → length (rows_in (rows_result (Some t) r)) ≡ length (event_rows r (plan_by t)).items
  a-line-for-each-pair h = (all-found h).1

  pub pairs-to-the-end : fault_in (rows_result (Some t) r) ≡ None → (event_rows r (plan_by t)).fault ≡ None
  pairs-to-the-end h = (all-found h).0

  -- the rows that these bytes hold, if all can be read
  abbrev HasRows : List ℕ → Type 0
  HasRows x = (shapes : List ImageShape) × (event_shapes r (plan_by t) ≡ Ok shapes) × Finds (Alone (IsEventRow shapes)) (row_at shapes) (items_at (row_read r (plan_by t)) x) x

  by-shapes : (q : Reading (List ImageShape)) → event_shapes r (plan_by t) ≡ q → (x : List ℕ) → (items_at (row_read r (plan_by t)) x).fault ≡ None → (x ≡ []) ⊎ HasRows x
  by-shapes q e [] h = inl refl
  by-shapes (Ok shapes) e (b ∷ x) h =
      let reader : row_read r (plan_by t) ≡ row_at shapes = ap (λ (q : Reading (List ImageShape)). λ (bytes : List ℕ). q >>= (λ s. row_at s bytes)) e in
      inr (
        shapes,
        e,
        subst (λ (read : List ℕ → Reading (List (List ColumnValue) × List ℕ)). Finds (Alone (IsEventRow shapes)) (row_at shapes) (items_at read (b ∷ x)) (b ∷ x)) (sym reader)
            (items-found (Alone (IsEventRow shapes)) (row_at shapes) (row-here shapes) (row-is shapes) (row-shrinks shapes) (b ∷ x)),
      )
  by-shapes (Err v) e (b ∷ x) h =
      let first : row_read r (plan_by t) (b ∷ x) ≡ Err v = ap (λ (q : Reading (List ImageShape)). q >>= (λ s. row_at s (b ∷ x))) e in
      let walked = walk_on (row_read r (plan_by t)) (length x) (b ∷ x) (Err v) (omega arith) (omega arith) first in
      absurd (cc (sym h ∙ ap (λ (w : Walked (List (List ColumnValue))). w.fault) walked))

  pub rows-of-the-event : fault_in (rows_result (Some t) r) ≡ None → (r.rows_data ≡ []) ⊎ AreRowsOf t r
  rows-of-the-event h = by-shapes (event_shapes r (plan_by t)) refl r.rows_data (pairs-to-the-end h)

pub a-line-for-each-row : (past : List Kind) (r : RowsBody) → length (lines_at past (Rows r)) ≡ length (rows_in (rows_result (newest_map past r.table_id) r))
a-line-for-each-row past r = length-map (rows_in (rows_result (newest_map past r.table_id) r)) (λ row. Changed row)
