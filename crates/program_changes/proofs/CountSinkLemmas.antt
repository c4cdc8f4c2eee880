-- What `stats` has counted, with one more transaction.
use Rattle.std.proofs.Common.{◌≡◌, ℕ, Bool, true, false, cond, List, [], ◌∷◌, ◌++◌, length, map, refl, sym, ap, subst, ◌∙◌, append_assoc, append-nil}
use Rattle.std.specs.Prelude.{◌==◌, ◌&&◌, not}
use Rattle.std.specs.List.{AllZip, filter}
use Rattle.std.proofs.lemmas.List.{length-map}
use Rattle.std.proofs.lemmas.List.Elements.{filter-append}
use Rattle.feed_transactions.specs.Changes.{Committed}
use Rattle.feed_transactions.specs.TableFilters.{takes_change as is_of_taken}
use Rattle.feed_transactions.specs.declared.table_filter.TableFilter.{TableFilter}
use Rattle.feed_change_log.specs.Filters.{table_filter_of, takes_change, takes_transaction}
use Rattle.feed_change_log.specs.declared.filter.Filter.{Filter}
use Rattle.changes_stats.specs.CountedTransactions.{AreTotals, Counted, counted, has_nothing, transaction_of}
use Rattle.changes_stats.specs.RecordedCounts.{HasCounts, IsDoneCounts, filter_of}
use Rattle.changes_stats.specs.TableSums.{named_counts}
use Rattle.changes_stats.specs.declared.recorder.StatsRecorder.{StatsRecorder}
use Rattle.changes_walks.specs.Selections.{Selected, selected, selected_of}
use Rattle.program_changes.specs.CountSinks.{CountsAll, IsCounted, has_some}
use Rattle.program_changes.specs.declared.stats.StatsSink.{StatsSink}

one_selected : (f : Filter) (t : Committed) → takes_transaction f t ≡ true → selected f (t ∷ []) ≡ selected_of f t ∷ []
unfolding selected
one_selected f t h = rw h refl

none_selected : (f : Filter) (t : Committed) → takes_transaction f t ≡ false → selected f (t ∷ []) ≡ []
unfolding selected
none_selected f t h = rw h refl

-- a transaction that isn't selected
pub counts_none : (first s : StatsSink) (f : Filter) (m : List Selected) (t : Committed) → takes_transaction f t ≡ false → CountsAll first s m → CountsAll first s (m ++ selected f (t ∷ []))
counts_none first s f m t h has = subst (CountsAll first s) (sym (ap (λ (l : List Selected). m ++ l) (none_selected f t h) ∙ append-nil m)) has

-- the newest transaction of a recorder is counted
newest_counted : (s : StatsRecorder) (f : Filter) (file : List ℕ) (t : Committed) → filter_of s ≡ table_filter_of f → IsDoneCounts s t → IsCounted file (selected_of f t) (transaction_of file s)
newest_counted s f file t same d =
    let counts = subst (λ (x : TableFilter). HasCounts s (filter (is_of_taken x) t.changes)) same d.opened.counts in
    record {
      file_is = refl;
      position = ap (λ h. h.log_pos) d.commit;
      time = ap (λ h. h.timestamp) d.commit;
      gtid_is = d.opened.gtid;
      all_rows = counts.rows.all;
      by_table = counts.rows.tables;
      statements_are = counts.statements;
    }

zip_one : (R : Selected → Counted → Type 0) (m : List Selected) (cs : List Counted) (s : Selected) (c : Counted) → AllZip R m cs → R s c → AllZip R (m ++ s ∷ []) (cs ++ c ∷ [])
zip_one R [] [] s x h k = (k, tt)
zip_one R (y ∷ m) (z ∷ cs) s x h k = (h.0, zip_one R m cs s x h.1 k)
zip_one R [] (z ∷ cs) s x h k = absurd h
zip_one R (y ∷ m) [] s x h k = absurd h

-- what is counted of it: nothing if it has neither rows nor statements
counted-is : (file : List ℕ) (s : StatsRecorder) → filter has_some (transaction_of file s ∷ []) ≡ counted file s
counted-is file s = by (length s.tables.entries == 0 && s.statements == 0) (ap (λ n. not (n == 0 && s.statements == 0)) (length-map s.tables.entries named_counts))
  where
    by : (b : Bool) → has_some (transaction_of file s) ≡ not b → cond (has_some (transaction_of file s)) (transaction_of file s ∷ []) [] ≡ cond b [] (transaction_of file s ∷ [])
    by true e = ap (λ b. cond b (transaction_of file s ∷ []) []) e
    by false e = ap (λ b. cond b (transaction_of file s ∷ []) []) e

-- one that is selected
pub counts_more : (first old new : StatsSink) (f : Filter) (m : List Selected) (t : Committed) (s : StatsRecorder) → takes_transaction f t ≡ true → filter_of s ≡ table_filter_of f → IsDoneCounts s t → CountsAll first old m → new.file.now ≡ old.file.now
    → ((l : List Counted) → AreTotals old.totals.now l → AreTotals new.totals.now (l ++ counted old.file.now s)) → CountsAll first new (m ++ selected f (t ∷ []))
counts_more first old new f m t s h same d has named adds =
    let c = transaction_of first.file.now s in
    subst (λ (l : List Selected). CountsAll first new (m ++ l)) (sym (one_selected f t h)) (record {
      name = named ∙ has.name;
      counted = has.counted ++ c ∷ [];
      are = zip_one (IsCounted first.file.now) m has.counted (selected_of f t) c has.are (newest_counted s f first.file.now t same d);
      totals_are = λ l was.
          let more = adds (l ++ filter has_some has.counted) (has.totals_are l was) in
          let file = subst (λ (n : List ℕ). AreTotals new.totals.now ((l ++ filter has_some has.counted) ++ counted n s)) has.name more in
          subst (AreTotals new.totals.now) (append_assoc l (filter has_some has.counted) (counted first.file.now s) ∙ ap (λ (r : List Counted). l ++ r) (ap (λ (r : List Counted). filter has_some has.counted ++ r) (sym (counted-is first.file.now s)) ∙ sym (filter-append has_some has.counted (c ∷ [])))) file;
    })
