-- The counts of transactions with one more.
use Rattle.std.proofs.Common.{◌≡◌, ℕ, ◌+◌, List, [], ◌∷◌, ◌++◌, true, false, length, map, sum_by, ap, sym, subst, ◌∙◌, arith, append-nil}
use Rattle.std.specs.List.{flat_map}
use Rattle.std.proofs.lemmas.List.{map-append, length_push}
use Rattle.std.proofs.lemmas.List.Concat.{flat_map-append}
use Rattle.std.proofs.lemmas.List.Sums.{sum_by_push}
use Rattle.changes_stats.specs.CountedTransactions.{AreTotals, Counted, bytes_of, counted, counts_of, has_nothing, large, transaction_of}
use Rattle.changes_stats.specs.Courses.{IsCourse}
use Rattle.changes_stats.specs.Largest.{AreLargest}
use Rattle.changes_stats.specs.RowSums.{all_rows, sum_of_counts, with_transaction}
use Rattle.changes_stats.specs.TableSums.{AreTables}
use Rattle.changes_stats.specs.declared.recorder.StatsRecorder.{StatsRecorder}
use Rattle.changes_stats.specs.declared.totals.Totals.{Totals}
use Rattle.changes_stats.proofs.SumLemmas.{capped-more, sum_of_counts-push}

counts_of-push : (l : List Counted) (t : Counted) → with_transaction (counts_of l) t.all t.statements (bytes_of t) ≡ counts_of (l ++ t ∷ [])
counts_of-push l t =
    let transactions = capped-more (length l) 1 _ (length_push l t) in
    let statements = capped-more (sum_by (λ t. t.statements) l) t.statements _ (sum_by_push (λ (t : Counted). t.statements) l t) in
    let bytes = capped-more (sum_by bytes_of l) (bytes_of t) _ (sum_by_push bytes_of l t) in
    let rows = ap sum_of_counts (map-append (λ (t : Counted). t.all) l (t ∷ [])) ∙ sum_of_counts-push (map (λ t. t.all) l) t.all in
    cc

-- the totals with one more transaction
pub totals_with : (old s : Totals) (l : List Counted) (file : List ℕ) (newest : StatsRecorder) → has_nothing newest ≡ false → old.counts ≡ counts_of l
    → (let t = transaction_of file newest in s.counts ≡ with_transaction old.counts t.all t.statements (bytes_of t)
    → AreTables s.tables (flat_map (λ t. t.tables) l ++ t.tables)
    → AreLargest s.largest (map large l ++ large t ∷ [])
    → IsCourse s.course (map (λ t. (t.seconds, all_rows t.all)) l ++ (t.seconds, all_rows t.all) ∷ [])
    → AreTotals s (l ++ counted file newest))
totals_with old s l file newest some was counts tables largest course =
    let t = transaction_of file newest in
    let all : AreTotals s (l ++ t ∷ []) = record {
      counts = counts ∙ (ap (λ c. with_transaction c t.all t.statements (bytes_of t)) was ∙ counts_of-push l t);
      tables = subst (AreTables s.tables) (sym (flat_map-append (λ (t : Counted). t.tables) l (t ∷ []) ∙ ap (λ r. flat_map (λ t. t.tables) l ++ r) (append-nil t.tables))) tables;
      largest = subst (AreLargest s.largest) (sym (map-append large l (t ∷ []))) largest;
      course = subst (IsCourse s.course) (sym (map-append (λ (t : Counted). (t.seconds, all_rows t.all)) l (t ∷ []))) course;
    } in
    rw some all

-- a transaction with nothing
pub totals_without : (s : Totals) (l : List Counted) (file : List ℕ) (newest : StatsRecorder) → has_nothing newest ≡ true → AreTotals s l → AreTotals s (l ++ counted file newest)
totals_without s l file newest none are = rw (none, append-nil) are
