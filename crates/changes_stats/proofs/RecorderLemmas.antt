-- What a recorder has after one more change.
use Rattle.std.proofs.Common.{◌≡◌, ℕ, ◌+◌, Bool, true, false, cond, List, [], ◌∷◌, ◌++◌, length, map, filter, Option, Ok, refl, ap, sym, subst, ◌∙◌, append-nil, append_assoc}
use Rattle.std.proofs.lemmas.List.{map-append, length_push}
use Rattle.std.proofs.lemmas.List.Concat.{flat_map-append}
use Rattle.std.proofs.lemmas.List.Elements.{filter-append}
use Rattle.events_frames.specs.Headers.{Header}
use Rattle.events_frames.specs.QueryTexts.{StatementTexts}
use Rattle.rows_table_map.specs.TableMaps.{TableMap}
use Rattle.rows_cells.specs.Images.{ImageShape}
use Rattle.rows_event_body.specs.EventShapes.{event_shapes}
use Rattle.rows_event_body.specs.RowsEvents.{RowsBody}
use Rattle.rows_event_body.specs.RowsEventTypes.{images_of}
use Rattle.rows_event_body.specs.declared.rows_event_type.RowImages.{RowImages}
use Rattle.feed_checks.specs.Kinds.{Gtid}
use Rattle.feed_transactions.specs.Changes.{EventChange, OfRows, OfStatement}
use Rattle.feed_transactions.specs.CheckedRows.{rows_count}
use Rattle.feed_transactions.specs.KeptGtids.{kept_gtid}
use Rattle.feed_transactions.specs.MappedRows.{plan_by}
use Rattle.feed_transactions.specs.TableFilters.{full_name, takes_change, takes_database, takes_table}
use Rattle.changes_stats.specs.RecordedCounts.{CountsRows, HasCounts, HasRows, IsOpenCounts, changes_counts, content_counts, is_statement, rows_by, rows_in}
use Rattle.changes_stats.specs.RowSums.{capped, of_event, plus, sum_of_counts}
use Rattle.changes_stats.specs.TableSums.{AddsRows, NamedCounts, tables_in}
use Rattle.changes_stats.specs.declared.counts.RowCounts.{RowCounts}
use Rattle.changes_stats.specs.declared.recorder.StatsRecorder.{StatsRecorder}
use Rattle.changes_stats.proofs.SumLemmas.{capped-more, sum_of_counts-none, sum_of_counts-push}

-- no changes
pub no_counts : (s : StatsRecorder) → s.tables.entries ≡ [] → s.all ≡ record { inserted = 0; deleted = 0; updated = 0; bytes = 0 } → s.statements ≡ 0 → HasCounts s []
no_counts s tables all statements = record {
  rows = record { all = all ∙ sym sum_of_counts-none; tables = λ name. rw tables refl };
  statements = statements;
}

-- rows that the filter doesn't take
pub rows_left : (s : StatsRecorder) (l : List NamedCounts) (t : NamedCounts) (b : Bool) → b ≡ false → HasRows s l → HasRows s (l ++ cond b (t ∷ []) [])
rows_left s l t b e rows = subst (HasRows s) (sym (ap (λ b. l ++ cond b (t ∷ []) []) e ∙ append-nil l)) rows

-- rows that it takes
pub rows_taken : (old new : StatsRecorder) (l : List NamedCounts) (t : NamedCounts) (b : Bool) → b ≡ true → AddsRows (tables_in old.tables) (tables_in new.tables) t → new.all ≡ plus old.all t.counts → HasRows old l
    → HasRows new (l ++ cond b (t ∷ []) [])
rows_taken old new l t b e adds all rows =
    let more : HasRows new (l ++ t ∷ []) = record {
      all = all ∙ (ap (λ a. plus a t.counts) rows.all ∙ (sym (sum_of_counts-push (map (λ t. t.counts) l) t.counts) ∙ ap sum_of_counts (sym (map-append (λ (t : NamedCounts). t.counts) l (t ∷ [])))));
      tables = adds l rows.tables;
    } in
    subst (HasRows new) (sym (ap (λ b. l ++ cond b (t ∷ []) []) e)) more

-- the number of an event's rows, as they were checked
pub rows_in-is : (r : RowsBody) (m : TableMap) (known shapes : List ImageShape) (bytes : List ℕ) → event_shapes r (plan_by m) ≡ Ok known → shapes ≡ known → bytes ≡ r.rows_data → rows_count shapes bytes ≡ rows_in m r
rows_in-is r m known shapes bytes planned same rows = ap (λ s. rows_count s bytes) same ∙ (ap (rows_count known) rows ∙ sym (ap (λ s. rows_by s r.rows_data) planned))

counts_of_one : (l : List EventChange) (x : EventChange) → changes_counts (l ++ x ∷ []) ≡ changes_counts l ++ (content_counts x.header.event_size x.content ++ [])
counts_of_one l x = flat_map-append (λ (c : EventChange). content_counts c.header.event_size c.content) l (x ∷ [])

statements_of_one : (l : List EventChange) (x : EventChange) (b : Bool) → is_statement x.content ≡ b → filter (λ c. is_statement c.content) (l ++ x ∷ []) ≡ filter (λ c. is_statement c.content) l ++ cond b (x ∷ []) []
statements_of_one l x b e = filter-append (λ (c : EventChange). is_statement c.content) l (x ∷ []) ∙ ap (λ b. filter (λ c. is_statement c.content) l ++ cond b (x ∷ []) []) e

-- one more change of rows, which the filter takes or doesn't
with_rows : (old new : StatsRecorder) (l : List EventChange) (x : EventChange) (t : NamedCounts) → content_counts x.header.event_size x.content ≡ t ∷ [] → is_statement x.content ≡ false → new.statements ≡ old.statements → HasCounts old l
    → (b : Bool) → HasRows new (changes_counts l ++ cond b (t ∷ []) []) → HasCounts new (l ++ cond b (x ∷ []) [])
with_rows old new l x t is other statements has true rows = record {
  rows = subst (HasRows new) (sym (counts_of_one l x ∙ ap (λ r. changes_counts l ++ (r ++ [])) is)) rows;
  statements = statements ∙ (has.statements ∙ ap (λ r. capped (length r)) (sym (statements_of_one l x false other ∙ append-nil (filter (λ c. is_statement c.content) l))));
}
with_rows old new l x t is other statements has false rows = subst (HasCounts new) (sym (append-nil l)) (record {
  rows = subst (HasRows new) (append-nil (changes_counts l)) rows;
  statements = statements ∙ has.statements;
})

-- the rows of an event
pub open_rows : (old new : StatsRecorder) (g : Option Gtid) (l : List EventChange) (h : Header) (m : TableMap) (r : RowsBody) → new.gtid ≡ old.gtid → new.filter ≡ old.filter → new.statements ≡ old.statements
    → CountsRows old new m (of_event (images_of r.event_type) (rows_in m r) h.event_size) → IsOpenCounts old g l → IsOpenCounts new g (l ++ record { header = h; content = OfRows m r } ∷ [])
open_rows old new g l h m r gtid same statements counts was =
    let x : EventChange = record { header = h; content = OfRows m r } in
    let t : NamedCounts = record { name = full_name m.database m.table; counts = of_event (images_of r.event_type) (rows_in m r) h.event_size } in
    let taken = filter (takes_change old.filter) l in
    let more = with_rows old new taken x t refl refl statements was.counts (takes_table old.filter m.database m.table) (counts (changes_counts taken) was.counts.rows) in
    record {
      gtid = ap kept_gtid gtid ∙ was.gtid;
      counts = subst (λ f. HasCounts new (filter (takes_change f) (l ++ x ∷ []))) (sym same) (subst (HasCounts new) (sym (filter-append (takes_change old.filter) l (x ∷ []))) more);
    }

-- a statement that the filter doesn't take
pub open_passed : (s : StatsRecorder) (g : Option Gtid) (l : List EventChange) (h : Header) (q : StatementTexts) → takes_database s.filter q.schema ≡ false → IsOpenCounts s g l → IsOpenCounts s g (l ++ record { header = h; content = OfStatement q } ∷ [])
open_passed s g l h q other was =
    let x : EventChange = record { header = h; content = OfStatement q } in
    let same : filter (takes_change s.filter) (l ++ x ∷ []) ≡ filter (takes_change s.filter) l = filter-append (takes_change s.filter) l (x ∷ []) ∙ (ap (λ b. filter (takes_change s.filter) l ++ cond b (x ∷ []) []) other ∙ append-nil (filter (takes_change s.filter) l)) in
    record { gtid = was.gtid; counts = subst (HasCounts s) (sym same) was.counts }

-- a statement that it takes
pub open_statement : (old new : StatsRecorder) (g : Option Gtid) (l : List EventChange) (h : Header) (q : StatementTexts) → new.gtid ≡ old.gtid → new.filter ≡ old.filter → new.all ≡ old.all → new.tables ≡ old.tables → new.statements ≡ capped (old.statements + 1)
    → takes_database old.filter q.schema ≡ true → IsOpenCounts old g l → IsOpenCounts new g (l ++ record { header = h; content = OfStatement q } ∷ [])
open_statement old new g l h q gtid filtered all tables statements takes was =
    let x : EventChange = record { header = h; content = OfStatement q } in
    let taken = filter (takes_change old.filter) l in
    let more : filter (takes_change old.filter) (l ++ x ∷ []) ≡ taken ++ x ∷ [] = filter-append (takes_change old.filter) l (x ∷ []) ∙ ap (λ b. taken ++ cond b (x ∷ []) []) takes in
    let rows : HasRows new (changes_counts taken) = record { all = all ∙ was.counts.rows.all; tables = λ name. rw tables (was.counts.rows.tables name) } in
    let has : HasCounts new (taken ++ x ∷ []) = record {
      rows = subst (HasRows new) (sym (counts_of_one taken x ∙ append-nil (changes_counts taken))) rows;
      statements = statements ∙ (ap (λ n. capped (n + 1)) was.counts.statements ∙ sym (capped-more (length (filter (λ c. is_statement c.content) taken)) 1 _ (ap length (statements_of_one taken x true refl) ∙ length_push (filter (λ c. is_statement c.content) taken) x)));
    } in
    record {
      gtid = ap kept_gtid gtid ∙ was.gtid;
      counts = subst (λ f. HasCounts new (filter (takes_change f) (l ++ x ∷ []))) (sym filtered) (subst (HasCounts new) (sym more) has);
    }

-- the counts of the rows of an event
pub event_counts : (a b : RowImages) (n m x y : ℕ) → a ≡ b → n ≡ m → x ≡ y → of_event a n x ≡ of_event b m y
event_counts a b n m x y images rows bytes = ap (λ i. of_event i n x) images ∙ (ap (λ k. of_event b k x) rows ∙ ap (λ z. of_event b m z) bytes)

-- rows were counted by a recorder with the same rows and the same filter
pub counts_same : (old before new : StatsRecorder) (m n : TableMap) (c d : RowCounts) → before.all ≡ old.all → before.tables ≡ old.tables → before.filter ≡ old.filter → n ≡ m → d ≡ c → CountsRows before new n d → CountsRows old new m c
counts_same old before new m n c d all tables filtered map_is counts_are counts l had =
    let given = counts l (record { all = all ∙ had.all; tables = λ name. rw tables (had.tables name) }) in
    subst (λ c. HasRows new (l ++ cond (takes_table old.filter m.database m.table) (record { name = full_name m.database m.table; counts = c } ∷ []) [])) counts_are
    (subst (λ m. HasRows new (l ++ cond (takes_table old.filter m.database m.table) (record { name = full_name m.database m.table; counts = d } ∷ []) [])) map_is
    (subst (λ f. HasRows new (l ++ cond (takes_table f n.database n.table) (record { name = full_name n.database n.table; counts = d } ∷ []) [])) filtered given))

-- the full name of a table, in four steps
pub full_name-is : (none first second all named database table : List ℕ) → none ≡ [] → first ≡ none ++ database → second ≡ first ++ 46 ∷ [] → all ≡ second ++ table → named ≡ all → named ≡ full_name database table
full_name-is none first second all named database table begins with_database with_point with_table is =
    is ∙ (with_table ∙ (ap (λ s. s ++ table) (with_point ∙ ap (λ s. s ++ 46 ∷ []) (with_database ∙ ap (λ s. s ++ database) begins)) ∙ append_assoc database (46 ∷ []) table))
