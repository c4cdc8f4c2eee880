use Rattle.std.proofs.Common.{ℕ, List, ◌++◌, ◌∙◌, map, ap, subst, sym}
use Rattle.rows_table_map.specs.MapViews.{map_of}
use Rattle.feed_transactions.specs.TableFilters.{full_name}
use Rattle.changes_stats.specs.TableSums.{AddsRows, tables_in}
use Rattle.changes_stats.proofs.RecorderLemmas.{full_name-is, rows_left, rows_taken}
use Rattle.changes_stats.proofs.recorder.StatsRecorder.count.Goals as goal

pub returns-then-not-takes_table-clause-rows : goal.returns-then-not-takes_table-clause-rows
returns-then-not-takes_table-clause-rows c = λ l had.
    let database = c.database_name_raw.ensures ∙ ap (λ m. m.database) c.map-map.ensures in
    let table = c.table_name_raw.ensures ∙ ap (λ m. m.table) c.map-map.ensures in
    let takes = (rw (database, table) at c.takes_table.ensures) in
    rows_left c.args.self.now l _ _ (sym takes ∙ c.if-not-takes_table.true) had

pub returns-clause-rows : goal.returns-clause-rows
returns-clause-rows c = λ l had.
    let database = c.database_name_raw.ensures ∙ ap (λ m. m.database) c.map-map.ensures in
    let table = c.table_name_raw.ensures ∙ ap (λ m. m.table) c.map-map.ensures in
    let takes = (rw (database, table) at c.takes_table.ensures) in
    let named = full_name-is c.clear.new.self.items c.extend_from_slice.new.self.items c.push.new.self.items c.extend_from_slice-2.new.self.items c.deref.result.now (map_of c.args.table.now.map).database (map_of c.args.table.now.map).table
    c.clear.ensures.items (c.in_ok-extend_from_slice.ensures.items ∙ ap (λ n. c.clear.new.self.items ++ n) (c.database_name_raw-2.ensures ∙ ap (λ m. m.database) c.map-map.ensures)) c.in_ok-push.ensures.items
    (c.in_ok-extend_from_slice-2.ensures.items ∙ ap (λ n. c.push.new.self.items ++ n) (c.table_name_raw-2.ensures ∙ ap (λ m. m.table) c.map-map.ensures)) c.deref.ensures.value in
    let adds = subst (λ (n : List ℕ). AddsRows (tables_in c.args.self.now.tables) (tables_in c.add_rows.new.tables) (record { name = n; counts = c.args.counts })) named c.in_ok-add_rows.ensures in
    rows_taken c.args.self.now _ l (record { name = full_name (map_of c.args.table.now.map).database (map_of c.args.table.now.map).table; counts = c.args.counts }) _ (sym takes ∙ c.if-not-takes_table.false) adds c.plus-self.ensures had
