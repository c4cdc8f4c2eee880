use Rattle.std.proofs.Common.{List, ◌∙◌, sym, ap, subst, arith}
use Rattle.std.specs.Prelude.{All}
use Rattle.rows_table_map.specs.MapViews.{map_of}
use Rattle.changes_tables.specs.declared.shown_tables.KeptTable.{KeptTable}
use Rattle.changes_tables.specs.TablesSoFar.{IsKept}
use Rattle.changes_tables.proofs.KeptTableLemmas.{added_newest, added_shown, kept_more}
use Rattle.changes_tables.proofs.shown_tables.ShownTables.add.Goals as goal

pub returns-in_err-insert-clause-kept : goal.returns-in_err-insert-clause-kept
returns-in_err-insert-clause-kept c = λ reads keeps is. c.drop_many.ensures.kept reads keeps

pub returns-in_err-push-clause-kept : goal.returns-in_err-push-clause-kept
returns-in_err-push-clause-kept c = λ reads keeps is. subst (λ (ks : List KeptTable). All (IsKept c.drop_many.new.self.options reads) ks) (sym c.in_err-push.ensures.items) (c.drop_many.ensures.kept reads keeps)

pub returns-clause-kept : goal.returns-clause-kept
returns-clause-kept c = λ reads keeps is.
    kept_more c.args.self.now.options c.drop_many.new.self.options reads c.drop_many.new.self.tables.items c.push.new.self.items (record { map = c.in_ok-kept.kept; table = c.in_ok-table.table }) (map_of c.args.map.now)
    (c.drop_many.ensures.kept reads keeps) c.in_ok-push.ensures.items c.drop_many.ensures.options (λ m read. is m (ap reads (sym c.in_ok-kept.ensures.items) ∙ read)) c.in_ok-table.ensures

pub returns-clause-newest : goal.returns-clause-newest
returns-clause-newest c =
    added_newest c.drop_many.new.self.tables.items c.push.new.self.items (record { map = c.in_ok-kept.kept; table = c.in_ok-table.table }) c.len-index.result c.args.bytes.now c.in_ok-push.ensures.items (omega (arith, c.len-index.ensures, c.drop_many.new.self.tables.ok.0)) c.in_ok-kept.ensures.items

pub returns-clause-shown : goal.returns-clause-shown
returns-clause-shown c =
    added_shown c.args.self.now.options c.drop_many.new.self.options c.drop_many.new.self.tables.items c.push.new.self.items (record { map = c.in_ok-kept.kept; table = c.in_ok-table.table }) c.len-index.result (map_of c.args.map.now) c.in_ok-push.ensures.items (omega (arith, c.len-index.ensures, c.drop_many.new.self.tables.ok.0)) c.drop_many.ensures.options c.in_ok-table.ensures
