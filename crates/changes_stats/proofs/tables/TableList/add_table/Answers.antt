use Rattle.std.proofs.Common.{◌≡◌, Some, None, rules, refl}
use Rattle.changes_stats.specs.TableSums.{total_at}
use Rattle.changes_stats.proofs.NamedLemmas.{sums_with}
use Rattle.changes_stats.proofs.tables.TableList.add_table.Goals as goal

pub returns-in-Some : goal.returns-in-Some
returns-in-Some c = λ l.
    let at : total_at c.args.self.now.totals c.args.name.now ≡ Some c.in-Some.table.now = search rules in
    sums_with c.args.self.now.totals c.args.self.now.totals (c.get_mut.follows.lender (record { number = c.in-Some.table.now.number; counts = c.plus-table.result; transactions = c.saturating_add-table.result })) _ c.args.name.now c.args.counts _ l refl refl ((c.get_mut.follows.holds _).3 (search rules)) (rw (at, c.plus-table.ensures, c.saturating_add-table.ensures) refl)

pub returns : goal.returns
returns c = λ l.
    let at : total_at c.args.self.now.totals c.args.name.now ≡ None = search rules in
    sums_with c.args.self.now.totals c.get_mut.follows.lender-at-none c.insert.new.self c.in_ok-from_slice-2.field-0.items c.args.name.now c.args.counts _ l (search rules) (search rules) c.in_ok-insert.ensures.updates (rw (at, c.plus.ensures) refl)
