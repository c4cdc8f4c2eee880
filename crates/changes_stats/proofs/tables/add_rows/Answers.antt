use Rattle.std.proofs.Common.{rules}
use Rattle.changes_stats.proofs.TableRowsLemmas.{changed_rows, new_rows}
use Rattle.changes_stats.proofs.tables.add_rows.Goals as goal

pub returns-in-Some : goal.returns-in-Some
returns-in-Some c =
    changed_rows c.args.tables.now (c.get_mut.follows.lender c.plus.result) c.args.name.now c.in-Some.so_far.now c.plus.result c.args.counts (search rules) c.plus.ensures (c.get_mut.follows.holds _).0

pub returns : goal.returns
returns c =
    new_rows c.args.tables.now c.get_mut.follows.lender-at-none c.insert.new.self c.in_ok-from_slice.field-0 c.args.name.now c.plus-counts.result c.args.counts (search rules) c.in_ok-from_slice.ensures.items (search rules) c.plus-counts.ensures c.in_ok-insert.ensures.entries
