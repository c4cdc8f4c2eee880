use Rattle.std.proofs.Common.{ℕ, List, map, sym, ap, inr, ◌∙◌, ◌-◌, ◌+◌}
use Rattle.rows_table_map.specs.MetadataViews.{value_view}
use Rattle.rows_table_map.proofs.EntryLemmas.{members-takes}
use Rattle.rows_table_map.proofs.MemberLemmas.{with_strings, string-read, string-failed, strings-begin, strings-end, members-are, member-kept}
use Rattle.rows_table_map.proofs.str_values.split_members.Goals as goal

pub loop-init : goal.loop-init
loop-init c = strings-begin _ _ _ (ap (map value_view) c.new-values.ensures.items)

pub returns-in-Err-clause-err : goal.returns-in-Err-clause-err
returns-in-Err-clause-err c =
    inr (members-are c.args.bytes.now _ _ _ (sym c.in_ok-count.ensures) (c.loop.invariant ∙ string-failed _ _ _ _ _ c.loop-test.true (sym c.in-Err.ensures)))

pub loop-preserved : goal.loop-preserved
loop-preserved c =
    c.loop.invariant ∙ string-read _ _ _ _ _ _ c.loop-test.true (sym c.in-Ok.ensures)
    ∙ ap (λ (l : List (List ℕ)). with_strings l (c.in_ok-count.count - (c.loop.counter + 1)) c.in-Ok.after.now) (member-kept value_view _ _ _ _ c.in_ok-push-in-Ok.ensures.items c.new.ensures)

pub returns-clause-ok : goal.returns-clause-ok
returns-clause-ok c =
    members-are c.args.bytes.now _ _ _ (sym c.in_ok-count.ensures) (c.loop.invariant ∙ strings-end _ _ _ _ c.loop-test.false)

pub returns-clause-less : goal.returns-clause-less
returns-clause-less c =
    members-takes c.args.bytes.now (map value_view c.loop.values.items, c.loop.rest.now) (members-are c.args.bytes.now _ _ _ (sym c.in_ok-count.ensures) (c.loop.invariant ∙ strings-end _ _ _ _ c.loop-test.false))
