use Rattle.std.proofs.Common.{◌≡◌, [], ◌∙◌, refl, sym, ap, le_refl, map, length, take}
use Rattle.std.proofs.lemmas.List.{take_all, length-map}
use Rattle.std.proofs.lemmas.Result.{IfOk-from_err, err_from_is_err_and}
use Rattle.rows_table_map.specs.MetadataViews.{value_view}
use Rattle.rows_table_map.proofs.MemberWriteLemmas.{member_written, members_written, members_kept, count_fails, strings_none}
use Rattle.rows_table_map.proofs.str_values.append_members.Goals as goal

pub returns-in_err-serialize-clause-ok : goal.returns-in_err-serialize-clause-ok
returns-in_err-serialize-clause-ok g c = IfOk-from_err c.from_residual.result _ c.from_residual.ensures.0

pub returns-in_err-serialize-clause-err : goal.returns-in_err-serialize-clause-err
returns-in_err-serialize-clause-err g c =
    let p = err_from_is_err_and c.from_residual.result c.from_residual.ensures.1 in
    rw p.1 (p.2 ∙ count_fails _ _ _ _ c.in_err-serialize.ensures.err)

pub returns-in_err-serialize-clause-kept : goal.returns-in_err-serialize-clause-kept
returns-in_err-serialize-clause-kept g c = rw c.in_err-serialize.ensures.err.unchanged (take_all _ _ (le_refl _))

pub loop-value-init : goal.loop-value-init
loop-value-init g c = strings_none [] _ refl

pub returns-in_err-serialize-2-clause-ok : goal.returns-in_err-serialize-2-clause-ok
returns-in_err-serialize-2-clause-ok g c = IfOk-from_err c.from_residual-in_err-serialize-2.result _ c.from_residual-in_err-serialize-2.ensures.0

pub returns-in_err-serialize-2-clause-err : goal.returns-in_err-serialize-2-clause-err
returns-in_err-serialize-2-clause-err g c =
    let p = err_from_is_err_and c.from_residual-in_err-serialize-2.result c.from_residual-in_err-serialize-2.ensures.1 in
    rw p.1 (p.2 ∙ c.in_err-serialize-2.ensures.err.0)

pub returns-in_err-serialize-2-clause-kept : goal.returns-in_err-serialize-2-clause-kept
returns-in_err-serialize-2-clause-kept g c =
    ap (take _) c.in_err-serialize-2.ensures.err.1 ∙ members_kept _ _ _ _ _ c.in_ok-serialize.ensures.ok c.loop-value.invariant

pub returns-clause-kept : goal.returns-clause-kept
returns-clause-kept g c = members_kept _ _ _ _ _ c.in_ok-serialize.ensures.ok c.loop-value.invariant

pub loop-value-preserved : goal.loop-value-preserved
loop-value-preserved g c =
    member_written value_view c.args.values.now c.loop-value.value-index c.value-item.result c.value_raw.result.now _ _ _
    c.loop-value-test.true c.value-item.is c.value_raw.ensures c.loop-value.invariant c.in_ok-serialize-2.ensures.ok

pub returns-clause-ok : goal.returns-clause-ok
returns-clause-ok g c =
    let xs = c.args.values.now in
    let whole : take c.loop-value.value-index xs ≡ xs = take_all _ _ c.loop-value-test.false in
    members_written (length xs) (map value_view xs) _ _ _ (sym (length-map xs value_view)) c.in_ok-serialize.ensures.ok (rw whole at c.loop-value.invariant)
