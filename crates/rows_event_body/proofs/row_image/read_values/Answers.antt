use Rattle.std.proofs.Common.{◌≡◌, ℕ, suc, ◌+◌, ◌<◌, length, ap, ◌∙◌, inl, inr, arith}
use Rattle.std.proofs.lemmas.List.{length-append}
use Rattle.std.proofs.lemmas.Result.{IfOk-from_err, err_from_is_err_and}
use Rattle.rows_event_body.proofs.ReadLemmas.{none_read, one_read, all_read, none_more}
use Rattle.rows_event_body.proofs.row_image.read_values.Goals as goal

less : (a b : ℕ) → a ≡ suc b → b < a
less a b e = omega arith

all_counted : (read left all : ℕ) → read + left ≡ all → left ≡ 0 → read ≡ all
all_counted read left all h e = omega arith

pub loop-cell-preserved : goal.loop-cell-preserved
loop-cell-preserved c =
    let takes = rw c.in-Ok-Some.field-0-is at c.in-Ok-Some.ensures in
    let grown = c.in_ok-push-in-Ok-Some.ensures.items in
    let count : length c.push.new.self.items ≡ length c.loop-cell.values.items + 1 = ap length grown ∙ length-append c.loop-cell.values.items _ in
    record {
      read = rw grown (one_read c.args.cells.now c.loop-cell.cells c.next_cell.new.self c.loop-cell.values.items c.in-Ok-Some.field-0-0-0 c.in-Ok-Some.cell c.in_ok-owned_value-in-Ok-Some.field-0 c.loop-cell.invariant.read takes.0 c.in_ok-owned_value-in-Ok-Some.ensures.ok);
      count = omega (arith, c.loop-cell.invariant.count, takes.1, count);
    }

pub loop-cell-init : goal.loop-cell-init
loop-cell-init c = record { read = none_read c.args.cells.now c.new-values.result.items c.new-values.ensures.items; count = rw c.new-values.ensures.items (omega arith) }

pub owned_value-requires : goal.owned_value-requires
owned_value-requires c = let takes = rw c.in-Ok-Some.field-0-is at c.in-Ok-Some.ensures in takes.2

pub loop-cell-smaller : goal.loop-cell-smaller
loop-cell-smaller c = let takes = rw c.in-Ok-Some.field-0-is at c.in-Ok-Some.ensures in less _ _ takes.1

pub returns-in_err-owned_value-in-Ok-Some-clause-ok : goal.returns-in_err-owned_value-in-Ok-Some-clause-ok
returns-in_err-owned_value-in-Ok-Some-clause-ok c = IfOk-from_err c.from_residual.result _ c.from_residual.ensures.0

pub returns-in_err-owned_value-in-Ok-Some-clause-count : goal.returns-in_err-owned_value-in-Ok-Some-clause-count
returns-in_err-owned_value-in-Ok-Some-clause-count c = IfOk-from_err c.from_residual.result _ c.from_residual.ensures.0

pub returns-in_err-push-in-Ok-Some-clause-ok : goal.returns-in_err-push-in-Ok-Some-clause-ok
returns-in_err-push-in-Ok-Some-clause-ok c = IfOk-from_err c.from_residual-in_err-push-in-Ok-Some.result _ c.from_residual-in_err-push-in-Ok-Some.ensures.0

pub returns-in_err-push-in-Ok-Some-clause-count : goal.returns-in_err-push-in-Ok-Some-clause-count
returns-in_err-push-in-Ok-Some-clause-count c = IfOk-from_err c.from_residual-in_err-push-in-Ok-Some.result _ c.from_residual-in_err-push-in-Ok-Some.ensures.0

pub returns-in_err-push-in-Ok-Some-clause-err : goal.returns-in_err-push-in-Ok-Some-clause-err
returns-in_err-push-in-Ok-Some-clause-err c = let p = err_from_is_err_and c.from_residual-in_err-push-in-Ok-Some.result c.from_residual-in_err-push-in-Ok-Some.ensures.1 in rw p.1 (inl p.2)

pub returns-in-Ok-None-clause-ok : goal.returns-in-Ok-None-clause-ok
returns-in-Ok-None-clause-ok c =
    let none = rw c.in-Ok-None.field-0-is at c.in-Ok-None.ensures in
    rw none.2 (all_read c.args.cells.now c.loop-cell.cells c.loop-cell.values.items c.loop-cell.invariant.read none.0)

pub returns-in-Ok-None-clause-count : goal.returns-in-Ok-None-clause-count
returns-in-Ok-None-clause-count c =
    let none = rw c.in-Ok-None.field-0-is at c.in-Ok-None.ensures in
    all_counted _ _ _ c.loop-cell.invariant.count none.1

pub returns-in-Err-clause-err : goal.returns-in-Err-clause-err
returns-in-Err-clause-err c = inr (none_more c.args.cells.now c.loop-cell.cells c.loop-cell.values.items c.in-Err.fault c.loop-cell.invariant.read c.in-Err.ensures.0)
