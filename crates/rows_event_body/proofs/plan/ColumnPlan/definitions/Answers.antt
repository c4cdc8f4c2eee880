use Rattle.std.proofs.Common.{Ok, map, sym, ap, ◌∙◌, refl, inl, inr, rules}
use Rattle.std.proofs.lemmas.Result.{IfOk-from_err, err_from_is_err_and}
use Rattle.rows_table_map.specs.BitLists.{bit_at}
use Rattle.rows_values.specs.Columns.{parts_of}
use Rattle.rows_table_map.specs.Lists.{strings}
use Rattle.rows_event_body.specs.PickedColumns.{definition, picked_as}
use Rattle.rows_event_body.specs.PlanViews.{planned}
use Rattle.rows_event_body.proofs.PickedLemmas.{next_named, next_defined, all_defined}
use Rattle.rows_event_body.proofs.plan.ColumnPlan.definitions.Goals as goal

pub returns-in-Err-clause-err : goal.returns-in-Err-clause-err
returns-in-Err-clause-err c = inr (ap (planned c.args.self.now.run) (sym c.len.ensures) ∙ sym c.in-Err.ensures)

pub returns-in-Err-clause-failed : goal.returns-in-Err-clause-failed
returns-in-Err-clause-failed c = rw (← c.len.ensures, ← c.in-Err.ensures) refl

pub loop-column_index-init : goal.loop-column_index-init
loop-column_index-init c = record { defined = rw c.new-definitions.ensures.items refl; named = c.names-names.ensures }

pub returns-in_err-define-clause-ok : goal.returns-in_err-define-clause-ok
returns-in_err-define-clause-ok c = IfOk-from_err c.from_residual.result _ c.from_residual.ensures.0

pub returns-in_err-define-clause-err : goal.returns-in_err-define-clause-err
returns-in_err-define-clause-err c = let p = err_from_is_err_and c.from_residual.result c.from_residual.ensures.1 in rw p.1 (inl p.2)

pub returns-in_err-define-clause-failed : goal.returns-in_err-define-clause-failed
returns-in_err-define-clause-failed c = rw (← c.len.ensures, ← c.in-Ok.ensures) tt

pub loop-column_index-preserved : goal.loop-column_index-preserved
loop-column_index-preserved c =
    let names = strings c.args.self.now.run.names.items in
    let named = next_named names c.loop-column_index.column_index c.loop-column_index.names c.next-name.new.self c.next-name.result c.loop-column_index.invariant.named c.next-name.ensures.steps in
    let step = c.in_ok-define.ensures in
    record {
      defined = next_defined (definition c.args.self.now.database.items c.args.self.now.table.items) (bit_at c.args.bits) names c.in-Ok.image.now c.loop-column_index.column_index _ _ _ _ _ (search rules) named.0 c.loop-column_index.invariant.defined step;
      named = named.1;
    }

pub bounds-image-column_index : goal.bounds-image-column_index
bounds-image-column_index c = c.loop-column_index-test.true

pub returns-clause-failed : goal.returns-clause-failed
returns-clause-failed c = rw (← c.len.ensures, ← c.in-Ok.ensures) tt

pub returns-clause-ok : goal.returns-clause-ok
returns-clause-ok c =
    let known = ap (planned c.args.self.now.run) (sym c.len.ensures) ∙ sym c.in-Ok.ensures in
    let defined = definition c.args.self.now.database.items c.args.self.now.table.items in
    ap (picked_as defined (bit_at c.args.bits)) known
    ∙ ap Ok (all_defined defined (bit_at c.args.bits) (strings c.args.self.now.run.names.items) c.in-Ok.image.now c.loop-column_index.column_index (map parts_of c.loop-column_index.definitions.items) _ c.loop-column_index-test.false c.loop-column_index.invariant.defined)
