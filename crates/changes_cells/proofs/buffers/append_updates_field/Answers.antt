use Rattle.std.proofs.Common.{refl, inl, inr, sym}
use Rattle.rows_cells.specs.declared.format.CellFormat.TheVariants.{JsonDiffs}
use Rattle.feed_text.specs.Buffers.{text_in}
use Rattle.changes_cells.proofs.FieldLemmas.{updates_appended, updates_fail, kept_appended, kept_unchanged}
use Rattle.changes_cells.proofs.buffers.append_updates_field.Goals as goal

pub returns-in-Ok-put_diffs-clause-ok : goal.returns-in-Ok-put_diffs-clause-ok
returns-in-Ok-put_diffs-clause-ok g c = λ view. updates_appended view JsonDiffs c.args.bytes.now (text_in c.args.text.now) _ c.in-Ok-JsonDiffs-default.rest.now c.in-Ok-JsonDiffs-default.updates.now (rw c.in-Ok-JsonDiffs-default.field-0-0-is at c.in-Ok-JsonDiffs-default.ensures.value) c.in-Ok-put_diffs.ensures.ok

pub returns-in-Ok-put_diffs-clause-kept : goal.returns-in-Ok-put_diffs-clause-kept
returns-in-Ok-put_diffs-clause-kept g c = kept_appended (text_in c.args.text.now) _ _ c.in-Ok-put_diffs.ensures.ok.text.appended

pub returns-in-Err-put_diffs-clause-err : goal.returns-in-Err-put_diffs-clause-err
returns-in-Err-put_diffs-clause-err g c = updates_fail c.in-Err-put_diffs.fault JsonDiffs c.args.bytes.now _ _ c.in-Ok-JsonDiffs-default.rest.now c.in-Ok-JsonDiffs-default.updates.now (rw c.in-Ok-JsonDiffs-default.field-0-0-is at c.in-Ok-JsonDiffs-default.ensures.value) c.in-Err-put_diffs.ensures.err

pub returns-in-Err-put_diffs-clause-kept : goal.returns-in-Err-put_diffs-clause-kept
returns-in-Err-put_diffs-clause-kept g c = kept_unchanged (text_in c.args.text.now) _ c.in-Err-put_diffs.ensures.err.1

pub returns-in-Ok : goal.returns-in-Ok
returns-in-Ok g c = record { ok = tt; err = inl refl; kept = kept_unchanged (text_in c.args.text.now) _ refl }

pub returns-in-Err-clause-err : goal.returns-in-Err-clause-err
returns-in-Err-clause-err g c = inr (inl (sym c.in-Err.ensures.value))

pub returns-in-Err-clause-kept : goal.returns-in-Err-clause-kept
returns-in-Err-clause-kept g c = kept_unchanged (text_in c.args.text.now) _ refl
