use Rattle.std.proofs.Common.{refl, inl, inr, sym}
use Rattle.rows_cells.specs.declared.format.CellFormat.TheVariants.{Json}
use Rattle.feed_text.specs.Buffers.{text_in}
use Rattle.changes_cells.proofs.FieldLemmas.{document_appended, document_fails, kept_appended, kept_unchanged}
use Rattle.changes_cells.proofs.buffers.append_document_field.Goals as goal

pub returns-in-Ok-put_document-clause-ok : goal.returns-in-Ok-put_document-clause-ok
returns-in-Ok-put_document-clause-ok g c = λ view. document_appended view Json c.args.bytes.now (text_in c.args.text.now) _ c.in-Ok-Json-default.rest.now c.in-Ok-Json-default.document.now (rw c.in-Ok-Json-default.field-0-0-is at c.in-Ok-Json-default.ensures.value) c.in-Ok-put_document.ensures.ok

pub returns-in-Ok-put_document-clause-kept : goal.returns-in-Ok-put_document-clause-kept
returns-in-Ok-put_document-clause-kept g c = kept_appended (text_in c.args.text.now) _ _ c.in-Ok-put_document.ensures.ok.text.appended

pub returns-in-Err-put_document-clause-err : goal.returns-in-Err-put_document-clause-err
returns-in-Err-put_document-clause-err g c = document_fails c.in-Err-put_document.fault Json c.args.bytes.now _ _ c.in-Ok-Json-default.rest.now c.in-Ok-Json-default.document.now (rw c.in-Ok-Json-default.field-0-0-is at c.in-Ok-Json-default.ensures.value) c.in-Err-put_document.ensures.err

pub returns-in-Err-put_document-clause-kept : goal.returns-in-Err-put_document-clause-kept
returns-in-Err-put_document-clause-kept g c = kept_unchanged (text_in c.args.text.now) _ c.in-Err-put_document.ensures.err.1

pub returns-in-Ok : goal.returns-in-Ok
returns-in-Ok g c = record { ok = tt; err = inl refl; kept = kept_unchanged (text_in c.args.text.now) _ refl }

pub returns-in-Err-clause-err : goal.returns-in-Err-clause-err
returns-in-Err-clause-err g c = inr (inl (sym c.in-Err.ensures.value))

pub returns-in-Err-clause-kept : goal.returns-in-Err-clause-kept
returns-in-Err-clause-kept g c = kept_unchanged (text_in c.args.text.now) _ refl
