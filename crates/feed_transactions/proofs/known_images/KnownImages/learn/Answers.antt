use Rattle.std.proofs.Common.{◌++◌, ℕ, List, length, Ok, sym, ap, ◌∙◌}
use Rattle.rows_event_body.specs.EventColumnViews.{shapes_of}
use Rattle.rows_event_body.specs.Views.{body_of}
use Rattle.rows_event_body.specs.ImageShapes.{table_plan}
use Rattle.rows_event_body.specs.declared.event_columns.EventColumns.{EventColumns}
use Rattle.rows_event_body.specs.declared.rows_event_type.RowImages.{RowImages}
use Rattle.feed_transactions.specs.MappedRows.{change_by}
use Rattle.feed_transactions.specs.RowTexts.{change_word}
use Rattle.feed_transactions.proofs.KnownImageLemmas.{known_kept}
use Rattle.feed_transactions.proofs.RowLineLemmas.{columns_error}
use Rattle.feed_transactions.proofs.known_images.KnownImages.learn.Goals as goal

pub returns-in-Err-clause-err : goal.returns-in-Err-clause-err
returns-in-Err-clause-err c = columns_error _ c.in-Err.fault _ c.row_verdict.ensures c.in-Err.ensures.err

pub returns-in_err-keep_fields-clause-known : goal.returns-in_err-keep_fields-clause-known
returns-in_err-keep_fields-clause-known c =
    let names = c.args.names.now in
    let shapes = c.in_default.ensures.ok ∙ ap (λ (cs : EventColumns). Ok (shapes_of cs)) (sym c.keep_fields.ensures.columns) in
    let begins = ap (λ v. v.items) c.keep_fields.ensures.start ∙ c.in_ok-extend_from_slice-2.ensures.items
    ∙ ap (λ (l : List ℕ). l ++ names) (c.in_ok-extend_from_slice.ensures.items ∙ ap (λ (l : List ℕ). l ++ c.change_word.result.now) c.clear.ensures.items ∙ c.change_word.ensures)
    ∙ ap (λ (i : RowImages). change_word (change_by i) ++ names) c.images.ensures in
    known_kept c.in-Some.usual (body_of c.args.rows.now) (table_plan c.args.plan.now) _ names _ _ _ _ (c.requires c.in-Some.usual c.in-Some.is) shapes begins (ap (λ (l : List ℕ). length l) c.rows_data.ensures) c.keep_fields.ensures.fields

pub returns-in_ok-keep_fields-clause-known : goal.returns-in_ok-keep_fields-clause-known
returns-in_ok-keep_fields-clause-known c =
    let names = c.args.names.now in
    let shapes = c.in_default.ensures.ok ∙ ap (λ (cs : EventColumns). Ok (shapes_of cs)) (sym c.keep_fields.ensures.columns) in
    let begins = ap (λ v. v.items) c.keep_fields.ensures.start ∙ c.in_ok-extend_from_slice-2.ensures.items
    ∙ ap (λ (l : List ℕ). l ++ names) (c.in_ok-extend_from_slice.ensures.items ∙ ap (λ (l : List ℕ). l ++ c.change_word.result.now) c.clear.ensures.items ∙ c.change_word.ensures)
    ∙ ap (λ (i : RowImages). change_word (change_by i) ++ names) c.images.ensures in
    known_kept c.in-Some.usual (body_of c.args.rows.now) (table_plan c.args.plan.now) _ names _ _ _ _ (c.requires c.in-Some.usual c.in-Some.is) shapes begins (ap (λ (l : List ℕ). length l) c.rows_data.ensures) c.keep_fields.ensures.fields
