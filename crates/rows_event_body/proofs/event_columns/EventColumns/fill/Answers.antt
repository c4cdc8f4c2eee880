use Rattle.std.proofs.Common.{false, refl, inr, Ok, Err, ap, ◌∙◌}
use Rattle.rows_event_body.specs.RowsEventTypes.{images_of, has_partial_after}
use Rattle.rows_event_body.specs.Views.{body_of}
use Rattle.rows_event_body.specs.ImageShapes.{table_plan, shape_of}
use Rattle.rows_event_body.proofs.ShapeLemmas.{shown_bits, no_bits, picked_shape, ok_still, err_still, or_still, one_image, after_image, two_images, first_fails, after_fails, second_fails, no_images}
use Rattle.rows_event_body.proofs.event_columns.EventColumns.fill.Goals as goal

pub returns-in_default-fill-clause-ok : goal.returns-in_default-fill-clause-ok
returns-in_default-fill-clause-ok c =
    let r = body_of c.args.event.now in
    let p = table_plan c.args.plan.now in
    let part = has_partial_after (images_of r.event_type) in
    let partial = c.has_partial_after-is_partial.ensures ∙ ap has_partial_after c.images.ensures in
    let b = shown_bits r.columns r.before c.columns_before_image.result c.in-Some-Some.before c.columns_before_image.ensures c.in-Some-Some.is-0 in
    let a = shown_bits r.columns r.after c.columns_after_image.result c.in-Some-Some.after c.columns_after_image.ensures c.in-Some-Some.is-1 in
    let first = shape_of c.fill.new.self in
    let second = shape_of c.fill-in-Some-Some.new.self in
    two_images p r.columns part r.before r.after b.bytes a.bytes first second b.all_are a.all_are
    (picked_shape p r.columns false false r.before c.in-Some-Some.before b (Ok first) refl c.in_default.ensures.ok)
    (picked_shape p r.columns c.has_partial_after-is_partial.result part r.after c.in-Some-Some.after a (Ok second) partial c.in_default-fill.ensures.ok)

pub returns-in-Some-None-clause-ok : goal.returns-in-Some-None-clause-ok
returns-in-Some-None-clause-ok c =
    let r = body_of c.args.event.now in
    let p = table_plan c.args.plan.now in
    let b = shown_bits r.columns r.before c.columns_before_image.result c.in-Some-None.before c.columns_before_image.ensures c.in-Some-None.is-0 in
    let first = shape_of c.fill-in-Some-None.new.self in
    ok_still c.fill-in-Some-None.result _ _
    (λ h. one_image p r.columns (has_partial_after (images_of r.event_type)) r.before r.after b.bytes first b.all_are (no_bits r.columns r.after c.columns_after_image.result c.columns_after_image.ensures c.in-Some-None.is-1)
    (picked_shape p r.columns false false r.before c.in-Some-None.before b (Ok first) refl h))
    c.fill-in-Some-None.ensures.ok

pub returns-in-None-Some-clause-ok : goal.returns-in-None-Some-clause-ok
returns-in-None-Some-clause-ok c =
    let r = body_of c.args.event.now in
    let p = table_plan c.args.plan.now in
    let part = has_partial_after (images_of r.event_type) in
    let partial = c.has_partial_after-is_partial.ensures ∙ ap has_partial_after c.images.ensures in
    let a = shown_bits r.columns r.after c.columns_after_image.result c.in-None-Some.after c.columns_after_image.ensures c.in-None-Some.is-1 in
    let first = shape_of c.fill-in-None-Some.new.self in
    ok_still c.fill-in-None-Some.result _ _
    (λ h. after_image p r.columns part r.before r.after a.bytes first (no_bits r.columns r.before c.columns_before_image.result c.columns_before_image.ensures c.in-None-Some.is-0) a.all_are
    (picked_shape p r.columns c.has_partial_after-is_partial.result part r.after c.in-None-Some.after a (Ok first) partial h))
    c.fill-in-None-Some.ensures.ok

pub returns-in-Err-clause-err : goal.returns-in-Err-clause-err
returns-in-Err-clause-err c =
    let r = body_of c.args.event.now in
    let p = table_plan c.args.plan.now in
    let part = has_partial_after (images_of r.event_type) in
    let b = shown_bits r.columns r.before c.columns_before_image.result c.in-Some-Some.before c.columns_before_image.ensures c.in-Some-Some.is-0 in
    or_still (λ h. first_fails p r.columns part r.before r.after b.bytes c.in-Err.fault b.all_are (picked_shape p r.columns false false r.before c.in-Some-Some.before b (Err c.in-Err.fault) refl h)) c.in-Err.ensures.err

pub returns-in-Err-fill-clause-err : goal.returns-in-Err-fill-clause-err
returns-in-Err-fill-clause-err c =
    let r = body_of c.args.event.now in
    let p = table_plan c.args.plan.now in
    let part = has_partial_after (images_of r.event_type) in
    let partial = c.has_partial_after-is_partial.ensures ∙ ap has_partial_after c.images.ensures in
    let b = shown_bits r.columns r.before c.columns_before_image.result c.in-Some-Some.before c.columns_before_image.ensures c.in-Some-Some.is-0 in
    let a = shown_bits r.columns r.after c.columns_after_image.result c.in-Some-Some.after c.columns_after_image.ensures c.in-Some-Some.is-1 in
    let first = shape_of c.fill.new.self in
    or_still
    (λ h. second_fails p r.columns part r.before r.after b.bytes a.bytes first c.in-Err-fill.fault b.all_are a.all_are
    (picked_shape p r.columns false false r.before c.in-Some-Some.before b (Ok first) refl c.in_default.ensures.ok)
    (picked_shape p r.columns c.has_partial_after-is_partial.result part r.after c.in-Some-Some.after a (Err c.in-Err-fill.fault) partial h))
    c.in-Err-fill.ensures.err

pub returns-in-Some-None-clause-err : goal.returns-in-Some-None-clause-err
returns-in-Some-None-clause-err c =
    let r = body_of c.args.event.now in
    let p = table_plan c.args.plan.now in
    let part = has_partial_after (images_of r.event_type) in
    let b = shown_bits r.columns r.before c.columns_before_image.result c.in-Some-None.before c.columns_before_image.ensures c.in-Some-None.is-0 in
    err_still c.fill-in-Some-None.result _ _
    (λ e h. first_fails p r.columns part r.before r.after b.bytes e b.all_are (picked_shape p r.columns false false r.before c.in-Some-None.before b (Err e) refl h))
    c.fill-in-Some-None.ensures.err

pub returns-in-None-Some-clause-err : goal.returns-in-None-Some-clause-err
returns-in-None-Some-clause-err c =
    let r = body_of c.args.event.now in
    let p = table_plan c.args.plan.now in
    let part = has_partial_after (images_of r.event_type) in
    let partial = c.has_partial_after-is_partial.ensures ∙ ap has_partial_after c.images.ensures in
    let a = shown_bits r.columns r.after c.columns_after_image.result c.in-None-Some.after c.columns_after_image.ensures c.in-None-Some.is-1 in
    err_still c.fill-in-None-Some.result _ _
    (λ e h. after_fails p r.columns part r.before r.after a.bytes e (no_bits r.columns r.before c.columns_before_image.result c.columns_before_image.ensures c.in-None-Some.is-0) a.all_are
    (picked_shape p r.columns c.has_partial_after-is_partial.result part r.after c.in-None-Some.after a (Err e) partial h))
    c.fill-in-None-Some.ensures.err

pub returns-in-None-None-clause-err : goal.returns-in-None-None-clause-err
returns-in-None-None-clause-err c =
    let r = body_of c.args.event.now in
    let p = table_plan c.args.plan.now in
    let part = has_partial_after (images_of r.event_type) in
    inr (no_images p r.columns part r.before r.after (no_bits r.columns r.before c.columns_before_image.result c.columns_before_image.ensures c.in-None-None.is-0) (no_bits r.columns r.after c.columns_after_image.result c.columns_after_image.ensures c.in-None-None.is-1))
