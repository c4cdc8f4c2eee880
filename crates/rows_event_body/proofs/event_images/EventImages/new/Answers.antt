use Rattle.std.proofs.Common.{false, refl, inr, Ok, Err, ap, ◌∙◌}
use Rattle.rows_event_body.specs.RowsEventTypes.{images_of, has_partial_after}
use Rattle.rows_event_body.specs.Views.{body_of}
use Rattle.rows_event_body.proofs.ShapeLemmas.{shown_bits, no_bits, reads_image, picked_shape, or_still, first_fails, after_fails, second_fails, no_images}
use Rattle.rows_event_body.specs.ImageShapes.{table_plan}
use Rattle.rows_event_body.specs.RowImages.{image_read}
use Rattle.rows_event_body.proofs.event_images.EventImages.new.Goals as goal

pub returns-in-Ok-new-clause-ok : goal.returns-in-Ok-new-clause-ok
returns-in-Ok-new-clause-ok c =
    let r = body_of c.args.event.now in
    let partial = c.has_partial_after-is_partial.ensures ∙ ap has_partial_after c.images.ensures in
    let b = shown_bits r.columns r.before c.columns_before_image.result c.in-Some-Some.before c.columns_before_image.ensures c.in-Some-Some.is-0 in
    let a = shown_bits r.columns r.after c.columns_after_image.result c.in-Some-Some.after c.columns_after_image.ensures c.in-Some-Some.is-1 in
    rw (b.all_are, a.all_are) (
      reads_image c.args.plan.now r.columns false false r.before c.in-Some-Some.before b c.in-Ok.before refl c.in-Ok.ensures.shape c.in-Ok.ensures.definitions,
      reads_image c.args.plan.now r.columns c.has_partial_after-is_partial.result (has_partial_after (images_of r.event_type)) r.after c.in-Some-Some.after a c.in-Ok-new.after partial c.in-Ok-new.ensures.shape c.in-Ok-new.ensures.definitions,
    )

pub returns-in-Ok-new-2-clause-ok : goal.returns-in-Ok-new-2-clause-ok
returns-in-Ok-new-2-clause-ok c =
    let r = body_of c.args.event.now in
    let b = shown_bits r.columns r.before c.columns_before_image.result c.in-Some-None.before c.columns_before_image.ensures c.in-Some-None.is-0 in
    let a = no_bits r.columns r.after c.columns_after_image.result c.columns_after_image.ensures c.in-Some-None.is-1 in
    rw (b.all_are, a) (reads_image c.args.plan.now r.columns false false r.before c.in-Some-None.before b c.in-Ok-new-2.before refl c.in-Ok-new-2.ensures.shape c.in-Ok-new-2.ensures.definitions)

pub returns-in-Ok-new-3-clause-ok : goal.returns-in-Ok-new-3-clause-ok
returns-in-Ok-new-3-clause-ok c =
    let r = body_of c.args.event.now in
    let partial = c.has_partial_after-is_partial.ensures ∙ ap has_partial_after c.images.ensures in
    let b = no_bits r.columns r.before c.columns_before_image.result c.columns_before_image.ensures c.in-None-Some.is-0 in
    let a = shown_bits r.columns r.after c.columns_after_image.result c.in-None-Some.after c.columns_after_image.ensures c.in-None-Some.is-1 in
    rw (b, a.all_are) (reads_image c.args.plan.now r.columns c.has_partial_after-is_partial.result (has_partial_after (images_of r.event_type)) r.after c.in-None-Some.after a c.in-Ok-new-3.after partial c.in-Ok-new-3.ensures.shape c.in-Ok-new-3.ensures.definitions)

pub returns-in-Err-clause-err : goal.returns-in-Err-clause-err
returns-in-Err-clause-err c =
    let r = body_of c.args.event.now in
    let p = table_plan c.args.plan.now in
    let part = has_partial_after (images_of r.event_type) in
    let b = shown_bits r.columns r.before c.columns_before_image.result c.in-Some-Some.before c.columns_before_image.ensures c.in-Some-Some.is-0 in
    or_still (λ h. first_fails p r.columns part r.before r.after b.bytes c.in-Err.fault b.all_are (picked_shape p r.columns false false r.before c.in-Some-Some.before b (Err c.in-Err.fault) refl h)) c.in-Err.ensures.err

pub returns-in-Err-new-clause-err : goal.returns-in-Err-new-clause-err
returns-in-Err-new-clause-err c =
    let r = body_of c.args.event.now in
    let p = table_plan c.args.plan.now in
    let part = has_partial_after (images_of r.event_type) in
    let partial = c.has_partial_after-is_partial.ensures ∙ ap has_partial_after c.images.ensures in
    let b = shown_bits r.columns r.before c.columns_before_image.result c.in-Some-Some.before c.columns_before_image.ensures c.in-Some-Some.is-0 in
    let a = shown_bits r.columns r.after c.columns_after_image.result c.in-Some-Some.after c.columns_after_image.ensures c.in-Some-Some.is-1 in
    let first = image_read c.in-Ok.before in
    or_still
    (λ h. second_fails p r.columns part r.before r.after b.bytes a.bytes first c.in-Err-new.fault b.all_are a.all_are
    (picked_shape p r.columns false false r.before c.in-Some-Some.before b (Ok first) refl c.in-Ok.ensures.shape)
    (picked_shape p r.columns c.has_partial_after-is_partial.result part r.after c.in-Some-Some.after a (Err c.in-Err-new.fault) partial h))
    c.in-Err-new.ensures.err

pub returns-in-Err-new-2-clause-err : goal.returns-in-Err-new-2-clause-err
returns-in-Err-new-2-clause-err c =
    let r = body_of c.args.event.now in
    let p = table_plan c.args.plan.now in
    let part = has_partial_after (images_of r.event_type) in
    let b = shown_bits r.columns r.before c.columns_before_image.result c.in-Some-None.before c.columns_before_image.ensures c.in-Some-None.is-0 in
    or_still (λ h. first_fails p r.columns part r.before r.after b.bytes c.in-Err-new-2.fault b.all_are (picked_shape p r.columns false false r.before c.in-Some-None.before b (Err c.in-Err-new-2.fault) refl h)) c.in-Err-new-2.ensures.err

pub returns-in-Err-new-3-clause-err : goal.returns-in-Err-new-3-clause-err
returns-in-Err-new-3-clause-err c =
    let r = body_of c.args.event.now in
    let p = table_plan c.args.plan.now in
    let part = has_partial_after (images_of r.event_type) in
    let partial = c.has_partial_after-is_partial.ensures ∙ ap has_partial_after c.images.ensures in
    let a = shown_bits r.columns r.after c.columns_after_image.result c.in-None-Some.after c.columns_after_image.ensures c.in-None-Some.is-1 in
    or_still
    (λ h. after_fails p r.columns part r.before r.after a.bytes c.in-Err-new-3.fault (no_bits r.columns r.before c.columns_before_image.result c.columns_before_image.ensures c.in-None-Some.is-0) a.all_are
    (picked_shape p r.columns c.has_partial_after-is_partial.result part r.after c.in-None-Some.after a (Err c.in-Err-new-3.fault) partial h))
    c.in-Err-new-3.ensures.err

pub returns-in-None-None-clause-err : goal.returns-in-None-None-clause-err
returns-in-None-None-clause-err c =
    let r = body_of c.args.event.now in
    let p = table_plan c.args.plan.now in
    let part = has_partial_after (images_of r.event_type) in
    inr (no_images p r.columns part r.before r.after (no_bits r.columns r.before c.columns_before_image.result c.columns_before_image.ensures c.in-None-None.is-0) (no_bits r.columns r.after c.columns_after_image.result c.columns_after_image.ensures c.in-None-None.is-1))
