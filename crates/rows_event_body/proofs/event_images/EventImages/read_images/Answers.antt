use Rattle.std.proofs.Common.{[], ◌∷◌}
use Rattle.rows_event_body.proofs.PairLemmas.{before_read, after_read, both_read, first_fails, second_fails}
use Rattle.rows_event_body.specs.RowImages.{image_read}
use Rattle.rows_event_body.proofs.event_images.EventImages.read_images.Goals as goal

pub returns-in-Ok-clause-ok : goal.returns-in-Ok-clause-ok
returns-in-Ok-clause-ok c = rw c.in-Before.is (before_read c.in-Before.image c.args.bytes.now c.in-Ok.rest.now c.in-Ok.row c.in-Ok.ensures.ok)

pub returns-in-Ok-read-clause-ok : goal.returns-in-Ok-read-clause-ok
returns-in-Ok-read-clause-ok c = rw c.in-After.is (after_read c.in-After.image c.args.bytes.now c.in-Ok-read.rest.now c.in-Ok-read.row c.in-Ok-read.ensures.ok)

pub returns-in-Ok-read-3-clause-ok : goal.returns-in-Ok-read-3-clause-ok
returns-in-Ok-read-3-clause-ok c =
    rw c.in-Both.is (both_read c.in-Both.before c.in-Both.after c.args.bytes.now c.in-Ok-read-2.read.1.now c.in-Ok-read-3.rest.now c.in-Ok-read-2.read.0 c.in-Ok-read-3.second c.in-Ok-read-2.ensures.ok c.in-Ok-read-3.ensures.ok)

pub returns-in-Err-clause-err : goal.returns-in-Err-clause-err
returns-in-Err-clause-err c = rw c.in-Before.is (first_fails (image_read c.in-Before.image) [] c.args.bytes.now c.in-Err.fault c.in-Err.ensures.err)

pub returns-in-Err-read-clause-err : goal.returns-in-Err-read-clause-err
returns-in-Err-read-clause-err c = rw c.in-After.is (first_fails (image_read c.in-After.image) [] c.args.bytes.now c.in-Err-read.fault c.in-Err-read.ensures.err)

pub returns-in-Err-read-2-clause-err : goal.returns-in-Err-read-2-clause-err
returns-in-Err-read-2-clause-err c = rw c.in-Both.is (first_fails (image_read c.in-Both.before) (image_read c.in-Both.after ∷ []) c.args.bytes.now c.in-Err-read-2.fault c.in-Err-read-2.ensures.err)

pub returns-in-Err-read-3-clause-err : goal.returns-in-Err-read-3-clause-err
returns-in-Err-read-3-clause-err c =
    rw c.in-Both.is (second_fails c.in-Both.before c.in-Both.after c.args.bytes.now c.in-Ok-read-2.read.1.now c.in-Ok-read-2.read.0 c.in-Err-read-3.fault c.in-Ok-read-2.ensures.ok c.in-Err-read-3.ensures.err)
