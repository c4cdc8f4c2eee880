use Rattle.std.proofs.Common.{arith, ap, length}
use Rattle.feed_text.proofs.ImageTextLemmas.{none_written, field_written, prefix_stays}
use Rattle.feed_text.proofs.images.put_fields.Goals as goal
use Rattle.feed_text.proofs.images.put_fields.Goals.{in-Some+in_default-put_field, in_default}

pub returns-then-text-at : goal.returns-then-text-at
returns-then-text-at c = none_written c.args.cells c.args.at c.args.text.now c.requires

pub loop-field-init : goal.loop-field-init
loop-field-init c = record {
  writes = none_written c.args.cells c.args.at c.args.text.now c.requires;
  room = let many = c.len.ensures in omega (arith, many, c.if-text-at.false, c.requires);
}

pub put_label-start-requires : goal.put_label-start-requires
put_label-start-requires c =
    let room = c.loop-field.invariant.room in
    let some = c.in-Some.ensures.some.some in
    omega (arith, room, some)

pub put_field-requires : goal.put_field-requires
put_field-requires c =
    let room = c.loop-field.invariant.room in
    let some = c.in-Some.ensures.some.some in
    omega (arith, room, some, c.put_label-start.ensures.most)

pub loop-field-smaller : goal.loop-field-smaller
loop-field-smaller c = let one = c.skip_field.ensures.cell.1 in omega (arith, one)

pub loop-field-preserved : goal.loop-field-preserved
loop-field-preserved c =
    let w = c.in-Some-put_field.ensures in
    let most = w.most in
    let room = c.loop-field.invariant.room in
    let some = c.in-Some.ensures.some.some in
    let one = c.skip_field.ensures.cell.1 in
    record {
      writes = field_written c.args.cells c.loop-field.left c.skip_field.new.self c.in-Some.field c.args.at c.loop-field.end c.put_label-start.result c.in-Some-put_field.after c.args.text.now c.loop-field.text c.put_label-start.new.text c.put_field.new.text c.in-Some-put_field.rest.now c.loop-field.invariant.writes c.in-Some.ensures.some c.put_label-start.ensures.text w c.skip_field.ensures.cell (omega (arith, room, some, most, c.put_label-start.ensures.most));
      room = omega (arith, room, one, most, c.put_label-start.ensures.most);
    }

pub returns : goal.returns
returns c =
    elim c.match-next_plain_field.branch [
      | in_default w ↦ rw w.text-is c.loop-field.invariant.writes
      | in-Some+in_default-put_field w ↦
          rw w.text-is (prefix_stays c.args.cells c.loop-field.left c.args.at c.loop-field.end w.put_label-start.result w.in-Some.field.column c.args.text.now c.loop-field.text w.put_label-start.new.text w.put_field.new.text c.loop-field.invariant.writes w.put_label-start.ensures.from w.put_label-start.ensures.text w.in_default-put_field.ensures (let within = c.loop-field.invariant.writes.within in omega (arith, within, ap length w.text-is)))
    ]
