use Rattle.std.proofs.Common.{refl, arith, rules}
use Rattle.changes_lines.proofs.WriteLemmas.{none_first, one_first}
use Rattle.changes_lines.proofs.lines.RowsInRoomWritingInRoom.put.Goals as goal

pub loop-rows-init : goal.loop-rows-init
loop-rows-init c = record { within = search (arith, rules); text = none_first c.args.self _ }

pub loop-rows-preserved : goal.loop-rows-preserved
loop-rows-preserved c = record {
  within = search (arith, rules);
  text =
      one_first c.args.self c.take-row.result.now _ _ _ _ c.loop-rows.rows _ c.loop-rows.texts c.take-row.new.self c.loop-rows.invariant.text c.loop-rows-test.true refl
      c.take-row.ensures c.put_bytes-start.ensures.text c.put_bytes-end.ensures.text;
}
