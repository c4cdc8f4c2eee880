use Rattle.std.proofs.Common.{[], ◌∷◌, ◌<◌, length, refl, arith, rules}
use Rattle.rows_cells.specs.ImageViews.{image_shape}
use Rattle.feed_transactions.proofs.CheckedRowLemmas.{row_passes}
use Rattle.changes_lines.specs.TableColumns.{columns_in}
use Rattle.changes_lines.proofs.ReadRowLemmas.{row_has_texts, adds_none, adds_short, adds_both}
use Rattle.changes_lines.proofs.short_rows.put_short_rows.Goals as goal

pub loop-columns-init : goal.loop-columns-init
loop-columns-init c = record {
  rows = λ bytes h. h;
  json = adds_none (columns_in c.args.columns) (image_shape c.args.plan ∷ []) _ c.args.rows.now;
  most = search (arith, rules);
}

pub loop-columns-preserved : goal.loop-columns-preserved
loop-columns-preserved c =
    let some : 0 < length c.loop-columns.rest.now = search (arith, rules) in
    let table = columns_in c.args.columns in
    let shapes = image_shape c.args.plan ∷ [] in
    let row = rw c.in-Some.is at c.put_in_room.ensures.such in
    let texts = row_has_texts table shapes c.loop-columns.rest.now c.in-Some.after.now row.0 row.2 in
    record {
      rows = λ bytes h. row_passes shapes bytes c.loop-columns.rest.now c.in-Some.after.now some (c.loop-columns.invariant.rows bytes h) texts row.3;
      json = adds_both table shapes _ _ _ c.args.rows.now c.loop-columns.rest.now c.in-Some.after.now c.loop-columns.invariant.json
          (adds_short table shapes _ _ _ c.loop-columns.rest.now c.in-Some.after.now c.put_in_room.ensures.text row.0 some row.1 row.2 row.3 c.put_in_room.ensures.appended refl c.in_ok-close.ensures);
      most = let most = c.loop-columns.invariant.most in let less = row.3 in omega (arith, most, less);
    }
