use Rattle.std.proofs.Common.{◌≡◌, arith, rules, sym, ap, subst, List, ℕ, length, take}
use Rattle.std.proofs.lemmas.List.{with_items_is}
use Rattle.rows_cells.specs.ImageViews.{image_shape}
use Rattle.feed_text.specs.Buffers.{text_in}
use Rattle.feed_text.specs.RowText.{WritesRow}
use Rattle.feed_text.proofs.RowTextLemmas.{rows_more}
use Rattle.feed_text.proofs.buffer.TextBuffer.put_short_rows.Goals as goal

pub loop-self-preserved : goal.loop-self-preserved
loop-self-preserved g c =
    let items : c.as_mut_slice-text.result.now ≡ c.reserve.new.self.bytes.items = search rules in
    let size : length c.put_short_row.new.text ≡ c.reserve.new.self.bytes.len = search (arith, rules) in
    let Row : List ℕ → Type 0 = λ old. WritesRow (image_shape c.args.plan) c.args.start.now c.loop-self.rest.now c.in-Some.after.now c.reserve.new.self.len old c.put_short_row.new.text c.in-Some.end in
    rows_more (image_shape c.args.plan) c.args.start.now c.args.rows.now c.loop-self.rest.now c.in-Some.after.now (text_in c.args.self.now) (text_in c.loop-self.self) _ c.reserve.new.self.len c.in-Some.end c.reserve.new.self.bytes.items c.put_short_row.new.text
    c.loop-self.invariant (sym c.reserve.ensures.text) (subst Row items c.in-Some.ensures) (ap (take c.in-Some.end) (with_items_is c.reserve.new.self.bytes c.put_short_row.new.text size))
