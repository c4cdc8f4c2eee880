use Rattle.std.proofs.Common.{arith, rules, ap, ◌≡◌, ◌≤◌, ◌<◌, length}
use Rattle.rows_cells.specs.ImageViews.{image_shape, cells_count}
use Rattle.feed_text.proofs.RowTextLemmas.{row_written, start_stays}
use Rattle.feed_text.proofs.rows.put_short_row.Goals as goal

pub returns-then-len-gt0 : goal.returns-then-len-gt0
returns-then-len-gt0 c =
    let begun : c.put_bytes-begun.result ≤ length c.put_bytes-begun.new.text = search (arith, rules) in
    start_stays c.args.start.now c.in-Ok.cells c.put_fields-end.result.1 c.args.at c.put_bytes-begun.result c.put_fields-end.result.0 c.args.text.now c.put_bytes-begun.new.text c.put_fields-end.new.text (omega (arith, c.requires)) c.put_bytes-begun.ensures.text begun c.put_fields-end.ensures

pub returns : goal.returns
returns c =
    let none : cells_count c.put_fields-end.result.1 ≡ 0 = omega (arith, c.len.ensures, c.if-len-gt0.false) in
    let less : length c.put_fields-end.result.1.rest.now < length c.args.bytes.now = omega (arith, c.if-rest-bytes.false, ap (λ b. length b.now) c.rest.ensures) in
    let within : c.put_byte.result ≤ length c.put_byte.new.text = search (arith, rules) in
    rw c.rest-2.ensures (row_written (image_shape c.args.plan) c.args.start.now c.args.bytes.now c.in-Ok.cells c.put_fields-end.result.1 c.args.at c.put_bytes-begun.result c.put_fields-end.result.0 c.put_byte.result c.args.text.now c.put_bytes-begun.new.text c.put_fields-end.new.text c.put_byte.new.text
    c.in-Ok.ensures.ok c.put_bytes-begun.ensures.text c.put_fields-end.ensures none less c.put_byte.ensures.text within)
