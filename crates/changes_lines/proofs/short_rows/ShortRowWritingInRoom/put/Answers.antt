use Rattle.std.proofs.Common.{◌<◌, length, refl, arith, rules}
use Rattle.rows_cells.specs.ImageViews.{image_shape, cells_count}
use Rattle.changes_lines.specs.RowJson.{object_json}
use Rattle.changes_lines.specs.TableColumns.{columns_in}
use Rattle.changes_lines.proofs.ShortRowLemmas.{members_read, some_json, before_object, appended_row, appended_none}
use Rattle.changes_lines.proofs.short_rows.ShortRowWritingInRoom.put.Goals as goal

pub returns-then-rest-self-clause-text : goal.returns-then-rest-self-clause-text
returns-then-rest-self-clause-text c =
    let object = before_object (columns_in c.args.self.columns) c.in-Ok.cells c.args.at c.args.text.now c.put_members.new.text c.in-Some.rest.now c.in-Some.end c.requires c.in-Some.ensures in
    appended_none _ c.args.at c.args.text.now c.put_members.new.text object.1 refl

pub returns-clause-text : goal.returns-clause-text
returns-clause-text c =
    let less : length c.in-Some.rest.now < length c.args.self.bytes.now = search (arith, rules) in
    let some : 0 < cells_count c.in-Ok.cells = search (arith, rules) in
    let table = columns_in c.args.self.columns in
    let json = c.in-Some.ensures.json in
    let reads = members_read table (image_shape c.args.self.plan) c.args.self.bytes.now c.in-Some.rest.now c.in-Ok.cells c.args.at c.args.text.now c.put_members.new.text c.in-Some.end c.in-Ok.ensures.ok c.in-Ok.ensures.columns c.in-Some.ensures in
    appended_row _ table json c.args.at c.in-Some.end c.put_byte-end.result c.put_byte-end-2.result c.put_byte.result c.args.text.now c.put_members.new.text c.put_byte-end.new.text c.put_byte-end-2.new.text c.put_byte.new.text
    c.in-Some.ensures.written (some_json table c.in-Ok.cells c.in-Some.ensures.left json c.in-Some.ensures.gives c.in-Some.ensures.none_left some) c.put_byte-end.ensures.text c.put_byte-end-2.ensures.text c.put_byte.ensures.text (object_json table json, refl, reads, less)
