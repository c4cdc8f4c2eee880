use Rattle.std.proofs.Common.{◌≡◌, length, sym, arith, rules}
use Rattle.std.proofs.lemmas.List.{length-take-le}
use Rattle.changes_cells.proofs.FieldLemmas.{any_column, appended_from}
use Rattle.changes_cells.proofs.buffers.append_fixed_field.Goals as goal

pub slice_bounds-short-end : goal.slice_bounds-short-end
slice_bounds-short-end g c =
    let most = (c.in-Ok.ensures any_column).text.most in
    let room : length c.put_fixed_field.new.text ≡ 400 = search (arith, rules) in
    omega (arith, most, room)

pub slice_bounds-put_text-end : goal.slice_bounds-put_text-end
slice_bounds-put_text-end g c =
    let most = (c.in-Ok.ensures any_column).text.most in
    let room : length c.put_fixed_field.new.text ≡ 400 = search (arith, rules) in
    sym (length-take-le c.in-Ok.end c.put_fixed_field.new.text (omega (arith, most, room)))

pub returns-in-Ok-put_text-clause-ok : goal.returns-in-Ok-put_text-clause-ok
returns-in-Ok-put_text-clause-ok g c = λ view. appended_from view c.args.format c.args.bytes.now c.put_fixed_field.new.text _ _ _ c.in-Ok.rest.now c.in-Ok.end (c.in-Ok.ensures view) c.in-Ok-put_text.ensures.ok
