use Rattle.std.proofs.Common.{sym, arith}
use Rattle.std.proofs.lemmas.List.{length-take-le}
use Rattle.rows_jsonb.proofs.FormatLemmas.{entry_ends, offset_within}
use Rattle.rows_jsonb.proofs.complex.ComplexValue.elem.Goals as goal

pub bounds-deref-at : goal.bounds-deref-at
bounds-deref-at g c =
    let within = entry_ends g.T.StorageFormat.IS_LARGE g.U.ComplexType.IS_ARRAY _ _ _ _ c.requires c.args.self.now.header c.value_entry_offset-at.ensures in
    omega (arith, within, c.deref.ensures.len)

pub overflow_add-entry : goal.overflow_add-entry
overflow_add-entry g c =
    let within = entry_ends g.T.StorageFormat.IS_LARGE g.U.ComplexType.IS_ARRAY _ _ _ _ c.requires c.args.self.now.header c.value_entry_offset-at.ensures in
    omega (arith, within, c.deref-2.ensures.len)

pub slice_bounds-entry-count : goal.slice_bounds-entry-count
slice_bounds-entry-count g c =
    let within = entry_ends g.T.StorageFormat.IS_LARGE g.U.ComplexType.IS_ARRAY _ _ _ _ c.requires c.args.self.now.header c.value_entry_offset-at.ensures in
    omega (arith, within, c.deref-2.ensures.len)

pub slice_bounds-read-end : goal.slice_bounds-read-end
slice_bounds-read-end g c =
    let within = entry_ends g.T.StorageFormat.IS_LARGE g.U.ComplexType.IS_ARRAY _ _ _ _ c.requires c.args.self.now.header c.value_entry_offset-at.ensures in
    let room = offset_within g.T.StorageFormat.IS_LARGE c.value_entry_offset-at.result c.deref-2.result.now (omega (arith, within, c.deref-2.ensures.len)) in
    sym (length-take-le c.from.result _ (omega (arith, room, g.met.T.StorageFormat.offset_sized)))

pub eat_offset-offset-requires : goal.eat_offset-offset-requires
eat_offset-offset-requires g c =
    let within = entry_ends g.T.StorageFormat.IS_LARGE g.U.ComplexType.IS_ARRAY _ _ _ _ c.requires c.args.self.now.header c.value_entry_offset-at.ensures in
    offset_within g.T.StorageFormat.IS_LARGE c.value_entry_offset-at.result c.deref-2.result.now (omega (arith, within, c.deref-2.ensures.len))

pub overflow_add-at : goal.overflow_add-at
overflow_add-at g c =
    let within = entry_ends g.T.StorageFormat.IS_LARGE g.U.ComplexType.IS_ARRAY _ _ _ _ c.requires c.args.self.now.header c.value_entry_offset-at.ensures in
    omega (arith, within, c.deref-2.ensures.len, g.met.T.StorageFormat.value_sized)

pub slice_bounds-read-count : goal.slice_bounds-read-count
slice_bounds-read-count g c = omega (arith, c.in_ok-check_place.ensures.end, c.len.ensures, c.deref-3.ensures.len)
