use Rattle.std.proofs.Common.{◌++◌, rules, arith, ap, sym, ◌∙◌}
use Rattle.byteorder.specs.Endian.{little_bytes}
use Rattle.wire_fields_extra.proofs.OnesLemmas.{len_low, encoded_long, encoded_short, varlen_uint_writes, taken_bytes, room_of_bytes, size_of_bytes}
use Rattle.wire_fields_extra.proofs.varlen_uint.write_varlen_uint.Goals as goal

pub returns-then-size-eq9-clause-ok : goal.returns-then-size-eq9-clause-ok
returns-then-size-eq9-clause-ok g c =
    let whole = encoded_long c.args.value (sym c.fewest_bytes-size.ensures ∙ c.if-size-eq9.true) in
    varlen_uint_writes _ _ _ (omega arith)
    (c.in_ok-extend_from_slice.ensures.items ∙ ap (λ l. c.args.buf.now.items ++ l) (rw whole (search rules)))

pub with_trailing_ones-requires-clause-low : goal.with_trailing_ones-requires-clause-low
with_trailing_ones-requires-clause-low g c = (len_low _ _ c.fewest_bytes-size.ensures).0

pub with_trailing_ones-requires-clause-high : goal.with_trailing_ones-requires-clause-high
with_trailing_ones-requires-clause-high g c = let l = len_low _ _ c.fewest_bytes-size.ensures in omega (arith, l.1)

pub with_trailing_ones-requires-clause-fits : goal.with_trailing_ones-requires-clause-fits
with_trailing_ones-requires-clause-fits g c = let l = len_low _ _ c.fewest_bytes-size.ensures in l.2 (omega (arith, l.1))

pub write_uint-requires-clause-low : goal.write_uint-requires-clause-low
write_uint-requires-clause-low g c = (len_low _ _ c.fewest_bytes-size.ensures).0

pub write_uint-requires-clause-high : goal.write_uint-requires-clause-high
write_uint-requires-clause-high g c = let l = len_low _ _ c.fewest_bytes-size.ensures in omega (arith, l.1)

pub write_uint-requires-clause-room : goal.write_uint-requires-clause-room
write_uint-requires-clause-room g c = let l = len_low _ _ c.fewest_bytes-size.ensures in omega (arith, l.1)

pub write_uint-requires-clause-fits : goal.write_uint-requires-clause-fits
write_uint-requires-clause-fits g c = c.with_trailing_ones.ensures.within

pub slice_bounds-bytes-end : goal.slice_bounds-bytes-end
slice_bounds-bytes-end g c = room_of_bytes c.fewest_bytes-size.result c.with_trailing_ones.result _ _ c.write_uint.ensures

pub slice_bounds-extend_from_slice-end-2 : goal.slice_bounds-extend_from_slice-end-2
slice_bounds-extend_from_slice-end-2 g c = size_of_bytes c.fewest_bytes-size.result c.with_trailing_ones.result _ _ c.write_uint.ensures

pub returns-clause-ok : goal.returns-clause-ok
returns-clause-ok g c =
    let taken = taken_bytes c.fewest_bytes-size.result c.with_trailing_ones.result _ _ c.write_uint.ensures in
    varlen_uint_writes _ _ _ (omega arith)
    (c.in_ok-extend_from_slice-2.ensures.items ∙ ap (λ l. c.args.buf.now.items ++ l)
    (taken ∙ ap (little_bytes c.fewest_bytes-size.result) c.with_trailing_ones.ensures.value ∙ sym (encoded_short c.args.value _ c.fewest_bytes-size.ensures c.if-size-eq9.false)))
