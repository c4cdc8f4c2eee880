use Rattle.std.proofs.Common.{◌≡◌, ◌-ℤ◌, ◌∙◌, ℕ, pos, drop, to_z, of_z, ap, arith, refl}
use Rattle.std.proofs.lemmas.Int.{to_z-of_z, fits_signed_from_abs}
use Rattle.std.proofs.lemmas.List.{take_rest}
use Rattle.std.specs.Int.{w32, w64}
use Rattle.byteorder.specs.Endian.{big_number}
use Rattle.rows_packed_times.specs.PackedTimes.{fraction}
use Rattle.rows_packed_times.proofs.PackedLemmas.{near, seen}
use Rattle.rows_packed_times.proofs.cells.datetime_with_fraction.Goals as goal

pub returns : goal.returns
returns c =
    let n : ℕ = big_number 5 c.args.bytes.now in
    let close = near n 549755813888 (omega (arith, c.big_endian-whole.ensures.bound)) in
    let above = seen _ n 549755813888 (record { sfits = c.big_endian-whole.type_inv }) c.big_endian-whole.ensures.value in
    let whole = to_z-of_z w64 (pos n -ℤ pos 549755813888) (fits_signed_from_abs w64 _ (omega (arith, close))) in
    let micros : to_z w64 (of_z w64 c.from.result) ≡ fraction c.args.fraction_bytes (drop 5 c.args.bytes.now) =
    to_z-of_z w64 _ (record { sfits = c.from.type_inv }) ∙ c.from.ensures ∙ to_z-of_z w32 _ (record { sfits = c.fraction_of.type_inv }) ∙ c.fraction_of.ensures
    ∙ ap (fraction c.args.fraction_bytes) (take_rest c.args.bytes.now 5) in
    to_z-of_z w64 _ (record { sfits = c.my_packed_time_make.type_inv }) ∙ c.my_packed_time_make.ensures ∙ rw (above, whole, micros) refl
