use Rattle.std.proofs.Common.{◌≡◌, ◌-ℤ◌, ◌∙◌, ℕ, pos, arith, refl}
use Rattle.std.proofs.lemmas.Int.{to_z-of_z}
use Rattle.std.specs.Int.{w64}
use Rattle.byteorder.specs.Endian.{big_number}
use Rattle.rows_packed_times.proofs.PackedLemmas.{near, seen, hundredths, ten_thousandths, seconds}
use Rattle.rows_packed_times.proofs.cells.time_with_fraction.Goals as goal

pub returns-in-1 : goal.returns-in-1
returns-in-1 c =
    let n : ℕ = big_number 4 c.args.bytes.now in
    let close = near n 2147483648 (omega (arith, c.big_endian.ensures.bound)) in
    to_z-of_z w64 _ (record { sfits = c.my_packed_time_make.type_inv })
    ∙ hundredths _ (pos n -ℤ pos 2147483648) _ (seen _ n 2147483648 (record { sfits = c.big_endian.type_inv }) c.big_endian.ensures.value) (omega (arith, close)) c.my_packed_time_make.ensures
    ∙ rw c.in-1.is refl

pub returns-in-2 : goal.returns-in-2
returns-in-2 c =
    let n : ℕ = big_number 5 c.args.bytes.now in
    let close = near n 549755813888 (omega (arith, c.big_endian-in-2.ensures.bound)) in
    to_z-of_z w64 _ (record { sfits = c.my_packed_time_make-in-2.type_inv })
    ∙ ten_thousandths _ (pos n -ℤ pos 549755813888) _ (seen _ n 549755813888 (record { sfits = c.big_endian-in-2.type_inv }) c.big_endian-in-2.ensures.value) (omega (arith, close)) c.my_packed_time_make-in-2.ensures
    ∙ rw c.in-2.is refl

pub returns-in_default : goal.returns-in_default
returns-in_default c =
    let none : c.args.fraction_bytes ≡ 0 = omega arith in
    let n : ℕ = big_number 3 c.args.bytes.now in
    let close = near n 8388608 (omega (arith, c.big_endian-in_default.ensures.bound)) in
    to_z-of_z w64 _ (record { sfits = c.my_packed_time_make_int.type_inv })
    ∙ seconds _ (pos n -ℤ pos 8388608) _ (seen _ n 8388608 (record { sfits = c.big_endian-in_default.type_inv }) c.big_endian-in_default.ensures.value) (omega (arith, close)) c.my_packed_time_make_int.ensures
    ∙ rw none refl
