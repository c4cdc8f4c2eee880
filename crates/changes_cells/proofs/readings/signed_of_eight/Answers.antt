use mir.Val.{of_z}
use Rattle.std.proofs.Common.{◌*◌, ◌^◌, ap, ◌∙◌, rules, to_z, w64}
use Rattle.std.specs.Int.Signed.{shr_z}
use Rattle.std.proofs.lemmas.Int.{to_z-of_z}
use Rattle.rows_cells.specs.CellSizes.{width_bytes}
use Rattle.byteorder.specs.Endian.{little_number}
use Rattle.changes_cells.proofs.WordLemmas.{number_below, signed_bits}
use Rattle.changes_cells.proofs.readings.signed_of_eight.Goals as goal

pub returns : goal.returns
returns c =
    let m = little_number (width_bytes c.args.width) c.args.bytes.now in
    let bits = c.highest_bits-bits.ensures in
    let whole = to_z-of_z w64 (shr_z (to_z w64 (of_z w64 c.cast_signed.result)) (2 ^ c.highest_bits-bits.result.1)) (search rules) in
    whole
    ∙ ap (λ z. shr_z z (2 ^ c.highest_bits-bits.result.1)) (to_z-of_z w64 c.cast_signed.result (search rules) ∙ c.cast_signed.ensures)
    ∙ ap (λ n. shr_z (to_z w64 n) (2 ^ c.highest_bits-bits.result.1)) bits.value
    ∙ ap (λ k. shr_z (to_z w64 (m * 2 ^ k)) (2 ^ k)) bits.unused
    ∙ signed_bits c.args.width m (number_below c.args.width c.args.bytes.now (search rules))
