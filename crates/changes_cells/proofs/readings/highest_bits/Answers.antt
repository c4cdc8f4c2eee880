use Rattle.std.proofs.Common.{◌≡◌, ◌-◌, ◌*◌, ◌%◌, ◌^◌, ap, sym, ◌∙◌, rules}
use Rattle.rows_cells.specs.CellSizes.{width_bytes}
use Rattle.byteorder.specs.Endian.{little_number}
use Rattle.changes_cells.proofs.WordLemmas.{highest}
use Rattle.changes_cells.proofs.readings.highest_bits.Goals as goal

pub returns-clause-value : goal.returns-clause-value
returns-clause-value c =
    let unused : c.from-unused.result ≡ 64 - 8 * width_bytes c.args.width = search rules in
    ap (λ n. n * 2 ^ c.from-unused.result % 2 ^ 64) c.read_u64.ensures
    ∙ ap (λ k. little_number 8 c.args.bytes.now * 2 ^ k % 2 ^ 64) unused
    ∙ highest c.args.width c.args.bytes.now (search rules)
    ∙ ap (λ k. little_number (width_bytes c.args.width) c.args.bytes.now * 2 ^ k) (sym unused)
