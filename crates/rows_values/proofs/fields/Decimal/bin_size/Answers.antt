use Rattle.std.proofs.Common.{◌≡◌, length, arith, sym, ap, ◌∙◌}
use Rattle.rows_values.specs.Digits.{side_size}
use Rattle.rows_values.specs.Decimals.{decimal_parts}
use Rattle.rows_values.proofs.OrderLemmas.{length-packed}
use Rattle.rows_values.proofs.fields.Decimal.bin_size.Goals as goal

pub returns : goal.returns
returns c =
    let v = c.args.self.now in
    let before : c.len.result ≡ length v.before.items = omega (arith, c.len.ensures, v.before.ok.0) in
    let after : c.len-2.result ≡ length v.after.items = omega (arith, c.len-2.ensures, v.after.ok.0) in
    rw (c.side_size.ensures.size ∙ ap side_size before, c.side_size-2.ensures.size ∙ ap side_size after) (sym (length-packed (decimal_parts v)))
