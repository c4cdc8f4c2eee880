use Rattle.std.proofs.Common.{ap, sym, ◌∙◌}
use Rattle.std.specs.Ordering.{is_eq}
use Rattle.std.specs.Cmp.Lexicographic.{texts_ties}
use Rattle.rows_values.specs.Decimals.{pack_decimal}
use Rattle.rows_values.proofs.order.DecimalPartialEq.eq.Goals as goal

pub returns : goal.returns
returns c = c.is_eq.ensures ∙ ap is_eq c.packed_cmp.ensures ∙ sym (texts_ties (pack_decimal c.args.self.now) (pack_decimal c.args.other.now))
