use Rattle.std.proofs.Common.{length, arith, subst, sym, ap, ◌∙◌}
use Rattle.rows_values.specs.Digits.{AreDigits}
use Rattle.rows_values.proofs.GroupLemmas.{sequence_facts}
use Rattle.rows_values.proofs.parse.from_digit_texts.Goals as goal

pub invariant_of-result : goal.invariant_of-result
invariant_of-result c =
    let facts = sequence_facts c.args.before.now c.args.after.now (sym c.has_only_digits.ensures ∙ c.if-not-has_only_digits.false) in
    let before = c.in_ok-before.ensures in
    let after = c.in_ok-after.ensures in
    record {
      before_are = subst AreDigits (sym before) facts.0;
      after_are = subst AreDigits (sym after) facts.1;
      some = omega (arith, facts.2, ap length before, ap length after);
    }
