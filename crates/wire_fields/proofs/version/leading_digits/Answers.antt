use Rattle.std.proofs.Common.{◌∙◌, length, arith, sym}
use Rattle.std.specs.Char.{is_ascii_digit}
use Rattle.std.proofs.Math.Seq.{take-length}
use Rattle.wire_fields.proofs.VersionLemmas.{take_while-at}
use Rattle.wire_fields.proofs.version.leading_digits.Goals as goal

pub returns-then-not-is_ascii_digit : goal.returns-then-not-is_ascii_digit
returns-then-not-is_ascii_digit c =
    sym (take_while-at is_ascii_digit c.args.text.now c.loop-i.i (omega arith) c.loop-i.invariant (λ _. sym c.is_ascii_digit.ensures.value ∙ c.if-not-is_ascii_digit.true))

pub returns : goal.returns
returns c =
    let x = c.args.text.now in
    sym (take-length x) ∙ sym (take_while-at is_ascii_digit x (length x) (omega arith) (λ k below. c.loop-i.invariant k (omega (arith, below))) (λ late. absurd (omega (arith, late))))
