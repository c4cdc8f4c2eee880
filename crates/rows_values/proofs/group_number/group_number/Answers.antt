use Rattle.std.proofs.Common.{◌≡◌, length, arith}
use Rattle.byteorder.specs.Endian.{big_number}
use Rattle.wire_buf.specs.Encoding.{AreBytes}
use Rattle.rows_values.specs.Digits.{signed}
use Rattle.rows_values.proofs.FlipBackLemmas.{minus_number, plus_number, high_number, low_number}
use Rattle.rows_values.proofs.group_number.group_number.Goals as goal
use Rattle.rows_values.proofs.group_number.group_number.Goals.{then-negative, else-negative}

pub returns-then-number-highest : goal.returns-then-number-highest
returns-then-number-highest c =
    let bytes = c.args.bytes.now in
    let are : AreBytes bytes = λ k. omega (arith, c.type_inv.bytes k) in
    let number : c.if-negative.number ≡ big_number (length bytes) (signed c.args.negative bytes) = elim c.if-negative.branch [
      | then-negative w ↦ minus_number c.args.negative bytes c.bytes_number-packed.result c.if-negative.number c.requires are w.if-negative.true c.bytes_number-packed.ensures w.number-is
      | else-negative w ↦ plus_number c.args.negative bytes c.bytes_number-packed.result c.if-negative.number w.if-negative.false c.bytes_number-packed.ensures w.number-is
    ] in
    high_number c.args.negative c.args.top bytes c.if-negative.number c.requires are c.if-not-top.false number c.if-number-highest.true

pub returns-else-number-highest : goal.returns-else-number-highest
returns-else-number-highest c =
    let bytes = c.args.bytes.now in
    let are : AreBytes bytes = λ k. omega (arith, c.type_inv.bytes k) in
    let number : c.if-negative.number ≡ big_number (length bytes) (signed c.args.negative bytes) = elim c.if-negative.branch [
      | then-negative w ↦ minus_number c.args.negative bytes c.bytes_number-packed.result c.if-negative.number c.requires are w.if-negative.true c.bytes_number-packed.ensures w.number-is
      | else-negative w ↦ plus_number c.args.negative bytes c.bytes_number-packed.result c.if-negative.number w.if-negative.false c.bytes_number-packed.ensures w.number-is
    ] in
    low_number c.args.negative c.args.top bytes c.if-negative.number c.requires are c.if-not-top.false number (omega arith)
