use Rattle.std.proofs.Common.{true, arith, ap, sym, length, ◌∙◌, ◌≤◌, ◌<◌, ◌+◌, ◌-◌, ◌^◌}
use Rattle.byteorder.specs.Endian.{big_from}
use Rattle.wire_buf.specs.Encoding.{AreBytes}
use Rattle.rows_values.specs.Digits.{side_size}
use Rattle.rows_values.specs.declared.numbers.DecimalNumbers.{DecimalNumbers}
use Rattle.rows_values.specs.PackedTexts.{flipped_back}
use Rattle.rows_values.proofs.FlipBackLemmas.{turned_are, length-flipped_back}
use Rattle.feed_text.proofs.WordLemmas.{few_side, numbers_of_word}
use Rattle.feed_text.proofs.word_decimals.word_numbers.Goals as goal

pub returns-in-Some : goal.returns-in-Some
returns-in-Some c =
    let are : AreBytes c.args.bytes.now = λ k. omega (arith, c.type_inv.bytes k) in
    let f = flipped_back c.plain_word-negative.result.0 true c.args.bytes.now in
    let turned = turned_are c.plain_word-negative.result.0 true c.args.bytes.now are in
    let k = c.args.precision - c.args.scale in
    let few : c.args.scale ≤ 8 = omega arith in
    let side = few_side c.args.scale few in
    let size = c.requires.size in
    let some : 1 ≤ c.args.size = omega arith in
    let within : c.args.size ≤ length c.args.bytes.now = omega arith in
    let room : side_size k ≤ length f = omega (arith, size, within, length-flipped_back c.plain_word-negative.result.0 true c.args.bytes.now) in
    let value = c.first_bytes.ensures f turned c.plain_word-negative.ensures.word ∙ ap (λ m. big_from 0 m f) (size ∙ ap (λ m. side_size k + m) side) in
    let parts = c.split_last-whole.ensures (side_size k) f turned value in
    let before = c.in-Some.ensures f turned parts.0 room in
    let power = c.power_of_ten.ensures.value in
    let small : c.split_last-whole.result.1 < 10 ^ c.args.scale = omega (arith, power, c.if-after-power_of_ten.false) in
    let n : DecimalNumbers = record { negative = c.plain_word-negative.result.0; before = c.in-Some.before; after = c.split_last-whole.result.1 } in
    numbers_of_word c.args.precision c.args.scale c.args.size c.args.bytes.now n c.requires.ordered (omega arith) few size some within c.plain_word-negative.ensures.sign (before, parts.1 ∙ ap (λ m. big_from (side_size k) m f) (sym side)) small
