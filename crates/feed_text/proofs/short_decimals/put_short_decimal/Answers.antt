use Rattle.std.proofs.Common.{arith, take}
use Rattle.wire_buf.specs.Encoding.{AreBytes}
use Rattle.rows_values.proofs.UnpackedLemmas.{take_bytes}
use Rattle.feed_text.proofs.WordLemmas.{numbers_put}
use Rattle.feed_text.proofs.short_decimals.put_short_decimal.Goals as goal

pub returns-in-Some : goal.returns-in-Some
returns-in-Some c =
    let are : AreBytes c.args.bytes.now = λ k. omega (arith, c.type_inv.bytes k) in
    let pack = rw (c.from.ensures, c.from-2.ensures) at c.in-Some.ensures in
    let put = rw c.from-in-Some.ensures at c.put_quoted_numbers.ensures in
    numbers_put c.args.precision c.args.scale c.args.at (take c.args.size c.args.bytes.now) c.args.text.now c.put_quoted_numbers.new.text c.in-Some.numbers c.put_quoted_numbers.result (take_bytes c.args.size c.args.bytes.now are) pack put.end put.text
