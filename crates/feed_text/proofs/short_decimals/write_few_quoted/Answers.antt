use Rattle.std.proofs.Common.{arith, ap, sym, ◌∙◌, ◌++◌, List, ℕ, take}
use Rattle.std.specs.Option.{option_map}
use Rattle.wire_buf.specs.Encoding.{AreBytes}
use Rattle.feed_writers.specs.Quoting.{quoted}
use Rattle.feed_text.specs.DecimalText.{numbers_text}
use Rattle.feed_text.proofs.DecimalTextLemmas.{packed_left, plain_quoted}
use Rattle.feed_text.proofs.NumberTextLemmas.{numbers_text_is, numbers_short}
use Rattle.feed_text.proofs.short_decimals.write_few_quoted.Goals as goal

pub returns-in-Some : goal.returns-in-Some
returns-in-Some c =
    let n = c.in-Some.numbers in
    let text = numbers_text c.args.scale n in
    let is = numbers_text_is c.args.precision c.args.scale c.args.bytes.now n c.in-Some.ensures in
    let are : AreBytes c.args.bytes.now = λ k. omega (arith, c.type_inv.bytes k) in
    let left = packed_left c.args.precision c.args.scale c.args.bytes.now text are is in
    let size = numbers_short c.args.precision c.args.scale c.args.bytes.now n c.in-Some.ensures in
    let end = c.put_quoted_numbers.ensures.end in
    record {
      text = quoted text;
      is = ap (option_map quoted) is;
      from = omega (arith, end);
      most = omega (arith, end, size);
      written = c.put_quoted_numbers.ensures.text ∙ ap (λ (l : List ℕ). take c.args.at c.args.text.now ++ l) (sym (plain_quoted text left));
    }
