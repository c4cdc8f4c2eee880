use Rattle.std.proofs.Common.{ap, arith}
use Rattle.std.specs.Option.{option_map}
use Rattle.feed_text.specs.DecimalText.{numbers_text}
use Rattle.feed_text.proofs.NumberTextLemmas.{numbers_text_is, numbers_short}
use Rattle.changes_cells.specs.ShownTimes.{in_quotes}
use Rattle.changes_cells.proofs.decimals.put_quoted_decimal.Goals as goal

pub returns-in-Some : goal.returns-in-Some
returns-in-Some c =
    let n = c.in-Some.numbers in
    let size = numbers_short c.args.precision c.args.scale c.args.bytes.now n c.in-Some.ensures in
    let end = c.put_numbers.ensures.end in record {
      text = in_quotes (numbers_text c.args.scale n);
      is = ap (option_map in_quotes) (numbers_text_is c.args.precision c.args.scale c.args.bytes.now n c.in-Some.ensures);
      from = omega (arith, end);
      most = omega (arith, end, size);
      written = c.put_numbers.ensures.text;
    }
