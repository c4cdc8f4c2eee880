use Rattle.std.proofs.Common.{arith, ap, rules}
use Rattle.std.specs.Option.{option_map}
use Rattle.wire_buf.specs.Encoding.{AreBytes}
use Rattle.feed_writers.specs.Quoting.{quoted}
use Rattle.feed_text.proofs.DecimalTextLemmas.{packed_left, written_quoted, prefix_left, quoted_none}
use Rattle.feed_text.proofs.decimals.write_quoted.Goals as goal

pub returns-in-Some : goal.returns-in-Some
returns-in-Some c =
    let p = c.in-Some.ensures in
    let from = p.from in
    let most = p.most in
    let are : AreBytes c.args.bytes.now = λ k. omega (arith, c.type_inv.bytes k) in
    let left = packed_left c.args.precision c.args.scale c.args.bytes.now p.text are p.is in
    record {
      text = quoted p.text;
      is = ap (option_map quoted) p.is;
      from = omega (arith, from);
      most = omega (arith, most);
      written = written_quoted c.args.text.now c.put_decimal_text.new.text p.text c.args.at c.in-Some.end (search rules) (search rules) p.written left;
    }

pub returns-in-None : goal.returns-in-None
returns-in-None c =
    let p = c.in-None.ensures in
    (quoted_none c.args.precision c.args.scale c.args.bytes.now p.0, prefix_left c.args.text.now c.put_decimal_text.new.text c.args.at (search rules) (search rules) p.1)
