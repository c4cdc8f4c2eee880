use Rattle.std.proofs.Common.{arith, ap, sym, ◌∙◌, List, ℕ}
use Rattle.feed_text.specs.DecimalText.{quoted_decimal}
use Rattle.feed_text.proofs.FieldTextLemmas.{packed_prefix, decimal_at}
use Rattle.feed_text.proofs.fields.put_decimal.Goals as goal

pub returns-in-Some : goal.returns-in-Some
returns-in-Some c =
    let b = packed_prefix c.args.precision c.args.scale c.args.bytes.now c.in-Ok.content.now c.in-Ok.rest.now (sym c.in-Ok.ensures) in
    let p = c.in-Some.ensures in
    let is = ap (λ (l : List ℕ). quoted_decimal c.args.precision c.args.scale l) (sym b.prefix) ∙ p.is in
    let d = decimal_at c.args.precision c.args.scale c.args.bytes.now c.in-Ok.content.now c.in-Ok.rest.now p.text (sym c.in-Ok.ensures) is in
    record {
      value = d.0;
      text = p.text;
      read = d.1;
      is = d.2;
      most = let m = p.most in omega (arith, m);
      written = p.written;
    }
