use Rattle.std.proofs.Common.{sym, arith}
use Rattle.changes_cells.specs.CellJson.{IsCellJson, IsBytesJson}
use Rattle.rows_cells.specs.CellValues.{bytes}
use Rattle.changes_cells.proofs.FixedLemmas.{decimal_read, decimal_fails}
use Rattle.changes_cells.proofs.fixed.put_decimal_field.Goals as goal

pub returns-in-Some : goal.returns-in-Some
unfolding IsCellJson IsBytesJson
returns-in-Some c =
    let p = c.in-Some.ensures in
    let few = c.ranges.precision in
    let d = decimal_read c.args.precision c.args.scale c.args.bytes.now c.in-Ok.content.now c.in-Ok.rest.now p.text (sym c.in-Ok.ensures) (rw (c.from-precision.ensures, c.from-scale.ensures) at p.is) in
    λ view. record {
      value = bytes d.0;
      read = d.1;
      text = record {
        text = p.text;
        such = d.2;
        most = let m = p.most in omega (arith, m, few.fits, c.from-precision.ensures);
        written = p.written;
      };
    }

pub returns-in-None : goal.returns-in-None
returns-in-None c =
    let p = c.in-None.ensures in (
      p.1,
      decimal_fails c.args.precision c.args.scale c.args.bytes.now c.in-Ok.content.now c.in-Ok.rest.now (sym c.in-Ok.ensures) (rw (c.from-precision.ensures, c.from-scale.ensures) at p.0),
    )
