use Rattle.std.proofs.Common.{arith, refl}
use Rattle.feed_writers.proofs.PlainLemmas.{stops_by_lane}
use Rattle.feed_writers.proofs.BlockLemmas.{first_is, stops_are, plain_stored, all_written, escape_written, up_to_stop}
use Rattle.feed_writers.proofs.blocks.put_run.Goals as goal

pub returns-then-stops-eq0-clause-text : goal.returns-then-stops-eq0-clause-text
returns-then-stops-eq0-clause-text c = all_written _ _ c.args.v c.fits-v.0 (plain_stored c.args.at c.args.text.now c.args.v c.fits-v c.requires c.if-stops-eq0.true)

pub returns-then-stops-gt2-clause-text : goal.returns-then-stops-gt2-clause-text
returns-then-stops-gt2-clause-text c =
    let v = c.args.v in
    let fits = c.fits-v in
    all_written _ _ v fits.0 (c.put_sixteen_fields-end.ensures.text v (record {
      sixteen = fits.0;
      firsts = first_is v _ fits.0 (stops_by_lane v 16 fits.0 fits.1);
      highs = c.high_digits.ensures;
      lows = c.low_digits.ensures;
      bits = stops_are v fits;
    }))

pub put_up_to_escape-requires-clause-few : goal.put_up_to_escape-requires-clause-few
put_up_to_escape-requires-clause-few c =
    let t = up_to_stop c.args.v _ c.fits-v refl c.if-stops-eq0.false in
    omega (arith, t.within, c.fits-v.0)

pub returns-clause-few : goal.returns-clause-few
returns-clause-few c =
    let t = up_to_stop c.args.v _ c.fits-v refl c.if-stops-eq0.false in
    omega (arith, t.within, c.fits-v.0)

pub returns-clause-text : goal.returns-clause-text
returns-clause-text c = escape_written _ _ c.args.v _ (up_to_stop c.args.v _ c.fits-v refl c.if-stops-eq0.false) c.put_up_to_escape.ensures.text
