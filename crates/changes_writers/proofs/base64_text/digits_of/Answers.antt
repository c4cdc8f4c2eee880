use Rattle.changes_writers.proofs.SixBitLemmas.{indexes_ok, digits_are}
use Rattle.changes_writers.proofs.base64_text.digits_of.Goals as goal

pub swizzle : goal.swizzle
swizzle c = indexes_ok c.args.sixes c.fits-sixes.0 c.requires

pub returns : goal.returns
returns c = digits_are c.args.sixes c.fits-sixes.0 c.requires
