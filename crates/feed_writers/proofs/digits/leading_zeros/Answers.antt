use Rattle.std.proofs.Common.{◌≡◌, length, rules}
use Rattle.feed_writers.proofs.LeadingZeroLemmas.{zeros_of_eight}
use Rattle.feed_writers.proofs.digits.leading_zeros.Goals as goal

pub returns : goal.returns
returns c =
    let size : length c.args.digits ≡ 8 = search rules in
    zeros_of_eight c.args.digits c.from_le_bytes-values.result size c.requires c.from_le_bytes-values.ensures
