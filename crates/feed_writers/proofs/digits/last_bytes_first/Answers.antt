use Rattle.std.proofs.Common.{◌<◌, ℕ, get_or, length, ◌≡◌, rules, ap, ◌∙◌, take}
use Rattle.feed_writers.proofs.DigitLemmas.{last_in_prefix_is}
use Rattle.feed_writers.proofs.digits.last_bytes_first.Goals as goal

pub returns : goal.returns
returns c =
    let size : length c.args.bytes ≡ 8 = search rules in
    let are : (i : ℕ) → get_or c.args.bytes i 0 < 256 = search rules in
    ap (take c.args.count) c.to_le_bytes.ensures ∙ last_in_prefix_is c.args.bytes c.args.count c.from_le_bytes.result c.requires.most size are c.from_le_bytes.ensures
