use Rattle.std.proofs.Common.{◌≡◌, length, take, arith, rules}
use Rattle.std.proofs.lemmas.List.{length-take-le}
use Rattle.changes_writers.proofs.Base64Lemmas.{taken_part}
use Rattle.changes_writers.proofs.floats.put_digits.Goals as goal

pub returns-clause-text : goal.returns-clause-text
returns-clause-text c =
    let long : length c.args.digits.now ≡ 32 = search rules in
    let base : length (take c.args.at c.args.text.now) ≡ c.args.at = length-take-le c.args.at c.args.text.now (omega (arith, c.requires.room)) in
    taken_part c.args.at c.args.len c.put_bytes.result c.put_bytes.new.text _ c.args.digits.now base (omega (arith, c.requires.few, c.put_bytes.ensures.end, long)) c.put_bytes.ensures.text
