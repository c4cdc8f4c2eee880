use Rattle.std.proofs.Common.{◌≡◌, length, take, arith, rules}
use Rattle.std.proofs.lemmas.List.{length-take-le}
use Rattle.changes_writers.proofs.Base64Lemmas.{one_written, two_written, none_written}
use Rattle.changes_writers.proofs.base64_text.put_remainder.Goals as goal

pub returns-in-len1-clause-text : goal.returns-in-len1-clause-text
returns-in-len1-clause-text c =
    let g = c.put_group-end in
    let long : length (take c.args.at c.args.text.now) ≡ c.args.at = length-take-le c.args.at c.args.text.now (omega (arith, c.requires.room)) in
    one_written c.args.at g.result g.new.text _ _ c.args.bytes.now (omega (arith, c.in-len1.len_at_least, c.in-len1.len_below)) long g.ensures.end g.ensures.text c.put_bytes.ensures.text

pub returns-in-len2-clause-text : goal.returns-in-len2-clause-text
returns-in-len2-clause-text c =
    let g = c.put_group-end-in-len2 in
    let long : length (take c.args.at c.args.text.now) ≡ c.args.at = length-take-le c.args.at c.args.text.now (omega (arith, c.requires.room)) in
    two_written c.args.at g.result g.new.text _ _ c.args.bytes.now (omega (arith, c.in-len2.len_at_least, c.in-len2.len_below)) long g.ensures.end g.ensures.text c.put_byte.ensures.text

pub returns-in_default-clause-text : goal.returns-in_default-clause-text
returns-in_default-clause-text c = none_written _ c.args.bytes.now (search rules)
