use Rattle.std.proofs.Common.{◌≡◌, length, rules}
use Rattle.changes_writers.proofs.Base64Lemmas.{sixes_below, twelve_stored}
use Rattle.changes_writers.proofs.base64_text.put_twelve.Goals as goal

pub digits_of-requires : goal.digits_of-requires
digits_of-requires c = sixes_below c.args.bytes.now c.sixes_of-sixes.result c.type_inv.bytes c.sixes_of-sixes.ensures

pub returns-clause-text : goal.returns-clause-text
returns-clause-text c =
    let long : length c.digits_of.result ≡ 16 = search rules in
    twelve_stored c.args.at c.args.text.now c.args.bytes.now c.sixes_of-sixes.result c.digits_of.result c.requires.sixteen c.requires.room long c.sixes_of-sixes.ensures c.digits_of.ensures
