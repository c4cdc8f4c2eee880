use Rattle.std.proofs.Common.{arith}
use Rattle.std.proofs.lemmas.Grind.{common_steps}
use Rattle.changes_tables.proofs.MetadataLemmas.{utf8_shown, not_utf8_shown}
use Rattle.changes_tables.proofs.texts.append_name.Goals as goal

pub returns-in-Some : goal.returns-in-Some
returns-in-Some c = rw (utf8_shown c.args.bytes.now c.in-Some.ensures.utf8) (grind (arith, common_steps))

pub returns-in-None : goal.returns-in-None
returns-in-None c = rw (not_utf8_shown c.args.bytes.now c.in-None.ensures.utf8) (grind (arith, common_steps))
