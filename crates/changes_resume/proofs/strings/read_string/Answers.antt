use Rattle.std.proofs.Common.{arith}
use Rattle.std.proofs.lemmas.Grind.{common_steps}
use Rattle.changes_resume.proofs.StringEndLemmas.{no_string, one_read}
use Rattle.changes_resume.proofs.strings.read_string.Goals as goal

pub loop-byte-preserved : goal.loop-byte-preserved
loop-byte-preserved c = rw c.in_ok-push.ensures.items (one_read c.loop-byte.bytes.items c.in-Some.byte c.loop-byte.rest.now c.in-Some.after.now c.args.text.now c.loop-byte.invariant c.in-Some.ensures.some)

pub returns : goal.returns
returns c = λ file after. no_string c.loop-byte.bytes.items file c.loop-byte.rest.now after c.args.text.now c.loop-byte.invariant c.in_default.ensures.none (λ more e. grind (arith, common_steps))
