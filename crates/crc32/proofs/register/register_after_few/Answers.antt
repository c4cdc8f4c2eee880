use Rattle.std.proofs.Common.{◌∙◌, rules}
use Rattle.crc32.proofs.MessageLemmas.{none_last}
use Rattle.crc32.proofs.register.register_after_few.Goals as goal

pub returns-in-None : goal.returns-in-None
returns-in-None c =
    none_last c.args.bytes.now c.take_two-register.result.1.now c.args.start c.take_two-register.result.0 (search rules)
    (c.take_two-register.ensures.same ∙ c.take_four-register.ensures.same ∙ c.take_eight-register.ensures.same)
