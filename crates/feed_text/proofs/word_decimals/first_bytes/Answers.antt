use Rattle.std.proofs.Common.{◌/◌, ◌^◌, ap, ◌∙◌}
use Rattle.feed_text.proofs.WordLemmas.{first_number}
use Rattle.feed_text.proofs.word_decimals.first_bytes.Goals as goal

pub returns : goal.returns
returns c = λ xs are is. ap (λ n. n / 2 ^ c.unused_bits.result) is ∙ first_number c.args.size c.unused_bits.result xs are c.requires.few c.unused_bits.ensures.value
