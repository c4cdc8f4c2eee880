use Rattle.std.proofs.Common.{ℕ, ◌≡◌, ◌%◌, ◌==◌, ap, ◌∙◌, bit_and, arith}
use Rattle.std.proofs.lemmas.Nat.{and_mask}
use Rattle.bitflags.proofs.OnLiterals.{bitflags_on_literals}
use Rattle.feed_replication.proofs.acknowledgements.is_ack_flag_set.Goals as goal

-- the only flag is the lowest bit
pub returns : goal.returns
unfolding bitflags_on_literals
returns c =
    let cut : c.from_bits_truncate.result.0 ≡ c.args.bits % 2 = c.from_bits_truncate.ensures tt ∙ and_mask c.args.bits 1 in
    let twice : bit_and (c.args.bits % 2) 1 ≡ c.args.bits % 2 = and_mask (c.args.bits % 2) 1 ∙ omega (arith) in
    c.contains.ensures tt ∙ ap (λ (b : ℕ). bit_and b 1 == 1) cut ∙ ap (λ (b : ℕ). b == 1) twice
