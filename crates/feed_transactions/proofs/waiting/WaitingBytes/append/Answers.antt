use Rattle.std.proofs.Common.{ℕ, List, ◌++◌, length, take, ap, ◌∙◌, arith, rules}
use Rattle.std.proofs.lemmas.List.{places, with_items_is, length-append}
use Rattle.feed_transactions.specs.Waiting.{bytes_of}
use Rattle.feed_transactions.proofs.WaitingLemmas.{waiting_len}
use Rattle.feed_transactions.proofs.waiting.WaitingBytes.append.Goals as goal

pub put_bytes-self-requires : goal.put_bytes-self-requires
put_bytes-self-requires c = omega (arith, waiting_len c.args.self.now, c.args.self.now.sized, ap length c.as_mut_slice.ensures.value, c.requires)

pub returns-clause-bytes : goal.returns-clause-bytes
unfolding bytes_of
returns-clause-bytes c =
    let is = with_items_is c.args.self.now.buffer c.put_bytes-self.new.text (search (rules, places)) in
    ap (take c.put_bytes-self.result) is ∙ c.put_bytes-self.ensures.text ∙ ap (λ (l : List ℕ). take c.args.self.now.len l ++ c.args.bytes.now) c.as_mut_slice.ensures.value

pub returns-clause-len : goal.returns-clause-len
returns-clause-len c = ap length (returns-clause-bytes c) ∙ length-append (bytes_of c.args.self.now) c.args.bytes.now
