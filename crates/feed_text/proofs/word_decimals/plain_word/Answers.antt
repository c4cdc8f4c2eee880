use Rattle.std.proofs.Common.{arith}
use Rattle.wire_buf.specs.Encoding.{AreBytes}
use Rattle.feed_text.proofs.WordLemmas.{negative_word}
use Rattle.feed_text.proofs.word_decimals.plain_word.Goals as goal

pub returns-then-packed-lt-TOP-clause-word : goal.returns-then-packed-lt-TOP-clause-word
returns-then-packed-lt-TOP-clause-word c =
    let are : AreBytes c.args.bytes.now = λ k. omega (arith, c.type_inv.bytes k) in
    negative_word c.args.bytes.now c.read_u64-packed.result c.requires are c.read_u64-packed.ensures c.if-packed-lt-TOP.true
