use Rattle.std.proofs.Common.{arith}
use Rattle.feed_transactions.proofs.WaitingLemmas.{waiting_len}
use Rattle.feed_transactions.proofs.waiting.WaitingBytes.room.Goals as goal

pub returns : goal.returns
returns c = omega (arith, waiting_len c.args.self.now, c.args.self.now.within, c.args.self.now.sized)
