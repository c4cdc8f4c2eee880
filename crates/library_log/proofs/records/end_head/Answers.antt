use Rattle.library_log.proofs.HeadLemmas.{counts_written}
use Rattle.library_log.proofs.records.end_head.Goals as goal

pub returns : goal.returns
returns c = λ begin h rest is. counts_written c.args.out.now.items c.set_word.new.out.items c.set_word-2.new.out.items c.set_word-3.new.out.items rest begin c.args.out.now.len c.args.changes c.args.rows h is (rw c.len.ensures at c.set_word.ensures.written) c.set_word-2.ensures.written c.set_word-3.ensures.written
