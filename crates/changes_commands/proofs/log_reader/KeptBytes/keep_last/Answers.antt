use Rattle.std.proofs.Common.{◌++◌, List, ℕ, ap, refl, take, ◌∙◌, arith}
use Rattle.changes_commands.proofs.LogReaderLemmas.{last_more}
use Rattle.changes_commands.proofs.log_reader.KeptBytes.keep_last.Goals as goal

pub returns-clause-last : goal.returns-clause-last
returns-clause-last c =
    let s = c.args.self.now in
    c.put_bytes-self.ensures.text ∙ rw (c.rotate_left.ensures.after, c.split_at.ensures.back) (last_more s.last c.args.bytes.now s.last_len c.saturating_sub.result c.min-kept.result _ (omega arith) s.last_within (omega arith) (rw c.split_at.ensures.back at c.min-kept.ensures) refl)
