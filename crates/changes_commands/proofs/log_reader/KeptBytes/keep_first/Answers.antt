use Rattle.std.proofs.Common.{◌++◌, List, ℕ, ap, take, ◌∙◌, arith}
use Rattle.changes_commands.proofs.LogReaderLemmas.{first_more}
use Rattle.changes_commands.proofs.log_reader.KeptBytes.keep_first.Goals as goal

pub returns-clause-first : goal.returns-clause-first
returns-clause-first c =
    let s = c.args.self.now in
    c.put_bytes-self.ensures.text ∙ ap (λ (l : List ℕ). take s.first_len s.first ++ l) c.split_at.ensures.front ∙ first_more s.first c.args.bytes.now s.first_len _ (omega arith) s.first_within c.min.ensures
