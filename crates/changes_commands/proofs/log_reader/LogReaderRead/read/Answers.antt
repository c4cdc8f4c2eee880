use Rattle.std.proofs.Common.{refl, sym, ◌∙◌}
use Rattle.changes_commands.proofs.LogReaderLemmas.{keeps_back}
use Rattle.changes_commands.proofs.log_reader.LogReaderRead.read.Goals as goal

pub returns-then-not-is_empty-clause-kept : goal.returns-then-not-is_empty-clause-kept
returns-then-not-is_empty-clause-kept g c = keeps_back c.args.self.now _ _ refl (rw (c.split_at.ensures.back, c.deref.ensures.value) at (sym c.is_empty.ensures ∙ c.if-not-is_empty.true))
