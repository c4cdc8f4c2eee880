use Rattle.std.proofs.Common.{refl, sym, ◌∙◌}
use Rattle.std.proofs.lemmas.Slice.Eq.{bytes_eq-Decides}
use Rattle.program_changes.proofs.changes.LineSink.rename.Goals as goal

pub returns-then-eq-clause-ok : goal.returns-then-eq-clause-ok
returns-then-eq-clause-ok g c = sym c.as_slice.ensures.value ∙ (bytes_eq-Decides c.as_slice.result.now c.args.file.now).0 (sym c.eq.ensures ∙ c.if-eq.true)

pub returns-then-eq-clause-kept : goal.returns-then-eq-clause-kept
returns-then-eq-clause-kept g c = record { file = c.args.self.now.file; lines = c.args.self.now.lines; form = refl; is = refl }

pub returns-in_err-extend_from_slice-clause-kept : goal.returns-in_err-extend_from_slice-clause-kept
returns-in_err-extend_from_slice-clause-kept g c = record { file = c.extend_from_slice.new.self; lines = c.args.self.now.lines; form = refl; is = refl }

pub returns-clause-kept : goal.returns-clause-kept
returns-clause-kept g c = record { file = c.extend_from_slice.new.self; lines = c.begin_log.new.self; form = c.begin_log.ensures.kept; is = refl }
