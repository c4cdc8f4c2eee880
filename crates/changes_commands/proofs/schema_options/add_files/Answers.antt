use Rattle.std.proofs.Common.{sym, ◌∙◌, refl, [], arith, append-nil}
use Rattle.changes_commands.specs.SchemaOptions.{AreFiles}
use Rattle.changes_commands.proofs.SchemaOptionLemmas.{adds_all, adds_more, pushed, unusable}
use Rattle.changes_commands.proofs.schema_options.add_files.Goals as goal

pub loop-word-init : goal.loop-word-init
loop-word-init c = record { added = []; are = AreFiles.no_files; after = sym (append-nil _); places = λ e. refl }

pub returns-then-is_unusable-clause-err : goal.returns-then-is_unusable-clause-err
returns-then-is_unusable-clause-err c =
    unusable c.args.zone.now c.args.is_answer c.args.words.now c.loop-word.word-index (record { ref_ptr = (0, 0); now = [] }) c.file_of-file.result c.loop-word-test.true c.file_of-file.ensures
    (sym c.is_unusable.ensures ∙ c.if-is_unusable.true)

pub loop-word-preserved : goal.loop-word-preserved
loop-word-preserved c =
    adds_more c.args.zone.now c.args.is_answer c.args.words.now c.loop-word.word-index (record { ref_ptr = (0, 0); now = [] }) c.args.files.now.items c.loop-word.files.items c.push.new.self.items c.file_of-file.result c.loop-word-test.true
    c.loop-word.invariant c.file_of-file.ensures (sym c.is_unusable.ensures ∙ c.if-is_unusable.false)
    (pushed _ c.is_err.result c.loop-word.files.items c.push.new.self.items c.file_of-file.result c.push.ensures.items c.is_err.ensures.negation c.if-is_err.false)

pub returns-clause-ok : goal.returns-clause-ok
returns-clause-ok c =
    adds_all c.args.zone.now c.args.is_answer c.args.words.now c.loop-word.word-index _ _ (omega (arith, c.loop-word-test.false)) c.loop-word.invariant
