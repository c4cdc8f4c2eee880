use Rattle.std.proofs.Common.{map, take}
use Rattle.changes_commands.specs.SchemaOptions.{file_view, texts, AddsFiles}
use Rattle.changes_commands.proofs.schema_options.add_files.Given as goal

abbrev pub invariant-loop-word : goal.invariant-loop-word
invariant-loop-word l = AddsFiles l.zone l.is_answer (take l.word-index (texts l.words)) (map file_view l.initial.files.items) (map file_view l.files.items)
