use Rattle.std.proofs.Common.{◌≡◌, drop}
use Rattle.changes_statements.specs.SqlLiterals.{has_no_text}
use Rattle.changes_statements.proofs.documents.has_no_text.Given as goal

abbrev pub invariant-loop-byte : goal.invariant-loop-byte
invariant-loop-byte l = has_no_text (drop l.byte-index l.text) ≡ has_no_text l.text
