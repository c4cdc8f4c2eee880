use Rattle.std.proofs.Common.{◌≡◌, ◌++◌, map}
use Rattle.changes_stats.specs.TableNames.{names_after, names_text}
use Rattle.changes_stats.specs.TableSums.{named_counts, tables_in}
use Rattle.changes_stats.proofs.largest.names_of.Given as goal

abbrev pub invariant-loop-name : goal.invariant-loop-name
invariant-loop-name l = l.names.items ++ names_after (map (λ t. t.name) (map named_counts l.name-iterator)) ≡ names_text (map (λ t. t.name) (tables_in l.tables))
