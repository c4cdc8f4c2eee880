use Rattle.std.proofs.Common.{◌≡◌, ◌++◌, ◌∷◌, map, take}
use Rattle.std.specs.List.{flat_map}
use Rattle.changes_tables.specs.PrimaryKeys.{name_json}
use Rattle.changes_tables.proofs.key.append_names.Given as goal

abbrev pub invariant-loop-column : goal.invariant-loop-column
invariant-loop-column l = l.out.items ≡ l.initial.out.items ++ flat_map (λ i. 44 ∷ name_json (map (λ n. n.items) l.names) i) (take l.column-index l.columns)
