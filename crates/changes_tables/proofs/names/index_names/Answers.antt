use Rattle.std.proofs.Common.{ap, sym, ◌∙◌, map, ◌++◌, ◌∷◌, [], List, ℕ, arith}
use Rattle.std.specs.List.{range_with_len}
use Rattle.std.proofs.lemmas.List.FromFn.{map-range_with_len_more}
use Rattle.changes_tables.specs.NamesOfColumns.{index_name}
use Rattle.changes_tables.proofs.NameLemmas.{pushed}
use Rattle.changes_tables.proofs.names.index_names.Goals as goal

pub loop-index-preserved : goal.loop-index-preserved
loop-index-preserved c =
    pushed c.loop-index.names.items c.in_ok-index_name.field-0 c.push.new.self.items c.in_ok-push.ensures.items
    ∙ ap (λ (ns : List (List ℕ)). ns ++ c.in_ok-index_name.field-0.items ∷ []) c.loop-index.invariant
    ∙ ap (λ (n : List ℕ). map index_name (range_with_len 0 c.loop-index.index) ++ n ∷ []) c.in_ok-index_name.ensures
    ∙ sym (map-range_with_len_more index_name 0 c.loop-index.index c.loop-index.index (omega arith))
