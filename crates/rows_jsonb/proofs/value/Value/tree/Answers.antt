use Rattle.std.proofs.lemmas.Result.{err_from_is_err_and}
use Rattle.rows_jsonb.specs.DocumentTrees.{tree_of, values_read, container_len}
use Rattle.rows_jsonb.specs.JsonbViews.{jsonb_value}
use Rattle.rows_jsonb.proofs.Building.{counts}
use Rattle.rows_jsonb.proofs.SoundLemmas.{tree_sound, parse_failed, nameless_fault}
use Rattle.rows_jsonb.proofs.value.Value.tree.Goals as goal

pub returns-in_err-tree-clause-tree : goal.returns-in_err-tree-clause-tree
returns-in_err-tree-clause-tree c =
    let p = err_from_is_err_and c.from_residual.result c.from_residual.ensures.1 in
    let s = jsonb_value c.args.self.now in
    rw (p.1, p.2) (parse_failed (container_len s) (values_read 100 s) _ (tree_of 100 s) (tree_sound 100 s) (counts 100 s) (rw c.size.ensures.value at c.in_err-tree.ensures))

pub returns-in_err-tree-clause-nameless : goal.returns-in_err-tree-clause-nameless
returns-in_err-tree-clause-nameless c =
    let p = err_from_is_err_and c.from_residual.result c.from_residual.ensures.1 in
    let s = jsonb_value c.args.self.now in
    rw (p.1, p.2) (nameless_fault (container_len s) (values_read 100 s) _ (tree_of 100 s) (rw c.size.ensures.value at c.in_err-tree.ensures))
