use Rattle.std.proofs.Common.{◌+◌, drop, get_or, sym, ap, ◌∙◌, arith}
use Rattle.std.proofs.lemmas.List.{drop_more, drop_all}
use Rattle.rows_table_map.specs.ColumnMetadata.{array_size}
use Rattle.rows_table_map.proofs.ArrayLemmas.{size_after, all_of_them, array_unknown, array_nested, array_done, array_ends}
use Rattle.rows_table_map.proofs.columns.array_len.Goals as goal

pub loop-depth-init : goal.loop-depth-init
loop-depth-init c = all_of_them (array_size c.args.bytes.now)

pub returns-in-None : goal.returns-in-None
returns-in-None c =
    let i = c.loop-depth.depth in
    let xs = c.args.bytes.now in
    sym (array_unknown i (get_or xs i 0) (drop (i + 1) xs) (sym c.in-None.ensures)) ∙ ap (λ s. size_after i (array_size s)) (sym (drop_more xs i 0 (omega arith))) ∙ c.loop-depth.invariant

pub returns-in-Some-plain_len : goal.returns-in-Some-plain_len
returns-in-Some-plain_len c =
    let i = c.loop-depth.depth in
    let xs = c.args.bytes.now in
    sym (array_done i (get_or xs i 0) (drop (i + 1) xs) _ _ (sym c.in-Some.ensures) (sym c.in-Some-plain_len.ensures.value)) ∙ ap (λ s. size_after i (array_size s)) (sym (drop_more xs i 0 (omega arith))) ∙ c.loop-depth.invariant

pub loop-depth-preserved : goal.loop-depth-preserved
loop-depth-preserved c =
    let i = c.loop-depth.depth in
    let xs = c.args.bytes.now in
    sym (array_nested i (get_or xs i 0) (drop (i + 1) xs) _ (sym c.in-Some.ensures) (sym c.in-None-plain_len.ensures.value)) ∙ ap (λ s. size_after i (array_size s)) (sym (drop_more xs i 0 (omega arith))) ∙ c.loop-depth.invariant

pub returns : goal.returns
returns c =
    let i = c.loop-depth.depth in
    let xs = c.args.bytes.now in
    sym (array_ends i) ∙ ap (λ s. size_after i (array_size s)) (sym (drop_all i xs (omega arith))) ∙ c.loop-depth.invariant
