use Rattle.std.proofs.Common.{◌++◌, ◌∷◌, [], ℕ, List, map, ap, sym, ◌∙◌, append_assoc, arith}
use Rattle.std.specs.List.{range_with_len}
use Rattle.std.proofs.lemmas.List.FromFn.{map-range_with_len_more}
use Rattle.feed_text.specs.Buffers.{text_in}
use Rattle.changes_statements.proofs.quoting.put_zeros.Goals as goal

pub loop-index-preserved : goal.loop-index-preserved
loop-index-preserved c =
    let i = c.loop-index.index in
    let start = text_in c.args.out.now in
    let f : ℕ → ℕ = λ k. 48 in
    c.in_ok-put.ensures.ok
    ∙ ap (λ (t : List ℕ). t ++ 48 ∷ []) c.loop-index.invariant
    ∙ append_assoc start (map f (range_with_len 0 i)) (48 ∷ [])
    ∙ ap (λ (t : List ℕ). start ++ t) (sym (map-range_with_len_more f 0 i i (omega arith)))
