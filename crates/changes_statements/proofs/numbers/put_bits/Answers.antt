use Rattle.std.proofs.Common.{◌++◌, ◌∷◌, [], ◌-◌, ℕ, List, map, ap, sym, ◌∙◌, append_assoc, arith}
use Rattle.std.specs.List.{range_with_len}
use Rattle.std.proofs.lemmas.List.FromFn.{map-range_with_len_more}
use Rattle.feed_text.specs.Buffers.{text_in}
use Rattle.changes_statements.specs.SqlNumbers.{bit_digit}
use Rattle.changes_statements.proofs.numbers.put_bits.Goals as goal

pub loop-index-preserved : goal.loop-index-preserved
loop-index-preserved c =
    let i = c.loop-index.index in
    let start = text_in c.put_text.new.self in
    let f : ℕ → ℕ = λ k. bit_digit c.args.number (c.args.count - 1 - k) in
    c.in_ok-put.ensures.ok
    ∙ ap (λ (t : List ℕ). t ++ f i ∷ []) c.loop-index.invariant
    ∙ append_assoc start (map f (range_with_len 0 i)) (f i ∷ [])
    ∙ ap (λ (t : List ℕ). start ++ t) (sym (map-range_with_len_more f 0 i i (omega arith)))
