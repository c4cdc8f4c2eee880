use Rattle.std.proofs.Common.{rules, ◌∙◌}
use Rattle.std.proofs.lemmas.Int.{to_z-of_z}
use mir.Syntax.{w8, w16, w32, w64}
use Rattle.rows_cells.proofs.fields.signed.Goals as goal

pub returns-in-One : goal.returns-in-One
returns-in-One c =
    let widened = to_z-of_z w64 c.from.result (search rules) in
    let kept = to_z-of_z w8 c.cast_signed.result (search rules) in
    rw c.in-One.is (widened ∙ (c.from.ensures ∙ (kept ∙ (c.cast_signed.ensures ∙ (search rules)))))

pub returns-in-Two : goal.returns-in-Two
returns-in-Two c =
    let widened = to_z-of_z w64 c.from-in-Two.result (search rules) in
    let kept = to_z-of_z w16 c.read_i16.result (search rules) in
    rw c.in-Two.is (widened ∙ (c.from-in-Two.ensures ∙ (kept ∙ (c.read_i16.ensures ∙ (search rules)))))

pub returns-in-Three : goal.returns-in-Three
returns-in-Three c =
    let widened = to_z-of_z w64 c.from-in-Three.result (search rules) in
    let kept = to_z-of_z w32 c.read_i24.result (search rules) in
    rw c.in-Three.is (widened ∙ (c.from-in-Three.ensures ∙ (kept ∙ c.read_i24.ensures)))

pub returns-in-Four : goal.returns-in-Four
returns-in-Four c =
    let widened = to_z-of_z w64 c.from-in-Four.result (search rules) in
    let kept = to_z-of_z w32 c.read_i32.result (search rules) in
    rw c.in-Four.is (widened ∙ (c.from-in-Four.ensures ∙ (kept ∙ (c.read_i32.ensures ∙ (search rules)))))
