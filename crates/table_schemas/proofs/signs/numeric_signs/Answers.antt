use Rattle.std.proofs.Common.{◌<◌, ◌∙◌, length, sym, arith}
use Rattle.table_schemas.specs.YearSigns.{numeric_signs}
use Rattle.table_schemas.proofs.SignLemmas.{sign_found, sign_missing}
use Rattle.table_schemas.proofs.signs.numeric_signs.Goals as goal
use Rattle.table_schemas.proofs.signs.numeric_signs.Goals.{then-has_sign+in_ok-push_sign, else-has_sign}

pub loop-number-preserved : goal.loop-number-preserved
loop-number-preserved c =
    let l = c.loop-number in
    let types = c.args.types.now in
    let value = c.args.value.now in
    let whole = numeric_signs types value in
    let within : l.number-index < length types = omega arith in
    elim c.if-has_sign.branch [
      | then-has_sign+in_ok-push_sign w ↦ rw (w.signs-is, w.next-is)
          (omega arith, sign_found l.signs.items w.push_sign.new.signs.items whole types l.number-index value l.next w.sign_at.result within (sym c.has_sign.ensures ∙ w.if-has_sign.true) w.sign_at.ensures w.in_ok-push_sign.ensures l.invariant.1)
      | else-has_sign w ↦ rw (w.signs-is, w.next-is)
          (omega arith, sign_missing l.signs.items whole types l.number-index value l.next within (sym c.has_sign.ensures ∙ w.if-has_sign.false) l.invariant.1)
    ]
