use Rattle.std.proofs.Common.{◌+◌, arith, refl, sym, subst, ◌∙◌}
use Rattle.wire_fields_extra.specs.TrailingOnes.{HasTrailingOnes}
use Rattle.wire_fields_extra.proofs.OnesLemmas.{none_lacks, long_lacks, long_reads, short_lacks, short_reads_code, full_byte, part_byte}
use Rattle.wire_fields_extra.proofs.varlen_uint.read_varlen_uint.Goals as goal

pub returns-in_default-clause-err : goal.returns-in_default-clause-err
returns-in_default-clause-err c = (refl, none_lacks _ c.in_default.ensures.none.missing, refl)

pub returns-in_default-checked_eat_u64_le-clause-err : goal.returns-in_default-checked_eat_u64_le-clause-err
returns-in_default-checked_eat_u64_le-clause-err c =
    let e = c.in-Some.ensures.some in
    let full = full_byte _ _ c.if-ones-eq8.true c.trailing_ones-ones.ensures in
    (refl, long_lacks _ _ (sym e.value_is ∙ full) e.rest c.in_default-checked_eat_u64_le.ensures.none.missing, refl)

pub returns-then-ones-eq8-clause-ok : goal.returns-then-ones-eq8-clause-ok
returns-then-ones-eq8-clause-ok c =
    let e = c.in-Some.ensures.some in
    let full = full_byte _ _ c.if-ones-eq8.true c.trailing_ones-ones.ensures in
    let v = c.in-Some-checked_eat_u64_le.ensures.some in
    long_reads _ _ _ _ e.room (sym e.value_is ∙ full) e.rest v.room v.value_is v.rest

pub returns-then-len-size-clause-err : goal.returns-then-len-size-clause-err
returns-then-len-size-clause-err c =
    let e = c.in-Some.ensures.some in
    let part = part_byte _ _ c.if-ones-eq8.false c.trailing_ones-ones.ensures in
    let ones = subst (λ b. HasTrailingOnes c.trailing_ones-ones.result b) e.value_is part.1 in
    (refl, short_lacks _ part.0 _ ones (omega arith), refl)

pub returns-clause-ok : goal.returns-clause-ok
returns-clause-ok c =
    let e = c.in-Some.ensures.some in
    let part = part_byte _ _ c.if-ones-eq8.false c.trailing_ones-ones.ensures in
    let ones = subst (λ b. HasTrailingOnes c.trailing_ones-ones.result b) e.value_is part.1 in
    short_reads_code c.trailing_ones-ones.result (c.trailing_ones-ones.result + 1) _ _ _ part.0 ones (omega arith) (omega arith) c.read_uint-number.ensures c.skip.ensures
