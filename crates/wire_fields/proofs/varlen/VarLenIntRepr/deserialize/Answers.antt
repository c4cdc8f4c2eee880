use Rattle.std.proofs.Common.{◌≤◌, ◌<◌, ◌^◌, sym, arith}
use Rattle.wire_fields.proofs.SevenLemmas.{varlen_reads, varlen_lacks, varlen_lacks_big, varlen_fault-found}
use Rattle.wire_fields.proofs.varlen.VarLenIntRepr.deserialize.Goals as goal

pub returns-in_default-clause-err : goal.returns-in_default-clause-err
returns-in_default-clause-err c = (varlen_lacks _ (sym c.in_default.ensures), c.missing_fault.ensures)

pub returns-then-value-gt4294967295-clause-err : goal.returns-then-value-gt4294967295-clause-err
returns-then-value-gt4294967295-clause-err c =
    let big : 2 ^ 32 ≤ c.in-Some.value = omega arith in
    let found = sym c.in-Some.ensures in
    (varlen_lacks_big _ _ _ found big, sym (varlen_fault-found _ _ _ found))

pub returns-clause-ok : goal.returns-clause-ok
returns-clause-ok c =
    let fits : c.in-Some.value < 2 ^ 32 = omega arith in
    varlen_reads _ _ _ (sym c.in-Some.ensures) fits
