use Rattle.std.proofs.Common.{arith, sym, ◌∙◌, refl}
use Rattle.wire_buf.specs.Encoding.{Alone}
use Rattle.wire_buf.specs.Numbers.{IsLenenc, two, three, eight}
use Rattle.wire_fields_extra.specs.ReaderValues.{FailsFrom}
use Rattle.wire_fields_extra.proofs.LenencStreamLemmas.{single, reads_one, reads_tail, two_short, three_short, eight_short, fails_bad, fails_tail}
use Rattle.wire_fields_extra.proofs.StreamLemmas.{IfErr-same}
use Rattle.wire_fields_extra.proofs.read_ext.ReadMysqlExt.read_lenenc_int.Goals as goal

pub returns-then-first-le250-clause-ok : goal.returns-then-first-le250-clause-ok
returns-then-first-le250-clause-ok g c =
    reads_one _ _ _ _ (single _ _ c.read_exact.auto.buf (sym c.from.ensures)) (omega arith) c.in_ok-read_exact.ensures.ok

pub returns-in_err-read_exact-2-clause-err : goal.returns-in_err-read_exact-2-clause-err
returns-in_err-read_exact-2-clause-err g c =
    IfErr-same _ _ (λ e. FailsFrom (Alone IsLenenc) e _ _) c.from_residual-in_err-read_exact-2.ensures
    (fails_tail 252 2 _ _ _ _ _ (single _ _ c.read_exact.auto.buf c.if-first.true) c.in_ok-read_exact.ensures.ok two_short c.in_err-read_exact-2.ensures.err)

pub returns-then-first-clause-ok : goal.returns-then-first-clause-ok
returns-then-first-clause-ok g c =
    reads_tail 252 _ _ _ _ _ _ (single _ _ c.read_exact.auto.buf c.if-first.true) c.in_ok-read_exact.ensures.ok c.in_ok-read_exact-2.ensures.ok
    (two (record { size = c.read_exact-then-first.auto.buf; value_is = c.from-then-first.ensures ∙ c.read_u16.ensures }))

pub returns-in_err-read_exact-3-clause-err : goal.returns-in_err-read_exact-3-clause-err
returns-in_err-read_exact-3-clause-err g c =
    IfErr-same _ _ (λ e. FailsFrom (Alone IsLenenc) e _ _) c.from_residual-in_err-read_exact-3.ensures
    (fails_tail 253 3 _ _ _ _ _ (single _ _ c.read_exact.auto.buf c.if-first-2.true) c.in_ok-read_exact.ensures.ok three_short c.in_err-read_exact-3.ensures.err)

pub returns-then-first-2-clause-ok : goal.returns-then-first-2-clause-ok
returns-then-first-2-clause-ok g c =
    reads_tail 253 _ _ _ _ _ _ (single _ _ c.read_exact.auto.buf c.if-first-2.true) c.in_ok-read_exact.ensures.ok c.in_ok-read_exact-3.ensures.ok
    (three (record { size = c.read_exact-then-first-2.auto.buf; value_is = c.from-then-first-2.ensures ∙ c.read_u24.ensures }))

pub returns-in_err-read_exact-4-clause-err : goal.returns-in_err-read_exact-4-clause-err
returns-in_err-read_exact-4-clause-err g c =
    IfErr-same _ _ (λ e. FailsFrom (Alone IsLenenc) e _ _) c.from_residual-in_err-read_exact-4.ensures
    (fails_tail 254 8 _ _ _ _ _ (single _ _ c.read_exact.auto.buf c.if-first-3.true) c.in_ok-read_exact.ensures.ok eight_short c.in_err-read_exact-4.ensures.err)

pub returns-then-first-3-clause-ok : goal.returns-then-first-3-clause-ok
returns-then-first-3-clause-ok g c =
    reads_tail 254 _ _ _ _ _ _ (single _ _ c.read_exact.auto.buf c.if-first-3.true) c.in_ok-read_exact.ensures.ok c.in_ok-read_exact-4.ensures.ok
    (eight (record { size = c.read_exact-then-first-3.auto.buf; value_is = c.read_u64.ensures }))

pub returns-clause-err : goal.returns-clause-err
returns-clause-err g c =
    fails_bad _ _ _ _ (single _ _ c.read_exact.auto.buf refl) (omega arith) c.if-first.false c.if-first-2.false c.if-first-3.false c.in_ok-read_exact.ensures.ok
