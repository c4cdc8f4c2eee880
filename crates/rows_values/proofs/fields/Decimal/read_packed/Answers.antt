use Rattle.std.proofs.Common.{refl}
use Rattle.std.proofs.lemmas.Result.{IfOk-from_err}
use Rattle.rows_values.specs.Decimals.{FailsPacked}
use Rattle.rows_values.proofs.ReadingLemmas.{exit_same, packed_cut, packed_err, packed_ok, two_taken}
use Rattle.rows_values.proofs.fields.Decimal.read_packed.Goals as goal

pub returns-in_err-read_exact-clause-err : goal.returns-in_err-read_exact-clause-err
returns-in_err-read_exact-clause-err g c =
    exit_same _ _ (λ e. FailsPacked e (g.R.Read.remaining c.args.input.now) (g.R.Read.remaining c.read_exact.new.reader)) c.from_residual.ensures (packed_cut _ _ _ _ refl c.in_err-read_exact.ensures.err)

pub returns-clause-err : goal.returns-clause-err
returns-clause-err g c =
    let two = two_taken c.read_exact.new.buf c.from.result c.from-2.result _ _ c.read_exact.auto.buf c.from.ensures c.from-2.ensures c.in_ok-read_exact.ensures.ok in
    packed_err c.from.result c.from-2.result _ _ _ (g.R.Read.remaining c.read_exact.new.reader) _ _ refl refl two c.read_bin.ensures.err

pub returns-in_err-read_exact-clause-ok : goal.returns-in_err-read_exact-clause-ok
returns-in_err-read_exact-clause-ok g c = IfOk-from_err c.from_residual.result _ c.from_residual.ensures.0

pub returns-clause-ok : goal.returns-clause-ok
returns-clause-ok g c =
    let two = two_taken c.read_exact.new.buf c.from.result c.from-2.result _ _ c.read_exact.auto.buf c.from.ensures c.from-2.ensures c.in_ok-read_exact.ensures.ok in
    packed_ok c.args.keep_precision c.from.result c.from-2.result _ _ _ _ two c.read_bin.ensures.ok
