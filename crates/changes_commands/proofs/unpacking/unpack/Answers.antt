use Rattle.std.proofs.Common.{◌∙◌, sym, ap}
use Rattle.std.proofs.lemmas.Result.{IfErr-weaker, IfOk-weaker}
use Rattle.wire_buf.proofs.EncodingLemmas.{IfErr-of_same}
use Rattle.wire_buf.specs.Watched.{inner_of, has_failed}
use Rattle.changes_commands.specs.Unpacked.{compression_of}
use Rattle.changes_commands.proofs.UnpackingLemmas.{unpacks_plain, unpacks_gzip, unpacks_zstandard, damaged_gzip, damaged_zstandard}
use Rattle.changes_commands.proofs.unpacking.unpack.Goals as goal

pub returns-in_err-take_first-clause-err : goal.returns-in_err-take_first-clause-err
returns-in_err-take_first-clause-err g c = IfErr-of_same _ _ _ c.from_residual.ensures (λ file is. c.in_err-take_first.ensures.err file)

pub returns-in_err-take_rest-in-Gzip-clause-err : goal.returns-in_err-take_rest-in-Gzip-clause-err
returns-in_err-take_rest-in-Gzip-clause-err g c = IfErr-of_same _ _ _ c.from_residual-in_err-take_rest-in-Gzip.ensures (λ file is. c.in_err-take_rest-in-Gzip.ensures.err file)

pub returns-in_err-take_rest-in-Zstandard-clause-err : goal.returns-in_err-take_rest-in-Zstandard-clause-err
returns-in_err-take_rest-in-Zstandard-clause-err g c = IfErr-of_same _ _ _ c.from_residual-in_err-take_rest-in-Zstandard.ensures (λ file is. c.in_err-take_rest-in-Zstandard.ensures.err file)

pub returns-in-Absent-clause-ok : goal.returns-in-Absent-clause-ok
returns-in-Absent-clause-ok g c = λ file is.
    unpacks_plain file c.take_first.new.bytes.items (g.R.Read.remaining (inner_of c.take_first.new.reader)) (c.in_ok-take_first.ensures.ok file is) (ap compression_of (sym c.deref.ensures.value) ∙ sym c.of.ensures ∙ c.in-Absent.is)

pub returns-in_ok-take_rest-in-Gzip-clause-ok : goal.returns-in_ok-take_rest-in-Gzip-clause-ok
returns-in_ok-take_rest-in-Gzip-clause-ok g c = IfOk-weaker c.gunzip.result _ _ (λ content log file is.
    let b = c.in_ok-take_first.ensures.ok file is in
    unpacks_gzip file c.take_first.new.bytes.items (g.R.Read.remaining (inner_of c.take_first.new.reader)) b c.take_rest.new.bytes.items (g.R.Read.remaining (inner_of c.take_rest.new.reader)) (c.in_ok-take_rest-in-Gzip.ensures.ok b.rest b.left_is)
    (ap compression_of (sym c.deref.ensures.value) ∙ sym c.of.ensures ∙ c.in-Gzip.is) content.items (rw c.deref-in-Gzip.ensures.value at log)) c.gunzip.ensures.ok

pub returns-in_ok-take_rest-in-Gzip-clause-err : goal.returns-in_ok-take_rest-in-Gzip-clause-err
returns-in_ok-take_rest-in-Gzip-clause-err g c = IfErr-weaker c.gunzip.result _ _ (λ e why file is.
    damaged_gzip file c.take_first.new.bytes.items (g.R.Read.remaining (inner_of c.take_first.new.reader)) (c.in_ok-take_first.ensures.ok file is) (ap compression_of (sym c.deref.ensures.value) ∙ sym c.of.ensures ∙ c.in-Gzip.is) (has_failed c.take_rest.new.reader) e why) c.gunzip.ensures.err

pub returns-in_ok-take_rest-in-Zstandard-clause-ok : goal.returns-in_ok-take_rest-in-Zstandard-clause-ok
returns-in_ok-take_rest-in-Zstandard-clause-ok g c = IfOk-weaker c.unzstd.result _ _ (λ content log file is.
    let b = c.in_ok-take_first.ensures.ok file is in
    unpacks_zstandard file c.take_first.new.bytes.items (g.R.Read.remaining (inner_of c.take_first.new.reader)) b c.take_rest-in-Zstandard.new.bytes.items (g.R.Read.remaining (inner_of c.take_rest-in-Zstandard.new.reader)) (c.in_ok-take_rest-in-Zstandard.ensures.ok b.rest b.left_is)
    (ap compression_of (sym c.deref.ensures.value) ∙ sym c.of.ensures ∙ c.in-Zstandard.is) content.items (rw c.deref-in-Zstandard.ensures.value at log)) c.unzstd.ensures.ok

pub returns-in_ok-take_rest-in-Zstandard-clause-err : goal.returns-in_ok-take_rest-in-Zstandard-clause-err
returns-in_ok-take_rest-in-Zstandard-clause-err g c = IfErr-weaker c.unzstd.result _ _ (λ e why file is.
    damaged_zstandard file c.take_first.new.bytes.items (g.R.Read.remaining (inner_of c.take_first.new.reader)) (c.in_ok-take_first.ensures.ok file is) (ap compression_of (sym c.deref.ensures.value) ∙ sym c.of.ensures ∙ c.in-Zstandard.is) (has_failed c.take_rest-in-Zstandard.new.reader) e why) c.unzstd.ensures.err
