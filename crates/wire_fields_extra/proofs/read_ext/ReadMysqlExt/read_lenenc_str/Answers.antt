use Rattle.std.proofs.Common.{◌⊎◌, subst}
use Rattle.wire_buf.specs.Encoding.{Alone}
use Rattle.wire_buf.specs.Numbers.{IsLenencString}
use Rattle.wire_buf.specs.Transfers.{Gathers}
use Rattle.wire_fields_extra.specs.ReaderValues.{FailsFrom, RunsOutOfMemory}
use Rattle.wire_fields_extra.proofs.StreamLemmas.{IfErr-same}
use Rattle.wire_fields_extra.proofs.LenencStreamLemmas.{fails_string, reads_string, fails_cut}
use Rattle.wire_fields_extra.proofs.read_ext.ReadMysqlExt.read_lenenc_str.Goals as goal

pub returns-in_err-length-clause-err : goal.returns-in_err-length-clause-err
returns-in_err-length-clause-err g c =
    IfErr-same _ _ (λ e. FailsFrom (Alone IsLenencString) e _ _ ⊎ RunsOutOfMemory e _ _) c.from_residual.ensures (fails_string _ _ _ c.in_err-length.ensures.err)

pub returns-in_err-read_more-clause-err : goal.returns-in_err-read_more-clause-err
returns-in_err-read_more-clause-err g c =
    IfErr-same _ _ (λ e. FailsFrom (Alone IsLenencString) e _ _ ⊎ RunsOutOfMemory e _ _) c.from_residual-in_err-read_more.ensures
    (fails_cut _ _ _ _ _ _ _ c.in_ok-length.ensures.ok c.in_err-read_more.ensures.err)

pub returns-clause-ok : goal.returns-clause-ok
returns-clause-ok g c = reads_string _ _ _ _ _ c.in_ok-length.ensures.ok
    (subst (λ l. Gathers c.in_ok-length.length (g.Self.Read.remaining c.read_lenenc_int.new.self) (g.Self.Read.remaining c.read_more.new.reader) l c.read_more.new.out.items) c.new-text.ensures.items c.in_ok-read_more.ensures.ok)
