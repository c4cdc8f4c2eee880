use Rattle.std.proofs.Common.{sym}
use Rattle.rows_cells.proofs.RowLemmas.{lenenc-read, lenenc-failed}
use Rattle.rows_cells.proofs.image.split_lenenc.Goals as goal

pub returns-in-Some : goal.returns-in-Some
returns-in-Some c = sym (lenenc-read _ _ _ c.in-Some.ensures.some.begins)

pub returns-in-None : goal.returns-in-None
returns-in-None c = rw c.lenenc_fault.ensures (sym (lenenc-failed _ c.in-None.ensures.none.0))
