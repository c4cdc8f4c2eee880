use Rattle.std.proofs.Common.{rules}
use Rattle.std.proofs.lemmas.Result.{on_ok_weaker}
use Rattle.rows_cells.specs.CellViews.{cell_value}
use Rattle.feed_text.specs.CellText.{cell_value_text}
use Rattle.feed_text.proofs.CellLemmas.{bytes_text, decimal_appended}
use Rattle.feed_text.proofs.BufferLemmas.{appended_after, decimal_after, document_after}
use Rattle.feed_text.proofs.buffer.TextBuffer.put_cell.Goals as goal

pub returns-in-Bytes-clause-ok : goal.returns-in-Bytes-clause-ok
returns-in-Bytes-clause-ok g c =
    on_ok_weaker c.truncate_and_put_quoted.result (λ e. appended_after c.args.column (cell_value_text (cell_value c.args.cell)) _ _ _ _ (bytes_text _ _ c.in-Bytes.ensures) c.in-Ok.ensures.text e) c.truncate_and_put_quoted.ensures.ok

pub returns-else-precision-gt-FEW_DIGITS-clause-ok : goal.returns-else-precision-gt-FEW_DIGITS-clause-ok
returns-else-precision-gt-FEW_DIGITS-clause-ok g c =
    on_ok_weaker c.truncate_and_put_decimal.result (λ e. decimal_appended c.args.column c.args.cell _ _ _ _ _ c.in-Decimal.ensures (decimal_after c.args.column _ _ _ _ c.in-Ok.ensures.text e)) c.truncate_and_put_decimal.ensures.ok

pub returns-then-truncate_and_put_direct-clause-ok : goal.returns-then-truncate_and_put_direct-clause-ok
returns-then-truncate_and_put_direct-clause-ok g c = document_after c.args.column (cell_value c.args.cell) _ _ _ _ c.in-Json.ensures c.in-Ok.ensures.text (c.truncate_and_put_direct.ensures.yes (search rules))
