use Rattle.std.proofs.Common.{refl}
use Rattle.rows_cells.specs.Cells.{cell_at}
use Rattle.changes_cells.proofs.FixedLemmas.{unreadable}
use Rattle.changes_cells.proofs.fixed.put_fixed_field.Goals as goal

pub returns-in-NoMetadata : goal.returns-in-NoMetadata
unfolding cell_at
returns-in-NoMetadata c = (refl, rw c.in-NoMetadata.is refl)

pub returns-in_default : goal.returns-in_default
returns-in_default c =
    let d = c.in_default in
    (refl, unreadable c.args.format c.args.bytes.now c.requires.fixed d.not-Float d.not-Double d.not-Year d.not-NewDate d.not-OldTime d.not-OldDatetime d.not-Timestamp2 d.not-Datetime2 d.not-Time2 d.not-Decimal d.not-NoMetadata)
