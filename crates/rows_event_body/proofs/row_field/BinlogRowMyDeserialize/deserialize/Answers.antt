use Rattle.rows_event_body.proofs.RowFieldLemmas.{row_read, no_row}
use Rattle.rows_event_body.proofs.row_field.BinlogRowMyDeserialize.deserialize.Goals as goal

pub returns-in-Ok-read-clause-ok : goal.returns-in-Ok-read-clause-ok
returns-in-Ok-read-clause-ok c = row_read c.args.ctx c.in-Ok.image c.args.buf.now.0.now c.in-Ok-read.rest.now c.in-Ok-read.row c.in-Ok.ensures.shape c.in-Ok.ensures.definitions c.in-Ok-read.ensures.ok

pub returns-clause-err : goal.returns-clause-err
returns-clause-err c = no_row c.args.ctx c.in-Ok.image c.args.buf.now.0.now c.in-Err-read.fault c.in-Ok.ensures.shape c.in-Err-read.ensures.err
