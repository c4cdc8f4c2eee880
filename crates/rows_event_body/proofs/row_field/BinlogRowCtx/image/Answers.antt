use Rattle.std.proofs.Common.{◌≡◌, arith}
use Rattle.rows_table_map.specs.BitLists.{len_of}
use Rattle.rows_event_body.proofs.RowFieldLemmas.{planned_image, planned_definitions}
use Rattle.rows_event_body.proofs.row_field.BinlogRowCtx.image.Goals as goal

pub returns-in-Ok-clause-shape : goal.returns-in-Ok-clause-shape
returns-in-Ok-clause-shape c =
    let len : len_of c.args.self.now.columns ≡ c.args.self.now.num_columns = omega arith in
    rw (planned_image c.args.self.now c.in-Ok.plan c.in-Ok.ensures len) c.new-in-Ok.ensures.shape

pub returns-in-Ok-clause-definitions : goal.returns-in-Ok-clause-definitions
returns-in-Ok-clause-definitions c =
    let len : len_of c.args.self.now.columns ≡ c.args.self.now.num_columns = omega arith in
    rw (planned_definitions c.args.self.now c.in-Ok.plan c.in-Ok.ensures len) c.new-in-Ok.ensures.definitions

pub returns-in-Ok-clause-err : goal.returns-in-Ok-clause-err
returns-in-Ok-clause-err c =
    let len : len_of c.args.self.now.columns ≡ c.args.self.now.num_columns = omega arith in
    rw (planned_image c.args.self.now c.in-Ok.plan c.in-Ok.ensures len) c.new-in-Ok.ensures.err
