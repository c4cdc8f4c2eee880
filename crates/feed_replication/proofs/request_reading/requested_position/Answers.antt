use Rattle.std.proofs.Common.{◌≡◌, ◌≤◌, Some, sym, ap, ◌∙◌, length, arith}
use Rattle.std.specs.Prelude.{option_map}
use Rattle.feed_replication.specs.RequestedPackets.{payload_of_packet}
use Rattle.feed_replication.proofs.FileLemmas.{flags_failed, first_is, flags_read}
use Rattle.feed_replication.proofs.request_reading.requested_position.Goals as goal

pub returns-then-read_u16-ne-BINLOG_DUMP_NON_BLOCK-clause-err :
    goal.returns-then-read_u16-ne-BINLOG_DUMP_NON_BLOCK-clause-err
returns-then-read_u16-ne-BINLOG_DUMP_NON_BLOCK-clause-err c =
    let p = c.in-Ok-Some.payload.items in
    let is : payload_of_packet c.args.request.now ≡ Some c.in-Ok-Some.payload.items = sym c.in-Ok-Some.ensures.ok ∙ ap (option_map (λ p. p.items)) c.in-Ok-Some.field-0-is in
    let room : 11 ≤ length c.in-Ok-Some.payload.items = omega (arith, c.if-len-lt-NAME_OFFSET.false, c.len.ensures, sym c.deref.ensures.len, ap length c.deref.ensures.value) in
    flags_failed c.args.request.now c.args.name.now p c.read_u16.result is room (first_is p c.index.result.now room c.index.ensures c.if-index-ne-COM_BINLOG_DUMP.false) (flags_read c.read_u16.result c.deref.result.now p c.read_u16.ensures c.deref.ensures.value) c.if-read_u16-ne-BINLOG_DUMP_NON_BLOCK.true
