use Rattle.std.proofs.Common.{◌<◌, ◌++◌, length, length-append, arith}
use Rattle.wire_packets.specs.Framing.{max_chunk_len}
use Rattle.feed_replication.proofs.WaitingLemmas.{packet_put}
use Rattle.feed_replication.proofs.packets.keep_packet.Goals as goal

pub returns : goal.returns
returns c =
    let lead = c.args.lead.now in
    let event = c.args.event.now in
    let short : length (c.args.lead.now ++ c.args.event.now) < max_chunk_len = omega (arith, length-append c.args.lead.now c.args.event.now, c.requires.lead, c.requires.short) in
    packet_put c.args.number _ _ _ _ _ lead event c.append.ensures.bytes c.append-2.ensures.bytes c.append-3.ensures.bytes (c.chunk_header.ensures (lead ++ event) (length-append lead event)) short
