use Rattle.std.proofs.Common.{refl}
use Rattle.wire_packets.specs.Framing.{chunks, slice_of, framings, sequence_id_after}
use Rattle.wire_packets.specs.Packets.{payload_in, packets_in, full_run}
use Rattle.mysql_wire.proofs.packet_laws.worked_framings.Goals as goal

pub returns-clause-payload : goal.returns-clause-payload
unfolding chunks slice_of
returns-clause-payload c = refl

pub returns-clause-empty_payload : goal.returns-clause-empty_payload
unfolding chunks slice_of
returns-clause-empty_payload c = refl

pub returns-clause-last_number : goal.returns-clause-last_number
unfolding chunks slice_of
returns-clause-last_number c = refl

pub returns-clause-packets_of_pieces : goal.returns-clause-packets_of_pieces
unfolding packets_in payload_in chunks slice_of
returns-clause-packets_of_pieces c = refl

pub returns-clause-no_fault : goal.returns-clause-no_fault
unfolding packets_in payload_in chunks slice_of full_run framings sequence_id_after
returns-clause-no_fault c = refl

pub returns-clause-too_large : goal.returns-clause-too_large
unfolding packets_in payload_in chunks slice_of full_run framings sequence_id_after
returns-clause-too_large c = refl

pub returns-clause-no_packet : goal.returns-clause-no_packet
unfolding packets_in payload_in chunks slice_of
returns-clause-no_packet c = refl

pub returns-clause-out_of_number : goal.returns-clause-out_of_number
unfolding packets_in payload_in chunks slice_of full_run framings sequence_id_after
returns-clause-out_of_number c = refl
