use Rattle.std.proofs.Common.{refl}
use Rattle.wire_buf.specs.LenencSplit.{split_number, split_lenenc}
use Rattle.wire_packets.specs.Framing.{slice_of, chunks, framings, sequence_id_after}
use Rattle.wire_packets.specs.Packets.{payload_in, packets_in}
use Rattle.wire_fields.specs.Version.{number_at, after_point, numbers_at}
use Rattle.feed_checks.specs.BodyReaders.{rotate_in, table_map_in}
use Rattle.feed_checks.specs.EventFields.{parts, description_of, in_force}
use Rattle.feed_checks.specs.Kinds.{kind_by}
use Rattle.feed_checks.specs.Damage.{frame_fault, algorithm_fault, checksum_fault, size_fault, damage_of}
use Rattle.feed_transactions.specs.Rules.{up_to_fault, fault_after}
use Rattle.feed_checks.specs.LogFormat.{events_in}
use Rattle.feed_replication.specs.RequestedPackets.{payload_of_packet}
use Rattle.feed_replication.specs.Positions.{events_within, is_event_boundary}
use Rattle.feed_replication.specs.Serving.{damage_before, rejection_or_fault, answer}
use Rattle.binlog_feed.proofs.worked_serving.worked_dumps.Goals as goal

pub returns-clause-whole : goal.returns-clause-whole
unfolding split_number split_lenenc number_at after_point numbers_at slice_of chunks framings sequence_id_after payload_in packets_in table_map_in rotate_in parts description_of in_force kind_by frame_fault algorithm_fault checksum_fault size_fault damage_of up_to_fault fault_after events_in events_within is_event_boundary damage_before rejection_or_fault answer payload_of_packet
returns-clause-whole c = refl

pub returns-clause-another_number : goal.returns-clause-another_number
unfolding split_number split_lenenc number_at after_point numbers_at slice_of chunks framings sequence_id_after payload_in packets_in table_map_in rotate_in parts description_of in_force kind_by frame_fault algorithm_fault checksum_fault size_fault damage_of up_to_fault fault_after events_in events_within is_event_boundary damage_before rejection_or_fault answer payload_of_packet
returns-clause-another_number c = refl

pub returns-clause-another_flag : goal.returns-clause-another_flag
unfolding split_number split_lenenc number_at after_point numbers_at slice_of chunks framings sequence_id_after payload_in packets_in table_map_in rotate_in parts description_of in_force kind_by frame_fault algorithm_fault checksum_fault size_fault damage_of up_to_fault fault_after events_in events_within is_event_boundary damage_before rejection_or_fault answer payload_of_packet
returns-clause-another_flag c = refl

pub returns-clause-another_name : goal.returns-clause-another_name
unfolding split_number split_lenenc number_at after_point numbers_at slice_of chunks framings sequence_id_after payload_in packets_in table_map_in rotate_in parts description_of in_force kind_by frame_fault algorithm_fault checksum_fault size_fault damage_of up_to_fault fault_after events_in events_within is_event_boundary damage_before rejection_or_fault answer payload_of_packet
returns-clause-another_name c = refl

pub returns-clause-another_position : goal.returns-clause-another_position
unfolding split_number split_lenenc number_at after_point numbers_at slice_of chunks framings sequence_id_after payload_in packets_in table_map_in rotate_in parts description_of in_force kind_by frame_fault algorithm_fault checksum_fault size_fault damage_of up_to_fault fault_after events_in events_within is_event_boundary damage_before rejection_or_fault answer payload_of_packet
returns-clause-another_position c = refl

pub returns-clause-no_request : goal.returns-clause-no_request
unfolding split_number split_lenenc number_at after_point numbers_at slice_of chunks framings sequence_id_after payload_in packets_in table_map_in rotate_in parts description_of in_force kind_by frame_fault algorithm_fault checksum_fault size_fault damage_of up_to_fault fault_after events_in events_within is_event_boundary damage_before rejection_or_fault answer payload_of_packet
returns-clause-no_request c = refl

pub returns-clause-bytes_after : goal.returns-clause-bytes_after
unfolding split_number split_lenenc number_at after_point numbers_at slice_of chunks framings sequence_id_after payload_in packets_in table_map_in rotate_in parts description_of in_force kind_by frame_fault algorithm_fault checksum_fault size_fault damage_of up_to_fault fault_after events_in events_within is_event_boundary damage_before rejection_or_fault answer payload_of_packet
returns-clause-bytes_after c = refl
