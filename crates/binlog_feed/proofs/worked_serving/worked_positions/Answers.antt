use Rattle.std.proofs.Common.{refl}
use Rattle.wire_buf.specs.LenencSplit.{split_number, split_lenenc}
use Rattle.wire_packets.specs.Framing.{slice_of, chunks, framings, sequence_id_after}
use Rattle.wire_packets.specs.Packets.{payload_in, packets_in}
use Rattle.wire_fields.specs.Version.{number_at, after_point, numbers_at}
use Rattle.feed_checks.specs.BodyReaders.{rotate_in, table_map_in}
use Rattle.feed_checks.specs.EventFields.{parts, description_of, in_force}
use Rattle.feed_checks.specs.Kinds.{kind_by}
use Rattle.feed_checks.specs.Damage.{frame_fault, algorithm_fault, checksum_fault, size_fault, damage_of}
use Rattle.feed_transactions.specs.Rules.{up_to_fault, fault_after}
use Rattle.feed_checks.specs.LogFormat.{events_in}
use Rattle.feed_replication.specs.RequestedPackets.{payload_of_packet}
use Rattle.feed_replication.specs.Positions.{events_within, is_event_boundary}
use Rattle.feed_replication.specs.Serving.{damage_before, rejection_or_fault, answer}
use Rattle.binlog_feed.proofs.worked_serving.worked_positions.Goals as goal

pub returns-clause-from_the_start : goal.returns-clause-from_the_start
unfolding split_number split_lenenc number_at after_point numbers_at slice_of chunks framings sequence_id_after payload_in packets_in table_map_in rotate_in parts description_of in_force kind_by frame_fault algorithm_fault checksum_fault size_fault damage_of up_to_fault fault_after events_in events_within is_event_boundary damage_before rejection_or_fault answer payload_of_packet
returns-clause-from_the_start c = refl

pub returns-clause-from_the_end : goal.returns-clause-from_the_end
unfolding split_number split_lenenc number_at after_point numbers_at slice_of chunks framings sequence_id_after payload_in packets_in table_map_in rotate_in parts description_of in_force kind_by frame_fault algorithm_fault checksum_fault size_fault damage_of up_to_fault fault_after events_in events_within is_event_boundary damage_before rejection_or_fault answer payload_of_packet
returns-clause-from_the_end c = refl

pub returns-clause-within_an_event : goal.returns-clause-within_an_event
unfolding split_number split_lenenc number_at after_point numbers_at slice_of chunks framings sequence_id_after payload_in packets_in table_map_in rotate_in parts description_of in_force kind_by frame_fault algorithm_fault checksum_fault size_fault damage_of up_to_fault fault_after events_in events_within is_event_boundary damage_before rejection_or_fault answer payload_of_packet
returns-clause-within_an_event c = refl

pub returns-clause-after_the_end : goal.returns-clause-after_the_end
unfolding split_number split_lenenc number_at after_point numbers_at slice_of chunks framings sequence_id_after payload_in packets_in table_map_in rotate_in parts description_of in_force kind_by frame_fault algorithm_fault checksum_fault size_fault damage_of up_to_fault fault_after events_in events_within is_event_boundary damage_before rejection_or_fault answer payload_of_packet
returns-clause-after_the_end c = refl

pub returns-clause-no_bytes : goal.returns-clause-no_bytes
unfolding split_number split_lenenc number_at after_point numbers_at slice_of chunks framings sequence_id_after payload_in packets_in table_map_in rotate_in parts description_of in_force kind_by frame_fault algorithm_fault checksum_fault size_fault damage_of up_to_fault fault_after events_in events_within is_event_boundary damage_before rejection_or_fault answer payload_of_packet
returns-clause-no_bytes c = refl

pub returns-clause-within_the_magic : goal.returns-clause-within_the_magic
unfolding split_number split_lenenc number_at after_point numbers_at slice_of chunks framings sequence_id_after payload_in packets_in table_map_in rotate_in parts description_of in_force kind_by frame_fault algorithm_fault checksum_fault size_fault damage_of up_to_fault fault_after events_in events_within is_event_boundary damage_before rejection_or_fault answer payload_of_packet
returns-clause-within_the_magic c = refl

pub returns-clause-cut_short : goal.returns-clause-cut_short
unfolding split_number split_lenenc number_at after_point numbers_at slice_of chunks framings sequence_id_after payload_in packets_in table_map_in rotate_in parts description_of in_force kind_by frame_fault algorithm_fault checksum_fault size_fault damage_of up_to_fault fault_after events_in events_within is_event_boundary damage_before rejection_or_fault answer payload_of_packet
returns-clause-cut_short c = refl

pub returns-clause-broken_header_at_the_end : goal.returns-clause-broken_header_at_the_end
unfolding split_number split_lenenc number_at after_point numbers_at slice_of chunks framings sequence_id_after payload_in packets_in table_map_in rotate_in parts description_of in_force kind_by frame_fault algorithm_fault checksum_fault size_fault damage_of up_to_fault fault_after events_in events_within is_event_boundary damage_before rejection_or_fault answer payload_of_packet
returns-clause-broken_header_at_the_end c = refl

pub returns-clause-broken_header_before_the_position : goal.returns-clause-broken_header_before_the_position
unfolding split_number split_lenenc number_at after_point numbers_at slice_of chunks framings sequence_id_after payload_in packets_in table_map_in rotate_in parts description_of in_force kind_by frame_fault algorithm_fault checksum_fault size_fault damage_of up_to_fault fault_after events_in events_within is_event_boundary damage_before rejection_or_fault answer payload_of_packet
returns-clause-broken_header_before_the_position c = refl

pub returns-clause-semi_synchronous : goal.returns-clause-semi_synchronous
unfolding split_number split_lenenc number_at after_point numbers_at slice_of chunks framings sequence_id_after payload_in packets_in table_map_in rotate_in parts description_of in_force kind_by frame_fault algorithm_fault checksum_fault size_fault damage_of up_to_fault fault_after events_in events_within is_event_boundary damage_before rejection_or_fault answer payload_of_packet
returns-clause-semi_synchronous c = refl
