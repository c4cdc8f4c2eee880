use Rattle.std.proofs.Common.{refl}
use Rattle.wire_buf.specs.LenencSplit.{split_number, split_lenenc}
use Rattle.wire_packets.specs.Framing.{slice_of, chunks, framings, sequence_id_after}
use Rattle.wire_packets.specs.Packets.{payload_in, packets_in}
use Rattle.wire_fields.specs.Version.{number_at, after_point, numbers_at}
use Rattle.feed_checks.specs.BodyReaders.{rotate_in, table_map_in}
use Rattle.feed_checks.specs.EventFields.{parts, description_of, in_force}
use Rattle.feed_checks.specs.Kinds.{kind_by}
use Rattle.feed_checks.specs.Damage.{frame_fault, algorithm_fault, checksum_fault, size_fault, damage_of}
use Rattle.feed_transactions.specs.Rules.{up_to_fault, fault_after}
use Rattle.feed_checks.specs.LogFormat.{events_in}
use Rattle.feed_replication.specs.RequestedPackets.{payload_of_packet}
use Rattle.feed_replication.specs.Positions.{events_within, is_event_boundary}
use Rattle.feed_replication.specs.Serving.{damage_before, rejection_or_fault, answer}
use Rattle.binlog_feed.proofs.worked_serving.worked_damage.Goals as goal

pub returns-clause-checksummed : goal.returns-clause-checksummed
unfolding split_number split_lenenc number_at after_point numbers_at slice_of chunks framings sequence_id_after payload_in packets_in table_map_in rotate_in parts description_of in_force kind_by frame_fault algorithm_fault checksum_fault size_fault damage_of up_to_fault fault_after events_in events_within is_event_boundary damage_before rejection_or_fault answer payload_of_packet
returns-clause-checksummed c = refl

pub returns-clause-led_by_the_description : goal.returns-clause-led_by_the_description
unfolding split_number split_lenenc number_at after_point numbers_at slice_of chunks framings sequence_id_after payload_in packets_in table_map_in rotate_in parts description_of in_force kind_by frame_fault algorithm_fault checksum_fault size_fault damage_of up_to_fault fault_after events_in events_within is_event_boundary damage_before rejection_or_fault answer payload_of_packet
returns-clause-led_by_the_description c = refl

pub returns-clause-up_to_damage : goal.returns-clause-up_to_damage
unfolding split_number split_lenenc number_at after_point numbers_at slice_of chunks framings sequence_id_after payload_in packets_in table_map_in rotate_in parts description_of in_force kind_by frame_fault algorithm_fault checksum_fault size_fault damage_of up_to_fault fault_after events_in events_within is_event_boundary damage_before rejection_or_fault answer payload_of_packet
returns-clause-up_to_damage c = refl

pub returns-clause-damage_before_the_position : goal.returns-clause-damage_before_the_position
unfolding split_number split_lenenc number_at after_point numbers_at slice_of chunks framings sequence_id_after payload_in packets_in table_map_in rotate_in parts description_of in_force kind_by frame_fault algorithm_fault checksum_fault size_fault damage_of up_to_fault fault_after events_in events_within is_event_boundary damage_before rejection_or_fault answer payload_of_packet
returns-clause-damage_before_the_position c = refl

pub returns-clause-past_the_limit : goal.returns-clause-past_the_limit
unfolding split_number split_lenenc number_at after_point numbers_at slice_of chunks framings sequence_id_after payload_in packets_in table_map_in rotate_in parts description_of in_force kind_by frame_fault algorithm_fault checksum_fault size_fault damage_of up_to_fault fault_after events_in events_within is_event_boundary damage_before rejection_or_fault answer payload_of_packet
returns-clause-past_the_limit c = refl

pub returns-clause-at_the_limit : goal.returns-clause-at_the_limit
unfolding split_number split_lenenc number_at after_point numbers_at slice_of chunks framings sequence_id_after payload_in packets_in table_map_in rotate_in parts description_of in_force kind_by frame_fault algorithm_fault checksum_fault size_fault damage_of up_to_fault fault_after events_in events_within is_event_boundary damage_before rejection_or_fault answer payload_of_packet
returns-clause-at_the_limit c = refl

pub returns-clause-closing_past_the_limit : goal.returns-clause-closing_past_the_limit
unfolding split_number split_lenenc number_at after_point numbers_at slice_of chunks framings sequence_id_after payload_in packets_in table_map_in rotate_in parts description_of in_force kind_by frame_fault algorithm_fault checksum_fault size_fault damage_of up_to_fault fault_after events_in events_within is_event_boundary damage_before rejection_or_fault answer payload_of_packet
returns-clause-closing_past_the_limit c = refl
