use Rattle.std.proofs.Common.{refl}
use Rattle.std.specs.Fmt.{digits}
use Rattle.wire_buf.specs.LenencSplit.{split_number, split_lenenc}
use Rattle.wire_fields.specs.Version.{number_at, after_point, numbers_at}
use Rattle.rows_table_map.specs.ColumnMetadata.{column_type, columns_with_metadata}
use Rattle.rows_jsonb.specs.Items.{walk}
use Rattle.rows_table_map.specs.Lists.{items_in, items_of}
use Rattle.rows_table_map.specs.Members.{strings_in}
use Rattle.rows_table_map.specs.MetadataFields.{bits_from, is_numeric_number}
use Rattle.rows_table_map.specs.Served.{charset_after}
use Rattle.rows_cells.specs.Cells.{cell_at}
use Rattle.rows_cells.specs.Images.{cells_at, lenenc_at, image_at}
use Rattle.rows_cells.specs.EventRows.{images_at, row_at}
use Rattle.rows_event_body.specs.Plans.{keys_after, column_at, first_columns}
use Rattle.hex.specs.Hex.{encode_with}
use Rattle.feed_writers.specs.Quoting.{quoted}
use Rattle.feed_text.specs.CellText.{cell_value_text}
use Rattle.feed_text.specs.ImageText.{cells_text}
use Rattle.feed_checks.specs.BodyReaders.{query_in, rotate_in, xid_in, table_map_in, rows_event_in, gtid_in}
use Rattle.feed_checks.specs.EventFields.{parts, description_of, in_force}
use Rattle.feed_transactions.specs.MappedRows.{image_texts, row_texts, texts_of_rows, rows_result}
use Rattle.feed_checks.specs.Kinds.{kind_by, kinds, is_inside, waiting, since_begin, newest_map}
use Rattle.feed_checks.specs.Damage.{frame_fault, algorithm_fault, checksum_fault, size_fault}
use Rattle.feed_transactions.specs.Checks.{fault_of}
use Rattle.feed_transactions.specs.Transactions.{lines_of, shown_by}
use Rattle.feed_transactions.specs.Rules.{up_to_fault, fault_after, shown_after}
use Rattle.feed_transactions.specs.TransactionTexts.{gtid_text, line_text, transaction_text}
use Rattle.binlog_feed.proofs.worked_rules.worked_rows.Goals as goal

pub returns-clause-one_insert : goal.returns-clause-one_insert
unfolding digits split_number split_lenenc number_at after_point numbers_at column_type columns_with_metadata walk items_in items_of strings_in bits_from is_numeric_number charset_after cell_at cells_at lenenc_at image_at images_at row_at keys_after column_at first_columns encode_with quoted cell_value_text cells_text query_in rotate_in xid_in table_map_in rows_event_in gtid_in parts description_of in_force image_texts row_texts texts_of_rows rows_result kind_by kinds is_inside waiting since_begin newest_map frame_fault algorithm_fault checksum_fault size_fault fault_of lines_of shown_by up_to_fault fault_after shown_after gtid_text line_text transaction_text
returns-clause-one_insert c = refl

pub returns-clause-unfinished_transaction : goal.returns-clause-unfinished_transaction
unfolding digits split_number split_lenenc number_at after_point numbers_at column_type columns_with_metadata walk items_in items_of strings_in bits_from is_numeric_number charset_after cell_at cells_at lenenc_at image_at images_at row_at keys_after column_at first_columns encode_with quoted cell_value_text cells_text query_in rotate_in xid_in table_map_in rows_event_in gtid_in parts description_of in_force image_texts row_texts texts_of_rows rows_result kind_by kinds is_inside waiting since_begin newest_map frame_fault algorithm_fault checksum_fault size_fault fault_of lines_of shown_by up_to_fault fault_after shown_after gtid_text line_text transaction_text
returns-clause-unfinished_transaction c = refl

pub returns-clause-unknown_table_id : goal.returns-clause-unknown_table_id
unfolding digits split_number split_lenenc number_at after_point numbers_at column_type columns_with_metadata walk items_in items_of strings_in bits_from is_numeric_number charset_after cell_at cells_at lenenc_at image_at images_at row_at keys_after column_at first_columns encode_with quoted cell_value_text cells_text query_in rotate_in xid_in table_map_in rows_event_in gtid_in parts description_of in_force image_texts row_texts texts_of_rows rows_result kind_by kinds is_inside waiting since_begin newest_map frame_fault algorithm_fault checksum_fault size_fault fault_of lines_of shown_by up_to_fault fault_after shown_after gtid_text line_text transaction_text
returns-clause-unknown_table_id c = refl

pub returns-clause-rows_after_the_commit : goal.returns-clause-rows_after_the_commit
unfolding digits split_number split_lenenc number_at after_point numbers_at column_type columns_with_metadata walk items_in items_of strings_in bits_from is_numeric_number charset_after cell_at cells_at lenenc_at image_at images_at row_at keys_after column_at first_columns encode_with quoted cell_value_text cells_text query_in rotate_in xid_in table_map_in rows_event_in gtid_in parts description_of in_force image_texts row_texts texts_of_rows rows_result kind_by kinds is_inside waiting since_begin newest_map frame_fault algorithm_fault checksum_fault size_fault fault_of lines_of shown_by up_to_fault fault_after shown_after gtid_text line_text transaction_text
returns-clause-rows_after_the_commit c = refl

pub returns-clause-rows_without_columns : goal.returns-clause-rows_without_columns
unfolding digits split_number split_lenenc number_at after_point numbers_at column_type columns_with_metadata walk items_in items_of strings_in bits_from is_numeric_number charset_after cell_at cells_at lenenc_at image_at images_at row_at keys_after column_at first_columns encode_with quoted cell_value_text cells_text query_in rotate_in xid_in table_map_in rows_event_in gtid_in parts description_of in_force image_texts row_texts texts_of_rows rows_result kind_by kinds is_inside waiting since_begin newest_map frame_fault algorithm_fault checksum_fault size_fault fault_of lines_of shown_by up_to_fault fault_after shown_after gtid_text line_text transaction_text
returns-clause-rows_without_columns c = refl

pub returns-clause-null_cell : goal.returns-clause-null_cell
unfolding digits split_number split_lenenc number_at after_point numbers_at column_type columns_with_metadata walk items_in items_of strings_in bits_from is_numeric_number charset_after cell_at cells_at lenenc_at image_at images_at row_at keys_after column_at first_columns encode_with quoted cell_value_text cells_text query_in rotate_in xid_in table_map_in rows_event_in gtid_in parts description_of in_force image_texts row_texts texts_of_rows rows_result kind_by kinds is_inside waiting since_begin newest_map frame_fault algorithm_fault checksum_fault size_fault fault_of lines_of shown_by up_to_fault fault_after shown_after gtid_text line_text transaction_text
returns-clause-null_cell c = refl

pub returns-clause-update_row : goal.returns-clause-update_row
unfolding digits split_number split_lenenc number_at after_point numbers_at column_type columns_with_metadata walk items_in items_of strings_in bits_from is_numeric_number charset_after cell_at cells_at lenenc_at image_at images_at row_at keys_after column_at first_columns encode_with quoted cell_value_text cells_text query_in rotate_in xid_in table_map_in rows_event_in gtid_in parts description_of in_force image_texts row_texts texts_of_rows rows_result kind_by kinds is_inside waiting since_begin newest_map frame_fault algorithm_fault checksum_fault size_fault fault_of lines_of shown_by up_to_fault fault_after shown_after gtid_text line_text transaction_text
returns-clause-update_row c = refl

pub returns-clause-map_replaced_within_a_transaction : goal.returns-clause-map_replaced_within_a_transaction
unfolding digits split_number split_lenenc number_at after_point numbers_at column_type columns_with_metadata walk items_in items_of strings_in bits_from is_numeric_number charset_after cell_at cells_at lenenc_at image_at images_at row_at keys_after column_at first_columns encode_with quoted cell_value_text cells_text query_in rotate_in xid_in table_map_in rows_event_in gtid_in parts description_of in_force image_texts row_texts texts_of_rows rows_result kind_by kinds is_inside waiting since_begin newest_map frame_fault algorithm_fault checksum_fault size_fault fault_of lines_of shown_by up_to_fault fault_after shown_after gtid_text line_text transaction_text
returns-clause-map_replaced_within_a_transaction c = refl

pub returns-clause-unusable_map_without_rows : goal.returns-clause-unusable_map_without_rows
unfolding digits split_number split_lenenc number_at after_point numbers_at column_type columns_with_metadata walk items_in items_of strings_in bits_from is_numeric_number charset_after cell_at cells_at lenenc_at image_at images_at row_at keys_after column_at first_columns encode_with quoted cell_value_text cells_text query_in rotate_in xid_in table_map_in rows_event_in gtid_in parts description_of in_force image_texts row_texts texts_of_rows rows_result kind_by kinds is_inside waiting since_begin newest_map frame_fault algorithm_fault checksum_fault size_fault fault_of lines_of shown_by up_to_fault fault_after shown_after gtid_text line_text transaction_text
returns-clause-unusable_map_without_rows c = refl
