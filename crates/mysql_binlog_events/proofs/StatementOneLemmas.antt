-- The encodings of events with statements are read as the same events.
use Rattle.std.proofs.Common.{ℕ, refl}
use Rattle.wire_buf.specs.Encoding.{Both}
use Rattle.rows_table_map.specs.TableMaps.{little_endian}
use Rattle.events_frames.specs.Queries.{IsQuery}
use Rattle.events_bodies.specs.LoadQueries.{IsLoadQuery}
use Rattle.events_bodies.proofs.QueryLemmas as query
use Rattle.events_bodies.proofs.LoadQueryLemmas as load
use Rattle.mysql_binlog_events.specs.ReadAgain.{IsReadAsEncoded}
use Rattle.mysql_binlog_events.proofs.OneWayLemmas.{one_number, one_text, one_skipped, one_all, one_both, one_led}

-- status variables, schema and statement
one_tail : (status schema : ℕ) → IsReadAsEncoded (query.IsTail status schema)
one_tail status schema = one_both (one_text status) (one_both (one_text schema) (one_both one_skipped one_all))

pub one_query : IsReadAsEncoded IsQuery
one_query =
    one_led query.head query.tail query.whole (λ q. refl)
    (Both (little_endian 4) (Both (little_endian 4) (Both (little_endian 1) (Both (little_endian 2) (little_endian 2)))))
    query.second
    (one_both (one_number 4) (one_both (one_number 4) (one_both (one_number 1) (one_both (one_number 2) (one_number 2)))))
    (λ h. one_tail _ _)

pub one_load_query : IsReadAsEncoded IsLoadQuery
one_load_query =
    one_led load.head load.tail load.whole (λ q. refl)
    (Both (little_endian 4) (Both (little_endian 4) (Both (little_endian 1) (Both (little_endian 2) (Both (little_endian 2) (Both (little_endian 4) (Both (little_endian 4) (Both (little_endian 4) (little_endian 1)))))))))
    load.second
    (one_both (one_number 4) (one_both (one_number 4) (one_both (one_number 1) (one_both (one_number 2) (one_both (one_number 2)
    (one_both (one_number 4) (one_both (one_number 4) (one_both (one_number 4) (one_number 1)))))))))
    (λ h. one_tail _ _)
