use Rattle.std.proofs.Common.{rules, ◌≡◌, ◌⊎◌, true}
use Rattle.std.proofs.lemmas.Result.{on_ok_weaker}
use Rattle.events_replaced.specs.StandingEvents.{is_compressed}
use Rattle.events_replaced.specs.declared.mariadb_type.MariadbType.TheVariants as types
use Rattle.events_replaced.proofs.StandLemmas.{annotation_stands, gtid_stands, ignorable_stands, plain_stands}
use Rattle.events_replaced.proofs.mariadb_translator.MariadbTranslator.put_typed.Goals as goal

pub returns-in-QUERY_COMPRESSED_EVENT : goal.returns-in-QUERY_COMPRESSED_EVENT
returns-in-QUERY_COMPRESSED_EVENT c =
    let kind : is_compressed c.args.mariadb_type ≡ true = search rules in
    record {
      ok = on_ok_weaker c.put_decompressed.result (plain_stands _ _ _ c.args.mariadb_type kind) c.put_decompressed.ensures.ok;
      few = c.put_decompressed.ensures.few;
      err = c.put_decompressed.ensures.err;
    }

pub returns-in_ok-put_annotation-in-ANNOTATE_ROWS_EVENT-clause-ok : goal.returns-in_ok-put_annotation-in-ANNOTATE_ROWS_EVENT-clause-ok
returns-in_ok-put_annotation-in-ANNOTATE_ROWS_EVENT-clause-ok c =
    let kind : c.args.mariadb_type ≡ types.ANNOTATE_ROWS_EVENT = search rules in
    annotation_stands _ _ _ c.args.mariadb_type kind c.in_ok-put_annotation-in-ANNOTATE_ROWS_EVENT.ensures.made

pub returns-in_ok-put_retyped-in-BINLOG_CHECKPOINT_EVENT-clause-ok : goal.returns-in_ok-put_retyped-in-BINLOG_CHECKPOINT_EVENT-clause-ok
returns-in_ok-put_retyped-in-BINLOG_CHECKPOINT_EVENT-clause-ok c =
    let kind : (c.args.mariadb_type ≡ types.BINLOG_CHECKPOINT_EVENT) ⊎ (c.args.mariadb_type ≡ types.GTID_LIST_EVENT) = search rules in
    ignorable_stands _ _ _ c.args.mariadb_type kind c.in_ok-put_retyped-in-BINLOG_CHECKPOINT_EVENT.ensures.made

pub returns-in_ok-put_gtid-in-GTID_EVENT-clause-ok : goal.returns-in_ok-put_gtid-in-GTID_EVENT-clause-ok
returns-in_ok-put_gtid-in-GTID_EVENT-clause-ok c =
    let kind : c.args.mariadb_type ≡ types.GTID_EVENT = search rules in
    gtid_stands _ _ _ c.args.mariadb_type kind c.if-event-lt-MIN_GTID_LEN.false c.in_ok-put_gtid-in-GTID_EVENT.ensures.made
