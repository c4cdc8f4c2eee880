use Rattle.std.proofs.Common.{◌+◌, ◌-◌, ◌%◌, Option, ap, map}
use Rattle.feed_checks.specs.Kinds.{Gtid}
use Rattle.changes_stats.specs.Largest.{Large}
use Rattle.changes_stats.specs.RowSums.{all_rows}
use Rattle.changes_stats.specs.TableNames.{names_text}
use Rattle.changes_stats.specs.TableSums.{tables_in}
use Rattle.changes_stats.proofs.largest.LargeTransaction.of.Goals as goal

pub returns : goal.returns
returns c =
    let newest = c.args.newest.now in
    let with_gtid : Option Gtid → Large = λ g. record {
      rows = all_rows newest.all;
      bytes = (newest.commit.log_pos + (4294967296 - newest.begin)) % 4294967296;
      file = c.args.file.now;
      begin = newest.begin;
      end = newest.commit.log_pos;
      seconds = newest.commit.timestamp;
      gtid = g;
      tables = names_text (map (λ t. t.name) (tables_in newest.tables));
    } in
    rw (c.rows.ensures, c.in_ok-names_of.ensures, c.in_ok-from_slice.ensures.items, c.from.ensures, c.log_pos-end.ensures, c.timestamp.ensures)
    (ap with_gtid c.in_ok-keep_of.ensures)
