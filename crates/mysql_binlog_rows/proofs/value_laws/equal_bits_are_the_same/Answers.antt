use Rattle.std.specs.Cmp.{booleans_Decides}
use lib.Pointwise.{pointwise_decides}
use Rattle.rows_table_map.specs.BitLists.{bit_list}
use Rattle.mysql_binlog_rows.proofs.value_laws.equal_bits_are_the_same.Goals as goal

pub returns : goal.returns
returns c a b = pointwise_decides booleans_Decides (bit_list a) (bit_list b)
