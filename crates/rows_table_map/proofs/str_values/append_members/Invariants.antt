use Rattle.std.proofs.Common.{map, take}
use Rattle.rows_table_map.specs.MetadataViews.{value_view}
use Rattle.rows_table_map.proofs.MemberWriteLemmas.{WritesStrings}
use Rattle.rows_table_map.proofs.str_values.append_members.Given as goal

abbrev pub invariant-loop-value : goal.invariant-loop-value
invariant-loop-value g l = WritesStrings (map value_view (take l.value-index l.values)) l.initial.buf.items l.buf.items
