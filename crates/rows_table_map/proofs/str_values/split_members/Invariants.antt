use Rattle.std.proofs.Common.{◌≡◌, ◌-◌, map}
use Rattle.rows_table_map.specs.Members.{strings_in}
use Rattle.rows_table_map.specs.MetadataViews.{value_view}
use Rattle.rows_table_map.proofs.MemberLemmas.{with_strings}
use Rattle.rows_table_map.proofs.str_values.split_members.Given as goal

abbrev pub invariant-loop : goal.invariant-loop
invariant-loop l = strings_in l.count l.initial.rest ≡ with_strings (map value_view l.values.items) (l.count - l.counter) l.rest
