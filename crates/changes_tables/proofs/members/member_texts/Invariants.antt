use Rattle.std.proofs.Common.{map, take}
use Rattle.std.specs.List.{AllZip}
use Rattle.rows_table_map.specs.MetadataViews.{value_view}
use Rattle.changes_tables.specs.MemberTexts.{IsMemberJson}
use Rattle.changes_tables.proofs.members.member_texts.Given as goal

abbrev pub invariant-loop-member : goal.invariant-loop-member
invariant-loop-member l = AllZip (IsMemberJson l.shown) (map value_view (take l.member-index l.member-items)) (map (λ t. t.items) l.texts.items)
