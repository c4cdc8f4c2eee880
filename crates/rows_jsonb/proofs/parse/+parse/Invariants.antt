use Rattle.std.proofs.Common.{◌≡◌, ℕ, ◌+◌, ◌*◌, ◌-◌}
use Rattle.rows_jsonb.specs.JsonTrees.{no_members}
use Rattle.rows_jsonb.specs.JsonbValues.{elem_in, object_key, count_in}
use Rattle.rows_jsonb.specs.DocumentTrees.{items, member_trees, items_read, members_read, values_read, tree_of}
use Rattle.rows_jsonb.specs.JsonTreeViews.{members_view}
use Rattle.rows_jsonb.specs.JsonbViews.{jsonb_value}
use Rattle.rows_jsonb.proofs.Building.{after_items, after_members}
use Rattle.rows_jsonb.proofs.parse.+parse.Given as goal

abbrev pub decreases-parse_in : goal.decreases-parse_in
decreases-parse_in l = 2 * l.depth

abbrev pub decreases-parse_items : goal.decreases-parse_items
decreases-parse_items l = 2 * l.depth + 1

abbrev pub decreases-parse_members : goal.decreases-parse_members
decreases-parse_members l = 2 * l.depth + 1

abbrev pub invariant-parse_items-items : goal.invariant-parse_items-items
invariant-parse_items-items l =
    (used : ℕ)
    × (items (tree_of l.depth) (elem_in (jsonb_value l.array)) 0 (count_in (jsonb_value l.array)) ≡ after_items l.found.items used (items (tree_of l.depth) (elem_in (jsonb_value l.array)) l.pos (count_in (jsonb_value l.array) - l.pos)))
    × (used + l.budget ≡ l.initial.budget)
    × (items_read (tree_of l.depth) (values_read l.depth) (elem_in (jsonb_value l.array)) 0 (count_in (jsonb_value l.array)) ≡ used + items_read (tree_of l.depth) (values_read l.depth) (elem_in (jsonb_value l.array)) l.pos (count_in (jsonb_value l.array) - l.pos))

abbrev pub invariant-parse_members-members : goal.invariant-parse_members-members
invariant-parse_members-members l =
    (used : ℕ)
    × (member_trees (tree_of l.depth) (object_key (jsonb_value l.object)) (elem_in (jsonb_value l.object)) 0 (count_in (jsonb_value l.object)) no_members ≡ after_members used (member_trees (tree_of l.depth) (object_key (jsonb_value l.object)) (elem_in (jsonb_value l.object)) l.pos (count_in (jsonb_value l.object) - l.pos) (members_view l.found.entries)))
    × (used + l.budget ≡ l.initial.budget)
    × (members_read (tree_of l.depth) (values_read l.depth) (object_key (jsonb_value l.object)) (elem_in (jsonb_value l.object)) 0 (count_in (jsonb_value l.object)) ≡ used + members_read (tree_of l.depth) (values_read l.depth) (object_key (jsonb_value l.object)) (elem_in (jsonb_value l.object)) l.pos (count_in (jsonb_value l.object) - l.pos))
