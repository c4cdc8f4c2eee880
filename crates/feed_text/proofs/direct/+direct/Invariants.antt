use Rattle.std.proofs.Common.{◌≡◌, ◌+◌, ◌*◌, length, take}
use Rattle.feed_text.specs.Buffers.{text_in}
use Rattle.feed_text.specs.Containers.{value_of}
use Rattle.feed_text.proofs.ContainerLemmas.{ItemsSoFar, MembersSoFar}
use Rattle.feed_text.proofs.direct.+direct.Given as goal

abbrev pub decreases-write_value : goal.decreases-write_value
decreases-write_value g l = 6 * l.depth + 3

abbrev pub decreases-write_small_object : goal.decreases-write_small_object
decreases-write_small_object g l = 6 * l.depth + 2

abbrev pub decreases-write_large_object : goal.decreases-write_large_object
decreases-write_large_object g l = 6 * l.depth + 2

abbrev pub decreases-write_small_array : goal.decreases-write_small_array
decreases-write_small_array g l = 6 * l.depth + 2

abbrev pub decreases-write_large_array : goal.decreases-write_large_array
decreases-write_large_array g l = 6 * l.depth + 2

abbrev pub decreases-write_array : goal.decreases-write_array
decreases-write_array g l = 6 * l.depth + 1

abbrev pub decreases-write_object : goal.decreases-write_object
decreases-write_object g l = 6 * l.depth + 1

abbrev pub decreases-write_items : goal.decreases-write_items
decreases-write_items g l = 6 * l.depth + 5

abbrev pub decreases-write_members : goal.decreases-write_members
decreases-write_members g l = 6 * l.depth + 5

abbrev pub decreases-write_member : goal.decreases-write_member
decreases-write_member g l = 6 * l.depth + 4

abbrev pub invariant-write_items-items : goal.invariant-write_items-items
invariant-write_items-items g l = record {
  so_far : ItemsSoFar g.F.DocumentForm.form l.depth (value_of l.array) l.pos l.initial.budget l.budget (text_in l.initial.out) (text_in l.out) l.is_first;
  kept : take (length (text_in l.fn.out)) (text_in l.out) ≡ text_in l.fn.out;
}

abbrev pub invariant-write_members-members : goal.invariant-write_members-members
invariant-write_members-members g l = record {
  so_far : MembersSoFar g.F.DocumentForm.form l.depth (value_of l.object) (take l.pos-index l.order) l.initial.budget l.budget (text_in l.initial.out) (text_in l.out) l.is_first;
  kept : take (length (text_in l.fn.out)) (text_in l.out) ≡ text_in l.fn.out;
}
