use Rattle.std.proofs.Common.{◌≡◌, suc, ◌-◌, ◌+◌, sym, ap, ◌∙◌, arith, string_bytes}
use Rattle.std.specs.declared.result.Result.TheVariants.{Ok}
use Rattle.rows_jsonb.specs.JsonTrees.{array, object, put, no_members}
use Rattle.rows_jsonb.specs.JsonbValues.{elem_in, object_key, count_in}
use Rattle.rows_jsonb.specs.DocumentTrees.{items, member_trees, items_read, members_read, values_read, tree_of, utf8}
use Rattle.rows_jsonb.specs.JsonTreeViews.{view, items_view, members_view}
use Rattle.rows_jsonb.specs.JsonbViews.{jsonb_value}
use Rattle.rows_jsonb.proofs.Building.{none_left, none_read, exits, exits_memory, fails_failed, fails_one, takes_one, fails_as_found, fails_from, array_tree, object_tree, array_read, object_read, counts, other_tree, flat_tree, none_after, none_after_members, after_items, after_members, items_turn, items_no_entry, items_fail, items_read_turn, items_end, members_turn, members_no_key, members_no_entry, members_no_text, members_fail, members_read_turn, members_end}
use Rattle.rows_jsonb.proofs.DomLemmas.{view-Scalar, view-Array, view-Object, members_view-insert_entry}
use Rattle.rows_jsonb.proofs.parse.+parse.Goals as goal

pub parse_in-returns-in_err-take_value : goal.parse_in-returns-in_err-take_value
parse_in-returns-in_err-take_value t c =
    exits view _ _ _ _ _ _ c.from_residual.ensures (rw c.in_err-take_value.ensures.err (none_left _ _ _ c.in_err-take_value.ensures.none))

pub parse_in-returns-in_err-leaf : goal.parse_in-returns-in_err-leaf
parse_in-returns-in_err-leaf t c =
    exits view _ _ _ _ _ _ c.from_residual-in_err-leaf.ensures (rw (flat_tree c.args.depth (jsonb_value c.args.value.now) c.if-depth-eq0.true) (fails_failed _ _ _ _ c.in_err-leaf.ensures))

pub parse_in-returns-then-depth-eq0 : goal.parse_in-returns-then-depth-eq0
parse_in-returns-then-depth-eq0 t c = record {
  count = 1;
  found_is = flat_tree c.args.depth (jsonb_value c.args.value.now) c.if-depth-eq0.true ∙ c.in_ok-leaf.ensures ∙ ap (λ d. Ok (d, 1)) (sym (view-Scalar c.in_ok-leaf.leaf));
  taken = c.in_ok-take_value.ensures.ok;
}

pub parse_in-returns-in_err-items : goal.parse_in-returns-in_err-items
parse_in-returns-in_err-items t c =
    exits view _ _ _ _ _ _ c.from_residual-in_err-items.ensures
    (fails_one _ _ array _ _ _ _ _ c.in_ok-take_value.ensures.ok (array_tree c.args.depth (c.args.depth - 1) (jsonb_value c.args.value.now) (omega arith) (sym c.is_array.ensures ∙ c.if-is_array.true))
    (array_read c.args.depth (c.args.depth - 1) (jsonb_value c.args.value.now) (omega arith) (sym c.is_array.ensures ∙ c.if-is_array.true)) c.in_err-items.ensures)

pub parse_in-returns-then-is_array : goal.parse_in-returns-then-is_array
parse_in-returns-then-is_array t c =
    takes_one _ _ array _ _ _ _ _ c.in_ok-take_value.ensures.ok (array_tree c.args.depth (c.args.depth - 1) (jsonb_value c.args.value.now) (omega arith) (sym c.is_array.ensures ∙ c.if-is_array.true)) (view-Array c.in_ok-items.items) c.in_ok-items.ensures

pub parse_in-returns-in_err-members : goal.parse_in-returns-in_err-members
parse_in-returns-in_err-members t c =
    exits view _ _ _ _ _ _ c.from_residual-in_err-members.ensures
    (fails_one _ _ object _ _ _ _ _ c.in_ok-take_value.ensures.ok (object_tree c.args.depth (c.args.depth - 1) (jsonb_value c.args.value.now) (omega arith) (sym c.is_object.ensures ∙ c.if-is_object.true))
    (object_read c.args.depth (c.args.depth - 1) (jsonb_value c.args.value.now) (omega arith) (sym c.is_object.ensures ∙ c.if-is_object.true)) c.in_err-members.ensures)

pub parse_in-returns-then-is_object : goal.parse_in-returns-then-is_object
parse_in-returns-then-is_object t c =
    takes_one _ _ object _ _ _ _ _ c.in_ok-take_value.ensures.ok (object_tree c.args.depth (c.args.depth - 1) (jsonb_value c.args.value.now) (omega arith) (sym c.is_object.ensures ∙ c.if-is_object.true)) (view-Object c.in_ok-members.members) c.in_ok-members.ensures

pub parse_in-returns-in_err-leaf-2 : goal.parse_in-returns-in_err-leaf-2
parse_in-returns-in_err-leaf-2 t c =
    exits view _ _ _ _ _ _ c.from_residual-in_err-leaf-2.ensures
    (rw (other_tree c.args.depth (c.args.depth - 1) (jsonb_value c.args.value.now) (omega arith) (sym c.is_array.ensures ∙ c.if-is_array.false) (sym c.is_object.ensures ∙ c.if-is_object.false)) (fails_failed _ _ _ _ c.in_err-leaf-2.ensures))

pub parse_in-returns : goal.parse_in-returns
parse_in-returns t c = record {
  count = 1;
  found_is =
      other_tree c.args.depth (c.args.depth - 1) (jsonb_value c.args.value.now) (omega arith) (sym c.is_array.ensures ∙ c.if-is_array.false) (sym c.is_object.ensures ∙ c.if-is_object.false)
      ∙ c.in_ok-leaf-2.ensures ∙ ap (λ d. Ok (d, 1)) (sym (view-Scalar c.in_ok-leaf-2.leaf));
  taken = c.in_ok-take_value.ensures.ok;
}

pub parse_items-items-init : goal.parse_items-items-init
parse_items-items-init t c =
    let s = jsonb_value c.args.array.now in
    let all = items (tree_of c.args.depth) (elem_in s) 0 (count_in s) in
    (0, none_after all ∙ ap (λ ds. after_items ds 0 all) (sym c.new-found.ensures.items) ∙ ap (λ k. after_items c.new-found.result.items 0 (items (tree_of c.args.depth) (elem_in s) 0 k)) (omega arith), omega arith, none_read (λ k. items_read (tree_of c.args.depth) (values_read c.args.depth) (elem_in s) 0 k) (count_in s))

pub parse_items-returns-in_err-value : goal.parse_items-returns-in_err-value
parse_items-returns-in_err-value t c =
    let l = c.items in
    let s = jsonb_value c.args.array.now in
    exits (λ v. items_view v.items) _ _ _ _ _ _ c.from_residual.ensures
    (fails_as_found _ _ _ _ (l.invariant.1 ∙ items_no_entry (tree_of c.args.depth) (values_read c.args.depth) (elem_in s) l.found.items l.invariant.0 l.pos (count_in s - l.pos) (count_in s - l.pos - 1) _ (omega arith) (sym c.in_err-value.ensures)))

pub parse_items-returns-in_err-item : goal.parse_items-returns-in_err-item
parse_items-returns-in_err-item t c =
    let l = c.items in
    let s = jsonb_value c.args.array.now in
    exits (λ v. items_view v.items) _ _ _ _ _ _ c.from_residual-in_err-item.ensures
    (rw (l.invariant.1, l.invariant.3) (items_fail (tree_of c.args.depth) (values_read c.args.depth) (elem_in s) l.found.items l.invariant.0 l.pos (count_in s - l.pos) (count_in s - l.pos - 1) l.budget _ (jsonb_value c.in_ok-value.value) _ (omega arith) (sym c.in_ok-value.ensures) l.invariant.2 c.in_err-item.ensures))

pub parse_items-returns-in_err-push : goal.parse_items-returns-in_err-push
parse_items-returns-in_err-push t c = exits_memory (λ v. items_view v.items) _ _ _ _ _ c.from_residual-in_err-push.ensures

pub parse_items-items-preserved : goal.parse_items-items-preserved
parse_items-items-preserved t c =
    let l = c.items in
    let s = jsonb_value c.args.array.now in
    let taken = c.in_ok-item.ensures in
    let left = count_in s - (l.pos + 1) in
    let more : count_in s - l.pos ≡ suc left = omega arith in
    let d = c.in_ok-item.field-0 in (
      l.invariant.0 + taken.count,
      l.invariant.1 ∙ items_turn (tree_of c.args.depth) (values_read c.args.depth) (elem_in s) l.found.items d l.invariant.0 taken.count l.pos (count_in s - l.pos) left (jsonb_value c.in_ok-value.value) more (sym c.in_ok-value.ensures) taken.found_is
          ∙ ap (λ ds. after_items ds (l.invariant.0 + taken.count) (items (tree_of c.args.depth) (elem_in s) (l.pos + 1) left)) (sym c.in_ok-push.ensures.items),
      omega (arith, taken.taken, l.invariant.2),
      l.invariant.3 ∙ items_read_turn (tree_of c.args.depth) (values_read c.args.depth) (elem_in s) (view d) l.invariant.0 taken.count l.pos (count_in s - l.pos) left (jsonb_value c.in_ok-value.value) (counts c.args.depth (jsonb_value c.in_ok-value.value)) more (sym c.in_ok-value.ensures) taken.found_is,
    )

pub parse_items-returns : goal.parse_items-returns
parse_items-returns t c =
    let l = c.items in
    let s = jsonb_value c.args.array.now in
    record {
      count = l.invariant.0;
      found_is = l.invariant.1 ∙ items_end (tree_of c.args.depth) (values_read c.args.depth) (elem_in s) l.found.items l.invariant.0 l.pos (count_in s - l.pos) (omega arith);
      taken = l.invariant.2;
    }

pub parse_members-members-init : goal.parse_members-members-init
parse_members-members-init t c =
    let s = jsonb_value c.args.object.now in
    let all = member_trees (tree_of c.args.depth) (object_key s) (elem_in s) 0 (count_in s) no_members in (
      0,
      none_after_members all ∙ ap (λ es. after_members 0 (member_trees (tree_of c.args.depth) (object_key s) (elem_in s) 0 (count_in s) (members_view es))) (sym c.new-found.ensures.empty)
          ∙ ap (λ k. after_members 0 (member_trees (tree_of c.args.depth) (object_key s) (elem_in s) 0 k (members_view c.new-found.result.entries))) (omega arith),
      omega arith,
      none_read (λ k. members_read (tree_of c.args.depth) (values_read c.args.depth) (object_key s) (elem_in s) 0 k) (count_in s),
    )

pub parse_members-returns-in_err-bytes : goal.parse_members-returns-in_err-bytes
parse_members-returns-in_err-bytes t c =
    let l = c.members in
    let s = jsonb_value c.args.object.now in
    exits (λ m. members_view m.entries) _ _ _ _ _ _ c.from_residual.ensures
    (fails_as_found _ _ _ _ (l.invariant.1 ∙ members_no_key (tree_of c.args.depth) (values_read c.args.depth) (object_key s) (elem_in s) (members_view l.found.entries) l.invariant.0 l.pos (count_in s - l.pos) (count_in s - l.pos - 1) _ (omega arith) (sym c.in_err-bytes.ensures)))

pub parse_members-returns-in_err-value : goal.parse_members-returns-in_err-value
parse_members-returns-in_err-value t c =
    let l = c.members in
    let s = jsonb_value c.args.object.now in
    exits (λ m. members_view m.entries) _ _ _ _ _ _ c.from_residual-in_err-value.ensures
    (fails_as_found _ _ _ _ (l.invariant.1 ∙ members_no_entry (tree_of c.args.depth) (values_read c.args.depth) (object_key s) (elem_in s) (members_view l.found.entries) c.in_ok-bytes.bytes.now l.invariant.0 l.pos (count_in s - l.pos) (count_in s - l.pos - 1) _ (omega arith) (sym c.in_ok-bytes.ensures) (sym c.in_err-value.ensures)))

pub parse_members-returns-in-Err : goal.parse_members-returns-in-Err
parse_members-returns-in-Err t c =
    let l = c.members in
    let s = jsonb_value c.args.object.now in
    fails_from _ _ _ (utf8 c.in_ok-bytes.bytes.now) _ c.in-Err.ensures (λ failed. l.invariant.1
    ∙ members_no_text (tree_of c.args.depth) (values_read c.args.depth) (object_key s) (elem_in s) (members_view l.found.entries) c.in_ok-bytes.bytes.now l.invariant.0 l.pos (count_in s - l.pos) (count_in s - l.pos - 1) (jsonb_value c.in_ok-value.value) _ (omega arith) (sym c.in_ok-bytes.ensures) (sym c.in_ok-value.ensures) failed)

pub parse_members-returns-in_err-member : goal.parse_members-returns-in_err-member
parse_members-returns-in_err-member t c =
    let l = c.members in
    let s = jsonb_value c.args.object.now in
    exits (λ m. members_view m.entries) _ _ _ _ _ _ c.from_residual-in_err-member.ensures
    (rw (l.invariant.1, l.invariant.3) (members_fail (tree_of c.args.depth) (values_read c.args.depth) (object_key s) (elem_in s) (members_view l.found.entries) c.in_ok-bytes.bytes.now (string_bytes c.in-Ok.name) l.invariant.0 l.pos (count_in s - l.pos) (count_in s - l.pos - 1) l.budget _ (jsonb_value c.in_ok-value.value) _ (omega arith) (sym c.in_ok-bytes.ensures) (sym c.in_ok-value.ensures) c.in-Ok.ensures l.invariant.2 c.in_err-member.ensures))

pub parse_members-returns-in_err-set_member : goal.parse_members-returns-in_err-set_member
parse_members-returns-in_err-set_member t c = exits (λ m. members_view m.entries) _ _ _ _ _ _ c.from_residual-in_err-set_member.ensures (rw c.in_err-set_member.ensures.err tt)

pub parse_members-members-preserved : goal.parse_members-members-preserved
parse_members-members-preserved t c =
    let l = c.members in
    let s = jsonb_value c.args.object.now in
    let taken = c.in_ok-member.ensures in
    let left = count_in s - (l.pos + 1) in
    let more : count_in s - l.pos ≡ suc left = omega arith in
    let d = c.in_ok-member.field-0 in
    let old = members_view l.found.entries in
    let inserted : members_view c.set_member.new.members.entries ≡ put (string_bytes c.in-Ok.name) (view d) old =
    ap members_view c.in_ok-set_member.ensures.ok ∙ members_view-insert_entry l.found.entries c.in-Ok.name d in (
      l.invariant.0 + taken.count,
      l.invariant.1 ∙ members_turn (tree_of c.args.depth) (values_read c.args.depth) (object_key s) (elem_in s) old (view d) c.in_ok-bytes.bytes.now (string_bytes c.in-Ok.name) l.invariant.0 taken.count l.pos (count_in s - l.pos) left (jsonb_value c.in_ok-value.value) more (sym c.in_ok-bytes.ensures) (sym c.in_ok-value.ensures) c.in-Ok.ensures taken.found_is
          ∙ ap (λ ms. after_members (l.invariant.0 + taken.count) (member_trees (tree_of c.args.depth) (object_key s) (elem_in s) (l.pos + 1) left ms)) (sym inserted),
      omega (arith, taken.taken, l.invariant.2),
      l.invariant.3 ∙ members_read_turn (tree_of c.args.depth) (values_read c.args.depth) (object_key s) (elem_in s) (view d) c.in_ok-bytes.bytes.now (string_bytes c.in-Ok.name) l.invariant.0 taken.count l.pos (count_in s - l.pos) left (jsonb_value c.in_ok-value.value) (counts c.args.depth (jsonb_value c.in_ok-value.value)) more (sym c.in_ok-bytes.ensures) (sym c.in_ok-value.ensures) c.in-Ok.ensures taken.found_is,
    )

pub parse_members-returns : goal.parse_members-returns
parse_members-returns t c =
    let l = c.members in
    let s = jsonb_value c.args.object.now in
    record {
      count = l.invariant.0;
      found_is = l.invariant.1 ∙ members_end (tree_of c.args.depth) (values_read c.args.depth) (object_key s) (elem_in s) (members_view l.found.entries) l.invariant.0 l.pos (count_in s - l.pos) (omega arith);
      taken = l.invariant.2;
    }
