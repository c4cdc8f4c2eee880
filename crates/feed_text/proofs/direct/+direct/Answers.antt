use Rattle.std.proofs.Common.{◌≡◌, ◌+◌, ◌-◌, ◌≤◌, ℕ, [], ◌∷◌, ◌++◌, length, take, refl, sym, ap, subst, ◌∙◌, arith}
use Rattle.std.proofs.Math.Seq.{take-length}
use Rattle.std.proofs.lemmas.Result.{IfOk-from_err, on_ok_weaker}
use Rattle.rows_jsonb.specs.JsonbValues.{count_in}
use Rattle.feed_text.specs.Buffers.{text_in}
use Rattle.feed_text.specs.Containers.{value_of}
use Rattle.feed_text.specs.KeyOrder.{AreInOrder}
use Rattle.feed_text.specs.DirectText.{separator}
use Rattle.feed_text.proofs.QuoteLemmas.{kept_more, kept_twice}
use Rattle.feed_text.proofs.DirectLemmas.{kept_after, scalar_counted, scalar_kept}
use Rattle.feed_text.proofs.OrderLemmas.{take_more}
use Rattle.feed_text.proofs.ContainerLemmas.{keys_of, no_items_yet, one_item_written, all_items, array_written, no_members_yet, one_member_more, all_members, object_written, member_is, typed_tree}
use Rattle.feed_text.proofs.direct.+direct.Goals as goal

pub write_value-returns-in_default : goal.write_value-returns-in_default
write_value-returns-in_default g t c = record {
  ok = scalar_counted _ c.write_counted_scalar.result c.args.depth c.args.type_byte c.args.bytes.now c.args.budget.now _ _ _ c.write_counted_scalar.ensures.counted c.write_counted_scalar.ensures.ok;
  kept = scalar_kept _ c.write_counted_scalar.result c.args.type_byte c.args.bytes.now _ _ c.write_counted_scalar.ensures.ok c.write_counted_scalar.ensures.err;
}

pub write_small_object-returns : goal.write_small_object-returns
write_small_object-returns g t c = record {
  ok = on_ok_weaker c.write_object.result (λ w. typed_tree _ c.args.depth 0 c.args.bytes.now (value_of c.in_ok-container.container) _ _ _ _ c.in_ok-container.ensures.value w) c.write_object.ensures.ok;
  kept = c.write_object.ensures.kept;
}

pub write_large_object-returns : goal.write_large_object-returns
write_large_object-returns g t c = record {
  ok = on_ok_weaker c.write_object.result (λ w. typed_tree _ c.args.depth 1 c.args.bytes.now (value_of c.in_ok-container.container) _ _ _ _ c.in_ok-container.ensures.value w) c.write_object.ensures.ok;
  kept = c.write_object.ensures.kept;
}

pub write_small_array-returns : goal.write_small_array-returns
write_small_array-returns g t c = record {
  ok = on_ok_weaker c.write_array.result (λ w. typed_tree _ c.args.depth 2 c.args.bytes.now (value_of c.in_ok-container.container) _ _ _ _ c.in_ok-container.ensures.value w) c.write_array.ensures.ok;
  kept = c.write_array.ensures.kept;
}

pub write_large_array-returns : goal.write_large_array-returns
write_large_array-returns g t c = record {
  ok = on_ok_weaker c.write_array.result (λ w. typed_tree _ c.args.depth 3 c.args.bytes.now (value_of c.in_ok-container.container) _ _ _ _ c.in_ok-container.ensures.value w) c.write_array.ensures.ok;
  kept = c.write_array.ensures.kept;
}

pub write_array-returns : goal.write_array-returns
write_array-returns g t c = record {
  ok = on_ok_weaker c.write_items.result (λ w. array_written _ c.args.depth (c.args.depth - 1) (value_of c.args.array.now) c.args.budget.now (c.args.budget.now - 1) _ _ _ (omega arith) c.requires (omega arith) w) c.write_items.ensures.ok;
  kept = c.write_items.ensures.kept;
}

pub write_object-returns : goal.write_object-returns
write_object-returns g t c = record {
  ok = on_ok_weaker c.write_members.result (λ w. object_written _ c.args.depth (c.args.depth - 1) (value_of c.args.object.now) c.args.budget.now (c.args.budget.now - 1) _ _ _ (omega arith) (let e = c.requires in rw e refl) (omega arith) w) c.write_members.ensures.ok;
  kept = c.write_members.ensures.kept;
}

pub write_items-items-init : goal.write_items-items-init
write_items-items-init g t c = record {
  so_far = no_items_yet _ c.args.depth (value_of c.args.array.now) c.args.budget.now (text_in c.put.new.self) (text_in c.put.new.self) refl;
  kept = kept_after (text_in c.args.out.now) (text_in c.put.new.self) _ c.in_ok-put.ensures.ok;
}

pub write_items-items-preserved : goal.write_items-items-preserved
write_items-items-preserved g t c =
    let l = c.items in
    let s = value_of c.args.array.now in record {
      so_far =
          one_item_written _ c.args.depth s l.pos c.in_ok-type_byte.type_byte c.args.budget.now l.budget c.write_value.new.budget c.in_ok-type_byte.bytes.now (text_in c.put.new.self) (text_in l.out) (text_in c.append_separator.new.out) (text_in c.write_value.new.out) l.is_first c.items-test.true c.in_ok-type_byte.ensures l.invariant.so_far
          c.in_ok-append_separator.ensures.ok c.in_ok-write_value.ensures.ok;
      kept = kept_twice (text_in c.args.out.now) _ _ (kept_more _ _ _ _ l.invariant.kept c.in_ok-append_separator.ensures.ok) c.write_value.ensures.kept;
    }

pub write_items-returns-in_err-write_value-clause-kept : goal.write_items-returns-in_err-write_value-clause-kept
write_items-returns-in_err-write_value-clause-kept g t c = kept_twice (text_in c.args.out.now) _ _ (kept_more _ _ _ _ c.items.invariant.kept c.in_ok-append_separator.ensures.ok) c.write_value.ensures.kept

pub write_items-returns : goal.write_items-returns
write_items-returns g t c =
    let l = c.items in
    let s = value_of c.args.array.now in
    let end : count_in s ≤ l.pos = c.items-test.false in record {
      ok = all_items _ c.args.depth s l.pos c.args.budget.now l.budget (text_in c.args.out.now) (text_in c.put.new.self) (text_in l.out) (text_in c.put-2.new.self) l.is_first end c.in_ok-put.ensures.ok l.invariant.so_far c.in_ok-put-2.ensures.ok;
      kept = kept_more _ _ _ _ l.invariant.kept c.in_ok-put-2.ensures.ok;
    }

pub write_members-members-init : goal.write_members-members-init
write_members-members-init g t c = record {
  so_far = no_members_yet _ c.args.depth (value_of c.args.object.now) c.args.budget.now (text_in c.put.new.self) (text_in c.put.new.self) refl;
  kept = kept_after (text_in c.args.out.now) (text_in c.put.new.self) _ c.in_ok-put.ensures.ok;
}

pub write_members-members-preserved : goal.write_members-members-preserved
write_members-members-preserved g t c =
    let l = c.members in
    let s = value_of c.args.object.now in
    let order = c.as_slice-order.result.now in
    let more : take (l.pos-index + 1) order ≡ take l.pos-index order ++ c.from.result ∷ [] = take_more order l.pos-index c.from.result (omega arith) c.from.ensures in record {
      so_far =
          one_member_more _ c.args.depth s (take l.pos-index order) (take (l.pos-index + 1) order) c.from.result c.args.budget.now l.budget c.write_member.new.budget (text_in c.put.new.self) (text_in l.out) (text_in l.out ++ separator l.is_first) (text_in c.write_member.new.out) l.is_first more l.invariant.so_far
          refl c.in_ok-write_member.ensures.ok;
      kept = kept_twice (text_in c.args.out.now) _ _ l.invariant.kept c.write_member.ensures.kept;
    }

pub write_members-returns : goal.write_members-returns
write_members-returns g t c =
    let l = c.members in
    let s = value_of c.args.object.now in
    let order = c.as_slice-order.result.now in
    let end : l.pos-index ≡ length order = omega arith in
    let whole : take l.pos-index order ≡ order = ap (λ (i : ℕ). take i order) end ∙ take-length order in
    let are = subst (AreInOrder (keys_of s) (count_in s)) (sym c.as_slice-order.ensures.value) c.in_ok-put_order.ensures.order in record {
      ok = all_members _ c.args.depth s order (take l.pos-index order) c.args.budget.now l.budget (text_in c.args.out.now) (text_in c.put.new.self) (text_in l.out) (text_in c.put-2.new.self) l.is_first whole are c.in_ok-put.ensures.ok l.invariant.so_far c.in_ok-put-2.ensures.ok;
      kept = kept_more _ _ _ _ l.invariant.kept c.in_ok-put-2.ensures.ok;
    }

pub write_member-returns : goal.write_member-returns
write_member-returns g t c =
    let s = value_of c.args.object.now in record {
      ok = on_ok_weaker c.write_value.result (λ w. member_is _ c.args.depth s c.args.pos c.in_ok-type_byte.type_byte c.args.budget.now c.write_value.new.budget (text_in c.args.out.now ++ separator c.args.is_first) _ _ _ c.in_ok-type_byte.bytes.now c.known_key_at-len.ensures.key c.in_ok-append_key.ensures.utf8 c.in_ok-append_key.ensures.ok c.in_ok-type_byte.ensures w) c.write_value.ensures.ok;
      kept = kept_twice (text_in c.args.out.now) _ _ c.append_key.ensures.kept c.write_value.ensures.kept;
    }

pub write_items-returns-in_err-put-clause-ok : goal.write_items-returns-in_err-put-clause-ok
write_items-returns-in_err-put-clause-ok g t c = IfOk-from_err c.from_residual.result _ c.from_residual.ensures.0

pub write_items-returns-in_err-append_separator-clause-ok : goal.write_items-returns-in_err-append_separator-clause-ok
write_items-returns-in_err-append_separator-clause-ok g t c = IfOk-from_err c.from_residual-in_err-append_separator.result _ c.from_residual-in_err-append_separator.ensures.0

pub write_items-returns-in_err-type_byte-clause-ok : goal.write_items-returns-in_err-type_byte-clause-ok
write_items-returns-in_err-type_byte-clause-ok g t c = IfOk-from_err c.from_residual-in_err-type_byte.result _ c.from_residual-in_err-type_byte.ensures.0

pub write_items-returns-in_err-write_value-clause-ok : goal.write_items-returns-in_err-write_value-clause-ok
write_items-returns-in_err-write_value-clause-ok g t c = IfOk-from_err c.from_residual-in_err-write_value.result _ c.from_residual-in_err-write_value.ensures.0

pub write_items-returns-in_err-put-2-clause-ok : goal.write_items-returns-in_err-put-2-clause-ok
write_items-returns-in_err-put-2-clause-ok g t c = IfOk-from_err c.from_residual-in_err-put-2.result _ c.from_residual-in_err-put-2.ensures.0

pub write_large_array-returns-in_err-container-clause-ok : goal.write_large_array-returns-in_err-container-clause-ok
write_large_array-returns-in_err-container-clause-ok g t c = IfOk-from_err c.from_residual.result _ c.from_residual.ensures.0

pub write_large_object-returns-in_err-container-clause-ok : goal.write_large_object-returns-in_err-container-clause-ok
write_large_object-returns-in_err-container-clause-ok g t c = IfOk-from_err c.from_residual.result _ c.from_residual.ensures.0

pub write_member-returns-in_err-append_key-clause-ok : goal.write_member-returns-in_err-append_key-clause-ok
write_member-returns-in_err-append_key-clause-ok g t c = IfOk-from_err c.from_residual.result _ c.from_residual.ensures.0

pub write_member-returns-in_err-type_byte-clause-ok : goal.write_member-returns-in_err-type_byte-clause-ok
write_member-returns-in_err-type_byte-clause-ok g t c = IfOk-from_err c.from_residual-in_err-type_byte.result _ c.from_residual-in_err-type_byte.ensures.0

pub write_members-returns-in_err-put_order-clause-ok : goal.write_members-returns-in_err-put_order-clause-ok
write_members-returns-in_err-put_order-clause-ok g t c = IfOk-from_err c.from_residual.result _ c.from_residual.ensures.0

pub write_members-returns-in_err-put-clause-ok : goal.write_members-returns-in_err-put-clause-ok
write_members-returns-in_err-put-clause-ok g t c = IfOk-from_err c.from_residual-in_err-put.result _ c.from_residual-in_err-put.ensures.0

pub write_members-returns-in_err-write_member-clause-ok : goal.write_members-returns-in_err-write_member-clause-ok
write_members-returns-in_err-write_member-clause-ok g t c = IfOk-from_err c.from_residual-in_err-write_member.result _ c.from_residual-in_err-write_member.ensures.0

pub write_members-returns-in_err-put-2-clause-ok : goal.write_members-returns-in_err-put-2-clause-ok
write_members-returns-in_err-put-2-clause-ok g t c = IfOk-from_err c.from_residual-in_err-put-2.result _ c.from_residual-in_err-put-2.ensures.0

pub write_small_array-returns-in_err-container-clause-ok : goal.write_small_array-returns-in_err-container-clause-ok
write_small_array-returns-in_err-container-clause-ok g t c = IfOk-from_err c.from_residual.result _ c.from_residual.ensures.0

pub write_small_object-returns-in_err-container-clause-ok : goal.write_small_object-returns-in_err-container-clause-ok
write_small_object-returns-in_err-container-clause-ok g t c = IfOk-from_err c.from_residual.result _ c.from_residual.ensures.0

pub write_value-returns-in-0 : goal.write_value-returns-in-0
write_value-returns-in-0 g t c = record { ok = rw c.in-0.is c.write_small_object.ensures.ok; kept = c.write_small_object.ensures.kept }

pub write_value-returns-in-1 : goal.write_value-returns-in-1
write_value-returns-in-1 g t c = record { ok = rw c.in-1.is c.write_large_object.ensures.ok; kept = c.write_large_object.ensures.kept }

pub write_value-returns-in-2 : goal.write_value-returns-in-2
write_value-returns-in-2 g t c = record { ok = rw c.in-2.is c.write_small_array.ensures.ok; kept = c.write_small_array.ensures.kept }

pub write_value-returns-in-3 : goal.write_value-returns-in-3
write_value-returns-in-3 g t c = record { ok = rw c.in-3.is c.write_large_array.ensures.ok; kept = c.write_large_array.ensures.kept }

pub write_member-known_key_at-len-requires-clause-known : goal.write_member-known_key_at-len-requires-clause-known
write_member-known_key_at-len-requires-clause-known g t c = c.requires.known
