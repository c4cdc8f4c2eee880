use Rattle.std.proofs.Common.{◌≡◌, ◌∷◌, [], ◌++◌, ◌+◌, length, take, drop, string_bytes, refl, ap, sym, subst, ◌∙◌, arith, rules}
use Rattle.std.proofs.Math.Seq.{take-length}
use Rattle.std.proofs.lemmas.List.{drop_more, drop_all}
use Rattle.std.proofs.lemmas.Result.{IfOk-from_err, on_ok_weaker}
use Rattle.rows_jsonb.specs.JsonTrees.{array}
use Rattle.rows_jsonb.specs.JsonTreeViews.{view, scalar_view, items_view, members_view}
use Rattle.rows_jsonb.proofs.DomLemmas.{view-Scalar}
use Rattle.feed_text.specs.DocumentForms.{IsDocumentIn, AreMembersIn, AppendsOne}
use Rattle.feed_text.proofs.QuoteLemmas.{kept_more, kept_twice}
use Rattle.feed_text.proofs.StringLemmas.{utf8_string}
use Rattle.feed_text.proofs.DocumentLemmas.{begun, one_more, closed, member_written, scalar_shown, item_shown, no_items_shown, array_shown, member_shown, no_members_shown, object_shown}
use Rattle.feed_text.proofs.documents.+document.Goals as goal

pub append_document-returns-in-Scalar-clause-ok : goal.append_document-returns-in-Scalar-clause-ok
append_document-returns-in-Scalar-clause-ok g t c =
    let seen = ap view c.in-Scalar.is ∙ view-Scalar c.in-Scalar.scalar in
    on_ok_weaker c.append_scalar.result (λ e. scalar_shown g.F.DocumentForm.form (view c.args.document.now) (scalar_view c.in-Scalar.scalar) _ _ seen e) c.append_scalar.ensures.ok

pub append_items-returns-in_err-append_document-clause-kept : goal.append_items-returns-in_err-append_document-clause-kept
append_items-returns-in_err-append_document-clause-kept g t c =
    kept_twice c.args.out.now.items _ _ (kept_more _ _ _ _ c.loop-item.invariant.kept c.in_ok-extend_from_slice.ensures.items) c.append_document.ensures.kept

pub append_items-loop-item-init : goal.append_items-loop-item-init
append_items-loop-item-init g t c = record {
  written = λ ts h. (ts, h, begun c.args.out.now.items _ c.as_slice-separator.result.now (91 ∷ []) ts c.in_ok-push.ensures.items (search rules));
  kept = kept_more c.args.out.now.items c.args.out.now.items _ _ (take-length c.args.out.now.items) c.in_ok-push.ensures.items;
}

pub append_items-loop-item-preserved : goal.append_items-loop-item-preserved
append_items-loop-item-preserved g t c =
    let l = c.loop-item in
    let xs = c.deref-item-items.result.now in
    let x = c.item-item.result in
    let here : drop l.item-index xs ≡ x ∷ drop (l.item-index + 1) xs = drop_more xs l.item-index x (omega arith) ∙ ap (λ y. y ∷ drop (l.item-index + 1) xs) (sym c.item-item.is) in
    let one = c.in_ok-append_document.ensures.ok in record {
      written = λ ts h.
          let all = l.invariant.written (one.text ∷ ts) (rw here (item_shown g.F.DocumentForm.form (view x) (items_view (drop (l.item-index + 1) xs)) one.text ts one.such h)) in
          (all.0, all.1, one_more _ _ _ _ c.as_slice-separator-in-loop-item.result.now _ _ _ _ c.in_ok-extend_from_slice.ensures.items one.appended (search rules) refl all.2);
      kept = kept_twice c.args.out.now.items _ _ (kept_more _ _ _ _ l.invariant.kept c.in_ok-extend_from_slice.ensures.items) c.append_document.ensures.kept;
    }

pub append_items-returns-clause-ok : goal.append_items-returns-clause-ok
append_items-returns-clause-ok g t c =
    let l = c.loop-item in
    let xs = c.deref-item-items.result.now in
    let none : drop l.item-index xs ≡ [] = drop_all l.item-index xs (omega arith) in
    let all = l.invariant.written [] (no_items_shown g.F.DocumentForm.form (drop l.item-index xs) none) in
    let whole = array_shown g.F.DocumentForm.form (items_view xs) all.0 c.args.out.now.items _ all.1 (closed c.args.out.now.items _ _ l.separator.now all.0 [] 91 93 refl all.2 c.in_ok-push-2.ensures.items) in
    subst (λ ys. AppendsOne (IsDocumentIn g.F.DocumentForm.form (array (items_view ys))) c.args.out.now.items c.push-2.new.self.items) c.deref-item-items.ensures.value whole

pub append_members-returns-in_err-append_document-clause-kept : goal.append_members-returns-in_err-append_document-clause-kept
append_members-returns-in_err-append_document-clause-kept g t c =
    let separated = kept_more c.args.out.now.items _ _ _ c.loop-key.invariant.kept c.in_ok-extend_from_slice.ensures.items in
    let keyed = kept_more c.args.out.now.items _ _ _ separated c.in_ok-append_key.ensures.ok in
    kept_twice c.args.out.now.items _ _ (kept_more _ _ _ _ keyed c.in_ok-push-2.ensures.items) c.append_document.ensures.kept

pub append_members-loop-key-init : goal.append_members-loop-key-init
append_members-loop-key-init g t c = record {
  written = λ ts h. (ts, search (rules, h), begun c.args.out.now.items _ c.as_slice-separator.result.now (123 ∷ []) ts c.in_ok-push.ensures.items (search rules));
  kept = kept_more c.args.out.now.items c.args.out.now.items _ _ (take-length c.args.out.now.items) c.in_ok-push.ensures.items;
}

pub append_members-loop-key-preserved : goal.append_members-loop-key-preserved
append_members-loop-key-preserved g t c =
    let l = c.loop-key in
    let k = string_bytes c.in-Some.key.now in
    let rest = c.next.new.self in
    let one = c.in_ok-append_document.ensures.ok in
    let keyed = c.in_ok-append_key.ensures.ok ∙ ap (λ b. c.extend_from_slice.new.self.items ++ g.F.DocumentForm.form.key b) c.as_bytes.ensures.value in
    let new = member_written _ _ _ _ _ _ keyed c.in_ok-push-2.ensures.items one.appended in
    let separated = kept_more c.args.out.now.items _ _ _ l.invariant.kept c.in_ok-extend_from_slice.ensures.items in
    let after_key = kept_more c.args.out.now.items _ _ _ separated c.in_ok-append_key.ensures.ok in record {
      written = λ ts h.
          let shown = member_shown g.F.DocumentForm.form k one.text (view c.in-Some.member.now) (members_view rest) ts one.such h in
          let all = l.invariant.written ((g.F.DocumentForm.form.key k ++ (58 ∷ one.text)) ∷ ts) (subst (λ es. AreMembersIn g.F.DocumentForm.form (members_view es) ((g.F.DocumentForm.form.key k ++ (58 ∷ one.text)) ∷ ts)) (sym c.in-Some.ensures.steps) shown) in
          (all.0, all.1, one_more _ _ _ _ c.as_slice-separator-in-loop-key.result.now _ _ _ _ c.in_ok-extend_from_slice.ensures.items new (search rules) refl all.2);
      kept = kept_twice c.args.out.now.items _ _ (kept_more _ _ _ _ after_key c.in_ok-push-2.ensures.items) c.append_document.ensures.kept;
    }

pub append_members-returns-clause-ok : goal.append_members-returns-clause-ok
append_members-returns-clause-ok g t c =
    let l = c.loop-key in
    let all = l.invariant.written [] (no_members_shown g.F.DocumentForm.form _ c.in-None.ensures.steps.0) in
    object_shown g.F.DocumentForm.form (members_view c.args.members.now.entries) all.0 c.args.out.now.items _ all.1 (closed c.args.out.now.items _ _ l.separator.now all.0 [] 123 125 refl all.2 c.in_ok-push-3.ensures.items)

pub append_items-returns-in_err-push-clause-ok : goal.append_items-returns-in_err-push-clause-ok
append_items-returns-in_err-push-clause-ok g t c = IfOk-from_err c.from_residual.result _ c.from_residual.ensures.0

pub append_items-returns-in_err-push-clause-kept : goal.append_items-returns-in_err-push-clause-kept
append_items-returns-in_err-push-clause-kept g t c = ap (take (length c.args.out.now.items)) c.in_err-push.ensures.items ∙ take-length c.args.out.now.items

pub append_items-returns-in_err-extend_from_slice-clause-ok : goal.append_items-returns-in_err-extend_from_slice-clause-ok
append_items-returns-in_err-extend_from_slice-clause-ok g t c = IfOk-from_err c.from_residual-in_err-extend_from_slice.result _ c.from_residual-in_err-extend_from_slice.ensures.0

pub append_items-returns-in_err-extend_from_slice-clause-kept : goal.append_items-returns-in_err-extend_from_slice-clause-kept
append_items-returns-in_err-extend_from_slice-clause-kept g t c = ap (take (length c.args.out.now.items)) c.in_err-extend_from_slice.ensures.items ∙ c.loop-item.invariant.kept

pub append_items-returns-in_err-append_document-clause-ok : goal.append_items-returns-in_err-append_document-clause-ok
append_items-returns-in_err-append_document-clause-ok g t c = IfOk-from_err c.from_residual-in_err-append_document.result _ c.from_residual-in_err-append_document.ensures.0

pub append_items-returns-in_err-push-2-clause-ok : goal.append_items-returns-in_err-push-2-clause-ok
append_items-returns-in_err-push-2-clause-ok g t c = IfOk-from_err c.from_residual-in_err-push-2.result _ c.from_residual-in_err-push-2.ensures.0

pub append_items-returns-in_err-push-2-clause-kept : goal.append_items-returns-in_err-push-2-clause-kept
append_items-returns-in_err-push-2-clause-kept g t c = ap (take (length c.args.out.now.items)) c.in_err-push-2.ensures.items ∙ c.loop-item.invariant.kept

pub append_items-returns-clause-kept : goal.append_items-returns-clause-kept
append_items-returns-clause-kept g t c = kept_more c.args.out.now.items _ _ _ c.loop-item.invariant.kept c.in_ok-push-2.ensures.items

pub append_members-returns-in_err-push-clause-ok : goal.append_members-returns-in_err-push-clause-ok
append_members-returns-in_err-push-clause-ok g t c = IfOk-from_err c.from_residual.result _ c.from_residual.ensures.0

pub append_members-returns-in_err-push-clause-kept : goal.append_members-returns-in_err-push-clause-kept
append_members-returns-in_err-push-clause-kept g t c = ap (take (length c.args.out.now.items)) c.in_err-push.ensures.items ∙ take-length c.args.out.now.items

pub append_members-returns-in_err-extend_from_slice-clause-ok : goal.append_members-returns-in_err-extend_from_slice-clause-ok
append_members-returns-in_err-extend_from_slice-clause-ok g t c = IfOk-from_err c.from_residual-in_err-extend_from_slice.result _ c.from_residual-in_err-extend_from_slice.ensures.0

pub append_members-returns-in_err-extend_from_slice-clause-kept : goal.append_members-returns-in_err-extend_from_slice-clause-kept
append_members-returns-in_err-extend_from_slice-clause-kept g t c = ap (take (length c.args.out.now.items)) c.in_err-extend_from_slice.ensures.items ∙ c.loop-key.invariant.kept

pub append_members-returns-in_err-append_key-clause-ok : goal.append_members-returns-in_err-append_key-clause-ok
append_members-returns-in_err-append_key-clause-ok g t c = IfOk-from_err c.from_residual-in_err-append_key.result _ c.from_residual-in_err-append_key.ensures.0

pub append_members-returns-in_err-append_key-clause-kept : goal.append_members-returns-in_err-append_key-clause-kept
append_members-returns-in_err-append_key-clause-kept g t c = ap (take (length c.args.out.now.items)) c.in_err-append_key.ensures.err.1 ∙ kept_more c.args.out.now.items _ _ _ c.loop-key.invariant.kept c.in_ok-extend_from_slice.ensures.items

pub append_members-returns-in_err-push-2-clause-ok : goal.append_members-returns-in_err-push-2-clause-ok
append_members-returns-in_err-push-2-clause-ok g t c = IfOk-from_err c.from_residual-in_err-push-2.result _ c.from_residual-in_err-push-2.ensures.0

pub append_members-returns-in_err-push-2-clause-kept : goal.append_members-returns-in_err-push-2-clause-kept
append_members-returns-in_err-push-2-clause-kept g t c = ap (take (length c.args.out.now.items)) c.in_err-push-2.ensures.items ∙ kept_more c.args.out.now.items _ _ _ (kept_more c.args.out.now.items _ _ _ c.loop-key.invariant.kept c.in_ok-extend_from_slice.ensures.items) c.in_ok-append_key.ensures.ok

pub append_members-returns-in_err-append_document-clause-ok : goal.append_members-returns-in_err-append_document-clause-ok
append_members-returns-in_err-append_document-clause-ok g t c = IfOk-from_err c.from_residual-in_err-append_document.result _ c.from_residual-in_err-append_document.ensures.0

pub append_members-returns-in_err-push-3-clause-ok : goal.append_members-returns-in_err-push-3-clause-ok
append_members-returns-in_err-push-3-clause-ok g t c = IfOk-from_err c.from_residual-in_err-push-3.result _ c.from_residual-in_err-push-3.ensures.0

pub append_members-returns-in_err-push-3-clause-kept : goal.append_members-returns-in_err-push-3-clause-kept
append_members-returns-in_err-push-3-clause-kept g t c = ap (take (length c.args.out.now.items)) c.in_err-push-3.ensures.items ∙ c.loop-key.invariant.kept

pub append_members-returns-clause-kept : goal.append_members-returns-clause-kept
append_members-returns-clause-kept g t c = kept_more c.args.out.now.items _ _ _ c.loop-key.invariant.kept c.in_ok-push-3.ensures.items

pub append_members-append_key-requires : goal.append_members-append_key-requires
append_members-append_key-requires g t c = utf8_string c.in-Some.key.now _ c.as_bytes.ensures.value
