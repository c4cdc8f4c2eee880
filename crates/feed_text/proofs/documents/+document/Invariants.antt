use Rattle.std.proofs.Common.{◌≡◌, ℕ, List, [], ◌∷◌, ◌++◌, length, take, drop}
use Rattle.std.specs.List.{join_with_byte}
use Rattle.rows_jsonb.specs.JsonTreeViews.{items_view, members_view}
use Rattle.feed_text.specs.DocumentForms.{AreItemsIn, AreMembersIn}
use Rattle.feed_text.proofs.DocumentLemmas.{led}
use Rattle.feed_text.proofs.documents.+document.Given as goal

-- with any texts of the remaining elements the text so far is a whole text, and the text before is unchanged
abbrev pub invariant-append_items-loop-item : goal.invariant-append_items-loop-item
invariant-append_items-loop-item g l = record {
  written : (xs : List (List ℕ)) → AreItemsIn g.F.DocumentForm.form (items_view (drop l.item-index l.item-items)) xs
      → (all : List (List ℕ)) × AreItemsIn g.F.DocumentForm.form (items_view l.item-items) all × (l.out.items ++ led l.separator xs ≡ (l.fn.out.items ++ 91 ∷ []) ++ join_with_byte 44 all);
  kept : take (length l.fn.out.items) l.out.items ≡ l.fn.out.items;
}

abbrev pub invariant-append_members-loop-key : goal.invariant-append_members-loop-key
invariant-append_members-loop-key g l = record {
  written : (xs : List (List ℕ)) → AreMembersIn g.F.DocumentForm.form (members_view l.key-iterator) xs
      → (all : List (List ℕ)) × AreMembersIn g.F.DocumentForm.form (members_view l.members.entries) all × (l.out.items ++ led l.separator xs ≡ (l.fn.out.items ++ 123 ∷ []) ++ join_with_byte 44 all);
  kept : take (length l.fn.out.items) l.out.items ≡ l.fn.out.items;
}
