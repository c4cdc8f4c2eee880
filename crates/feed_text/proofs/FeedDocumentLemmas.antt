-- The form of the feed has the feed's texts.
use Rattle.std.proofs.Common.{◌≡◌, ℕ, List, [], ◌∷◌, ◌++◌, ap, ap₂, ◌∙◌}
use Rattle.std.specs.List.{join_with_byte}
use Rattle.rows_jsonb.specs.JsonTrees as tree
use Rattle.rows_jsonb.specs.JsonTrees.{Tree, Items, no_items, item, Members, no_members, member}
use Rattle.feed_writers.specs.Quoting.{quoted}
use Rattle.feed_text.specs.JsonText.{scalar_text, document_text, item_texts, member_texts}
use Rattle.feed_text.specs.DocumentForms.{IsScalarIn, IsDocumentIn, AreItemsIn, AreMembersIn, AppendsOne}
use Rattle.feed_text.specs.FeedDocuments.{feed_form}

scalar_is : (s : tree.Scalar) (x : List ℕ) → IsScalarIn feed_form s x → x ≡ scalar_text s
unfolding IsScalarIn scalar_text
scalar_is tree.null x h = h
scalar_is (tree.boolean b) x h = h
scalar_is (tree.int z) x h = h
scalar_is (tree.uint n) x h = h
scalar_is (tree.double bits) x h = h
scalar_is (tree.decimal d) x h = h
scalar_is (tree.string s) x h = h
scalar_is (tree.time t) x h = h
scalar_is (tree.opaque number bytes) x h = h

mutual
  unfolding IsDocumentIn AreItemsIn AreMembersIn document_text item_texts member_texts

  pub document_is : (t : Tree) (x : List ℕ) → IsDocumentIn feed_form t x → x ≡ document_text t
  document_is (tree.scalar s) x h = scalar_is s x h
  document_is (tree.array is) x h = h.2 ∙ ap (λ (xs : List (List ℕ)). 91 ∷ (join_with_byte 44 xs ++ 93 ∷ [])) (items_are is h.0 h.1)
  document_is (tree.object ms) x h = h.2 ∙ ap (λ (xs : List (List ℕ)). 123 ∷ (join_with_byte 44 xs ++ 125 ∷ [])) (members_are ms h.0 h.1)

  items_are : (is : Items) (xs : List (List ℕ)) → AreItemsIn feed_form is xs → xs ≡ item_texts is
  items_are no_items xs h = h
  items_are (item t ts) [] h = absurd h
  items_are (item t ts) (x ∷ xs) h = ap₂ (λ (y : List ℕ) (ys : List (List ℕ)). y ∷ ys) (document_is t x h.0) (items_are ts xs h.1)

  members_are : (ms : Members) (xs : List (List ℕ)) → AreMembersIn feed_form ms xs → xs ≡ member_texts ms
  members_are no_members xs h = h
  members_are (member k t ms) [] h = absurd h
  members_are (member k t ms) (x ∷ xs) h =
      let one = h.0 in
      ap₂ (λ (y : List ℕ) (ys : List (List ℕ)). y ∷ ys) (one.2 ∙ ap (λ (v : List ℕ). quoted k ++ (58 ∷ v)) (document_is t one.0 one.1)) (members_are ms xs h.1)

-- the document's text was appended
pub document_appended : (t : Tree) (old new : List ℕ) → AppendsOne (IsDocumentIn feed_form t) old new → new ≡ old ++ document_text t
document_appended t old new h = h.appended ∙ ap (λ (x : List ℕ). old ++ x) (document_is t h.text h.such)
