-- A `JsonDom`, level by level, and the members that a `BTreeMap` represents.
use Rattle.std.proofs.Common.{◌≡◌, List, [], ◌∷◌, String, Vec, BTreeMap, Global, Ordering, Less, Equal, Greater, string_bytes, string_cmp, refl, ◌∙◌, rules}
use Rattle.std.specs.Ordering.{match_ordering}
use Rattle.std.specs.BTreeMap.{insert_entry}
use Rattle.rows_jsonb.specs.JsonTrees.{scalar, array, object, put}
use Rattle.rows_jsonb.specs.JsonTreeViews.{view, scalar_view, items_view, members_view}
use Rattle.rows_jsonb.specs.declared.dom.JsonScalar.{JsonScalar}
use Rattle.rows_jsonb.specs.declared.dom.JsonDom.{JsonDom, Container, Scalar}
use Rattle.rows_jsonb.specs.declared.dom.JsonContainer.{Array, Object, the_lemmas}

pub view-Scalar : (s : JsonScalar) → view (Scalar s) ≡ scalar (scalar_view s)
view-Scalar s = search (rules, the_lemmas)

pub view-Array : (v : Vec JsonDom Global) → view (Container (Array v)) ≡ array (items_view v.items)
view-Array v = search (rules, the_lemmas)

pub view-Object : (m : BTreeMap (String Global) JsonDom) → view (Container (Object m)) ≡ object (members_view m.entries)
view-Object m = search (rules, the_lemmas)

abbrev Entry : Type 0
Entry = String Global × JsonDom

chosen : (o : Ordering) (a b c : List Entry) → members_view (match_ordering o a b c) ≡ match_ordering o (members_view a) (members_view b) (members_view c)
chosen Less a b c = refl
chosen Equal a b c = refl
chosen Greater a b c = refl

pub members_view-insert_entry : (es : List Entry) (k : String Global) (d : JsonDom) → members_view (insert_entry string_cmp es k d) ≡ put (string_bytes k) (view d) (members_view es)
members_view-insert_entry [] k d = refl
members_view-insert_entry (e ∷ es) k d = chosen (string_cmp k e.0) _ _ _ ∙ rw (members_view-insert_entry es k d)
