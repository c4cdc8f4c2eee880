-- Members with some of known names, and objects that are open for more.
use Rattle.std.proofs.Common.{◌≡◌, ℕ, List, [], ◌∷◌, ◌++◌, sym, ap, subst, append_assoc, T}
use Rattle.std.specs.Prelude.{IsUtf8, codes}
use Rattle.std.proofs.lemmas.List.{append-nil}
use Rattle.changes_writers.specs.JsonStrings.{json_string}
use Rattle.changes_laws.specs.JsonGrammar.{Json, Members, no_members, member}
use Rattle.changes_laws.specs.JsonNames.{names_of, IsOther, AreDistinct}
use Rattle.changes_laws.proofs.StringGrammarLemmas.{all_ascii, utf8_known}
use Rattle.changes_laws.proofs.WrittenJson.{IsJson, IsObject, HasMembers, HasMoreMembers, joined_members, first_member, next_member, more_members, no_more_members, members_then, names_of-joined_members, closed_object}
use Rattle.changes_laws.proofs.DocumentGrammarLemmas.{are_distinct, distinct_known}

-- ---- some of these names, in their order
pub data AreSome : List (List ℕ) → List (List ℕ) → Type 0 where
  none : AreSome [] []
  kept : {n : List ℕ} {ns all : List (List ℕ)} → AreSome ns all → AreSome (n ∷ ns) (n ∷ all)
  left_out : {n : List ℕ} {ns all : List (List ℕ)} → AreSome ns all → AreSome ns (n ∷ all)

none_of : (all : List (List ℕ)) → AreSome [] all
none_of [] = none
none_of (n ∷ all) = left_out (none_of all)

both_some : (ns all ms more : List (List ℕ)) → AreSome ns all → AreSome ms more → AreSome (ns ++ ms) (all ++ more)
both_some ns all ms more none t = t
both_some ns all ms more (kept {n = n} {ns = ks} {all = rest} s) t = kept (both_some ks rest ms more s t)
both_some ns all ms more (left_out {n = n} {ns = ks} {all = rest} s) t = left_out (both_some ks rest ms more s t)

-- some of different names are different
other_some : (name : List ℕ) (ns all : List (List ℕ)) → AreSome ns all → IsOther name all → IsOther name ns
other_some name ns all none o = tt
other_some name ns all (kept {n = n} {ns = ks} {all = rest} s) o = (o.0, other_some name ks rest s o.1)
other_some name ns all (left_out {n = n} {ns = ks} {all = rest} s) o = other_some name ks rest s o.1

distinct_some : (ns all : List (List ℕ)) → AreSome ns all → AreDistinct all → AreDistinct ns
distinct_some ns all none d = tt
distinct_some ns all (kept {n = n} {ns = ks} {all = rest} s) d = (other_some n ks rest s d.0, distinct_some ks rest s d.1)
distinct_some ns all (left_out {n = n} {ns = ks} {all = rest} s) d = distinct_some ks rest s d.1

-- ---- members with some of these names, each after a comma
pub record HasNamed (P : Type 0) (names : List (List ℕ)) (text : List ℕ) : Type 0 where
  pub members : Members
  pub has : HasMoreMembers P members text
  pub named : AreSome (names_of members) names

pub none_named : (P : Type 0) (names : List (List ℕ)) → HasNamed P names []
none_named P names = record { members = no_members; has = no_more_members P; named = none_of names }

next_of : (P : Type 0) (k x y : List ℕ) (ms : Members) → IsUtf8 k → (j : IsJson P x) → HasMoreMembers P ms y → HasMoreMembers P (member k j.value ms) (44 ∷ (json_string k ++ 58 ∷ (x ++ y)))
next_of P k x y ms h j m = subst (λ (t : List ℕ). HasMoreMembers P (member k j.value ms) (44 ∷ t)) (append_assoc (json_string k) (58 ∷ x) y) (next_member P k x y ms h j m)

pub next_named : (P : Type 0) (k x y : List ℕ) (ks : List (List ℕ)) → T (all_ascii k) → IsJson P x → HasNamed P ks y → HasNamed P (k ∷ ks) (44 ∷ (json_string k ++ 58 ∷ (x ++ y)))
next_named P k x y ks h j m = record { members = member k j.value m.members; has = next_of P k x y m.members (utf8_known k h) j m.has; named = kept m.named }

pub last_named : (P : Type 0) (k x : List ℕ) → T (all_ascii k) → IsJson P x → HasNamed P (k ∷ []) (44 ∷ (json_string k ++ 58 ∷ x))
last_named P k x h j = subst (λ (t : List ℕ). HasNamed P (k ∷ []) (44 ∷ (json_string k ++ 58 ∷ t))) (append-nil x) (next_named P k x [] [] h j (none_named P []))

pub both_named : (P : Type 0) (ks ls : List (List ℕ)) (x y : List ℕ) → HasNamed P ks x → HasNamed P ls y → HasNamed P (ks ++ ls) (x ++ y)
both_named P ks ls x y m n = record {
  members = joined_members m.members n.members;
  has = more_members P m.members n.members x y m.has n.has;
  named = subst (λ (ns : List (List ℕ)). AreSome ns (ks ++ ls)) (sym (names_of-joined_members m.members n.members)) (both_some (names_of m.members) ks (names_of n.members) ls m.named n.named);
}

-- the start of an object whose first member has this name, and the others some of these
pub record Opens (P : Type 0) (k : List ℕ) (ks : List (List ℕ)) (text : List ℕ) : Type 0 where
  pub value : Json
  pub members : Members
  pub rest : List ℕ
  pub is : text ≡ 123 ∷ rest
  pub has : HasMembers P (member k value members) rest
  pub named : AreSome (names_of members) ks

pub opens_with : (P : Type 0) (k x y : List ℕ) (ks : List (List ℕ)) → T (all_ascii k) → IsJson P x → HasNamed P ks y → Opens P k ks (123 ∷ (json_string k ++ 58 ∷ (x ++ y)))
opens_with P k x y ks h j m = record {
  value = j.value;
  members = m.members;
  rest = (json_string k ++ 58 ∷ x) ++ y;
  is = ap (λ (t : List ℕ). 123 ∷ t) (sym (append_assoc (json_string k) (58 ∷ x) y));
  has = first_member P k x y m.members (utf8_known k h) j m.has;
  named = m.named;
}

pub opens_then : (P : Type 0) (k : List ℕ) (ks ls : List (List ℕ)) (x y : List ℕ) → Opens P k ks x → HasNamed P ls y → Opens P k (ks ++ ls) (x ++ y)
opens_then P k ks ls x y o m = record {
  value = o.value;
  members = joined_members o.members m.members;
  rest = o.rest ++ y;
  is = ap (λ (t : List ℕ). t ++ y) o.is;
  has = members_then P k o.value o.members m.members o.rest y o.has m.has;
  named = subst (λ (ns : List (List ℕ)). AreSome ns (ks ++ ls)) (sym (names_of-joined_members o.members m.members)) (both_some (names_of o.members) ks (names_of m.members) ls o.named m.named);
}

pub opens_closed : (P : Type 0) (k : List ℕ) (ks : List (List ℕ)) (x : List ℕ) → T (are_distinct (k ∷ ks)) → Opens P k ks x → IsObject P (x ++ codes "}")
opens_closed P k ks x d o =
    subst (λ (t : List ℕ). IsObject P (t ++ codes "}")) (sym o.is)
    (closed_object P (member k o.value o.members) o.rest o.has (λ p. distinct_some (k ∷ names_of o.members) (k ∷ ks) (kept o.named) (distinct_known (k ∷ ks) d)))
