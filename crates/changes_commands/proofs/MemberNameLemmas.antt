-- The members of names that are read one after the other.
use Rattle.std.proofs.Common.{◌≡◌, ℕ, zero, suc, ◌+◌, ◌<◌, Bool, true, false, ◌&&◌, ◌||◌, List, [], ◌∷◌, ◌++◌, length, take, get_or, Option, Some, None, is_some, add-one, refl, sym, ap, ◌∙◌, subst, arith}
use Rattle.std.specs.Prelude.{if◌then◌else◌}
use Rattle.std.specs.List.{filter_map, list_all, list_any}
use Rattle.std.proofs.Math.Seq.{take-suc}
use Rattle.std.proofs.lemmas.List.{take_all}
use Rattle.std.proofs.lemmas.List.Elements.{filter_map-append}
use Rattle.std.proofs.lemmas.List.Folds.{list_all-append, list_any-append}
use Rattle.changes_origins.specs.declared.added_members.AddedMembers.{AddedMembers}
use Rattle.changes_commands.specs.MemberNames.{any_of, either, members_named, members_of}

abbrev is_known : List ℕ → Bool
is_known n = is_some (members_named n)

-- the names so far are known, and have these members
pub record SoFar (names : List (List ℕ)) (added : AddedMembers) : Type 0 where
  pub known : list_all is_known names ≡ true
  pub are : added ≡ any_of (filter_map members_named names)

or_false : (b : Bool) → (b || false) ≡ b
or_false true = refl
or_false false = refl

one_more : (p : AddedMembers → Bool) (l : List AddedMembers) (m : AddedMembers) → list_any p (l ++ m ∷ []) ≡ (list_any p l || p m)
one_more p l m = list_any-append p l (m ∷ []) ∙ ap (λ (b : Bool). list_any p l || b) (or_false (p m))

any_more : (l : List AddedMembers) (m : AddedMembers) → any_of (l ++ m ∷ []) ≡ either (any_of l) m
any_more l m =
    rw (one_more (λ (a : AddedMembers). a.begin) l m, one_more (λ (a : AddedMembers). a.ts_ms) l m, one_more (λ (a : AddedMembers). a.xid) l m, one_more (λ (a : AddedMembers). a.thread_id) l m, one_more (λ (a : AddedMembers). a.query) l m, one_more (λ (a : AddedMembers). a.row) l m) refl

both_true : (a b : Bool) → a ≡ true → b ≡ true → (a && (b && true)) ≡ true
both_true a b e f = rw (e, f) refl

alone : (n : List ℕ) (m : AddedMembers) → members_named n ≡ Some m → filter_map members_named (n ∷ []) ≡ m ∷ []
alone n m e = rw e refl

more : (l : List (List ℕ)) (n : List ℕ) (added m now : AddedMembers) → SoFar l added → members_named n ≡ Some m → now ≡ either added m → SoFar (l ++ n ∷ []) now
more l n added m now s e f = record {
  known = list_all-append is_known l (n ∷ []) ∙ both_true (list_all is_known l) (is_known n) s.known (ap (λ (o : Option AddedMembers). is_some o) e);
  are = f ∙ ap (λ (a : AddedMembers). either a m) s.are ∙ sym (any_more (filter_map members_named l) m) ∙ ap any_of (sym (filter_map-append members_named l (n ∷ []) ∙ ap (λ (t : List AddedMembers). filter_map members_named l ++ t) (alone n m e)));
}

-- the next of all names
pub known_more : (all : List (List ℕ)) (i j : ℕ) (n : List ℕ) (added m now : AddedMembers) → j ≡ i + 1 → i < length all → n ≡ get_or all i n → SoFar (take i all) added → members_named n ≡ Some m → now ≡ either added m → SoFar (take j all) now
known_more all i j n added m now is lt e s k f =
    let next : take j all ≡ take i all ++ n ∷ [] = ap (λ (a : ℕ). take a all) (is ∙ add-one i) ∙ take-suc all i n lt ∙ ap (λ (t : List ℕ). take i all ++ t ∷ []) (sym e) in
    subst (λ (l : List (List ℕ)). SoFar l now) (sym next) (more (take i all) n added m now s k f)

and_false : (a b : Bool) → b ≡ false → (a && b) ≡ false
and_false true b e = e
and_false false b e = refl

-- one of the names is unknown
unknown : (l : List (List ℕ)) (i : ℕ) (n : List ℕ) → i < length l → n ≡ get_or l i n → members_named n ≡ None → list_all is_known l ≡ false
unknown [] i n lt e f = absurd (omega (arith, lt))
unknown (x ∷ xs) zero n lt e f = ap (λ (t : List ℕ). is_known t && list_all is_known xs) (sym e) ∙ ap (λ (o : Option AddedMembers). is_some o && list_all is_known xs) f
unknown (x ∷ xs) (suc i) n lt e f = and_false (is_known x) (list_all is_known xs) (unknown xs i n (omega (arith, lt)) e f)

none_of : (l : List (List ℕ)) → list_all is_known l ≡ false → None ≡ members_of l
none_of l e = ap (λ (b : Bool). if b then Some (any_of (filter_map members_named l)) else None) (sym e)

pub none_at : (l : List (List ℕ)) (i : ℕ) (n : List ℕ) (r : Option AddedMembers) → r ≡ None → i < length l → n ≡ get_or l i n → None ≡ members_named n → r ≡ members_of l
none_at l i n r e lt at f = e ∙ none_of l (unknown l i n lt at (sym f))

some_of : (l : List (List ℕ)) (added : AddedMembers) → SoFar l added → Some added ≡ members_of l
some_of l added s = ap (λ (a : AddedMembers). Some a) s.are ∙ ap (λ (b : Bool). if b then Some (any_of (filter_map members_named l)) else None) (sym s.known)

-- all of the names
pub some_at : (l : List (List ℕ)) (i : ℕ) (added : AddedMembers) → i ≡ length l → SoFar (take i l) added → Some added ≡ members_of l
some_at l i added e s = some_of l added (subst (λ (k : List (List ℕ)). SoFar k added) (take_all i l (omega (arith, e))) s)
