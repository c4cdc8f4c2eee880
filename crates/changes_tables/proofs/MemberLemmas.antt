-- The members of the columns of one type.
use Rattle.std.proofs.Common.{◌≡◌, ℕ, ◌+◌, ◌<◌, ◌≤◌, List, [], ◌∷◌, ◌++◌, map, take, length, get_or, refl, sym, ap, subst, ◌∙◌}
use Rattle.std.specs.Global.{Vec}
use Rattle.std.specs.List.{AllZip}
use Rattle.std.proofs.lemmas.List.{map-append}
use Rattle.std.proofs.lemmas.List.Elements.{AllZip-push}
use Rattle.std.proofs.lemmas.List.{take_more, take_all}
use Rattle.rows_table_map.specs.Lists.{items_of, items_in}
use Rattle.rows_table_map.specs.Members.{members}
use Rattle.changes_tables.specs.MemberTexts.{Appends}

pub no_members : members [] ≡ []
unfolding items_of items_in
no_members = refl

-- one more text of a list
pub text_pushed : {A : Type 0} (R : List ℕ → List ℕ → Type 0) (v : A → List ℕ) (ms : List A) (i : ℕ) (m : A) (ts us : List (Vec ℕ)) (t : Vec ℕ) → AllZip R (map v (take i ms)) (map (λ (n : Vec ℕ). n.items) ts) → i < length ms → m ≡ get_or ms i m
    → R (v m) t.items → us ≡ ts ++ t ∷ [] → AllZip R (map v (take (i + 1) ms)) (map (λ (n : Vec ℕ). n.items) us)
text_pushed R v ms i m ts us t so_far within is shown pushed =
    let names : map v (take (i + 1) ms) ≡ map v (take i ms) ++ v m ∷ [] = ap (map v) (take_more ms i m within) ∙ map-append v (take i ms) (get_or ms i m ∷ []) ∙ ap (λ x. map v (take i ms) ++ v x ∷ []) (sym is) in
    let texts : map (λ (n : Vec ℕ). n.items) us ≡ map (λ (n : Vec ℕ). n.items) ts ++ t.items ∷ [] = ap (map (λ (n : Vec ℕ). n.items)) pushed ∙ map-append (λ (n : Vec ℕ). n.items) ts (t ∷ []) in
    rw (names, texts) (AllZip-push R (map v (take i ms)) (map (λ (n : Vec ℕ). n.items) ts) (v m) t.items so_far shown)

-- all texts of a list
pub texts_all : {A : Type 0} (R : List ℕ → List ℕ → Type 0) (v : A → List ℕ) (ms : List A) (i : ℕ) (names ts : List (List ℕ)) → AllZip R (map v (take i ms)) ts → length ms ≤ i → map v ms ≡ names → AllZip R names ts
texts_all R v ms i names ts all past is = subst (λ (ns : List (List ℕ)). AllZip R ns ts) (ap (map v) (take_all i ms past) ∙ is) all

-- a text that was appended to nothing
pub text_alone : (R : List ℕ → List ℕ → Type 0) (raw name old new : List ℕ) → Appends (R raw) old new → old ≡ [] → raw ≡ name → R name new
text_alone R raw name old new a empty is =
    subst (λ (n : List ℕ). R n new) is (subst (λ (t : List ℕ). R raw t) (sym (a.appended ∙ ap (λ (o : List ℕ). o ++ a.json) empty)) a.is_json)
