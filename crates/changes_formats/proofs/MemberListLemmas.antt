-- Members of a SET, one by one.
use Rattle.std.proofs.Common.{◌≡◌, ℕ, zero, suc, ◌+◌, Bool, true, false, List, [], ◌∷◌, ◌++◌, map, drop, refl, sym, ap, ap₂, ◌∙◌, append_assoc, arith, add-one}
use Rattle.std.specs.Prelude.{if◌then◌else◌}
use Rattle.std.specs.List.{filter, flat_map, range_with_len}
use Rattle.std.proofs.lemmas.List.{append-nil, map-append}
use Rattle.std.proofs.lemmas.List.Concat.{flat_map-append}
use Rattle.std.proofs.lemmas.List.Elements.{filter-append}
use Rattle.changes_formats.specs.EnvelopeMembers.{with_commas}

-- ---- one more text after texts
abbrev pub comma_unless : Bool → List ℕ
comma_unless is_first = if is_first then [] else 44 ∷ []

-- whether a list is empty
abbrev pub is_none : {A : Type 0} → List A → Bool
is_none [] = true
is_none (x ∷ l) = false

comma_more : (texts : List (List ℕ)) (text : List ℕ) → with_commas (texts ++ text ∷ []) ≡ with_commas texts ++ (comma_unless (is_none texts) ++ text)
comma_more [] text = append-nil text
comma_more (first ∷ texts) text =
    ap (λ (t : List ℕ). first ++ t) (flat_map-append (λ (t : List ℕ). 44 ∷ t) texts (text ∷ []) ∙ ap (λ (t : List ℕ). flat_map (λ (u : List ℕ). 44 ∷ u) texts ++ 44 ∷ t) (append-nil text))
    ∙ sym (append_assoc first (flat_map (λ (t : List ℕ). 44 ∷ t) texts) (44 ∷ text))

-- ---- the bits up to one
range_more : (a n : ℕ) → range_with_len a (suc n) ≡ range_with_len a n ++ (a + n) ∷ []
range_more a zero = ap (λ (k : ℕ). k ∷ []) (omega arith)
range_more a (suc n) = ap (λ (t : List ℕ). a ∷ t) (range_more (a + 1) n ∙ ap (λ (k : ℕ). range_with_len (a + 1) n ++ k ∷ []) (omega arith))

abbrev pub chosen : (ℕ → Bool) → ℕ → List ℕ
chosen p n = filter p (range_with_len 0 n)

abbrev pub none_chosen : (ℕ → Bool) → ℕ → Bool
none_chosen p n = is_none (chosen p n)

abbrev pub so_far : (ℕ → Bool) → (ℕ → List ℕ) → ℕ → List ℕ
so_far p item n = with_commas (map item (chosen p n))

chosen_more : (p : ℕ → Bool) (n : ℕ) → chosen p (n + 1) ≡ chosen p n ++ filter p (n ∷ [])
chosen_more p n =
    let e : 0 + n ≡ n = omega arith in
    ap (chosen p) (add-one n) ∙ ap (filter p) (range_more 0 n ∙ ap (λ (k : ℕ). range_with_len 0 n ++ k ∷ []) e) ∙ filter-append p (range_with_len 0 n) (n ∷ [])

pub chosen_with : (p : ℕ → Bool) (n : ℕ) → p n ≡ true → chosen p (n + 1) ≡ chosen p n ++ n ∷ []
chosen_with p n e = chosen_more p n ∙ ap (λ (t : List ℕ). chosen p n ++ t) (rw e refl)

pub chosen_without : (p : ℕ → Bool) (n : ℕ) → p n ≡ false → chosen p (n + 1) ≡ chosen p n
chosen_without p n e = chosen_more p n ∙ ap (λ (t : List ℕ). chosen p n ++ t) (rw e refl) ∙ append-nil (chosen p n)

none_mapped : (item : ℕ → List ℕ) (l : List ℕ) → is_none (map item l) ≡ is_none l
none_mapped item [] = refl
none_mapped item (x ∷ l) = refl

-- an item was written
pub item_added : (p : ℕ → Bool) (item : ℕ → List ℕ) (n : ℕ) (is_first : Bool) (base old new : List ℕ) → p n ≡ true → is_first ≡ none_chosen p n → old ≡ base ++ so_far p item n → new ≡ old ++ (comma_unless is_first ++ item n) → new ≡ base ++ so_far p item (n + 1)
item_added p item n is_first base old new e f h is =
    let texts = map item (chosen p n) in
    is ∙ ap₂ (λ (s : List ℕ) (b : Bool). s ++ (comma_unless b ++ item n)) h (f ∙ sym (none_mapped item (chosen p n)))
    ∙ append_assoc base (with_commas texts) (comma_unless (is_none texts) ++ item n)
    ∙ ap (λ (t : List ℕ). base ++ t) (sym (comma_more texts (item n)))
    ∙ ap (λ (l : List (List ℕ)). base ++ with_commas l) (sym (map-append item (chosen p n) (n ∷ [])))
    ∙ ap (λ (l : List ℕ). base ++ with_commas (map item l)) (sym (chosen_with p n e))

some_more : (l : List ℕ) (n : ℕ) → is_none (l ++ n ∷ []) ≡ false
some_more [] n = refl
some_more (x ∷ l) n = refl

pub some_chosen : (p : ℕ → Bool) (n : ℕ) → p n ≡ true → false ≡ none_chosen p (n + 1)
some_chosen p n e = sym (ap (λ (l : List ℕ). is_none l) (chosen_with p n e) ∙ some_more (chosen p n) n)

-- items between two bytes
pub enclosed : (base one two new items : List ℕ) (first last : ℕ) → one ≡ base ++ (first ∷ []) → two ≡ one ++ items → new ≡ two ++ (last ∷ []) → new ≡ base ++ (first ∷ (items ++ (last ∷ [])))
enclosed base one two new items first last e f g =
    let begun : one ++ items ≡ base ++ (first ∷ items) = ap (λ (t : List ℕ). t ++ items) e ∙ append_assoc base (first ∷ []) items in
    g ∙ ap (λ (t : List ℕ). t ++ (last ∷ [])) (f ∙ begun) ∙ append_assoc base (first ∷ items) (last ∷ [])
