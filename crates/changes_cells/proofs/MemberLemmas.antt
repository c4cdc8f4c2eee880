-- The members of ENUM and SET columns.
use Rattle.std.proofs.Common.{◌≡◌, ◌<◌, ◌≤◌, ◌+◌, ◌-◌, ℕ, zero, suc, Bool, true, false, List, [], ◌∷◌, ◌++◌, length, map, slice_index_or, if◌then◌else◌, ◌==◌, true≢false, refl, sym, ap, ◌∙◌, append_assoc, arith}
use Rattle.std.specs.List.{filter, join_with_byte, range_with_len}
use Rattle.std.proofs.lemmas.List.{append-nil, map-append}
use Rattle.std.proofs.lemmas.List.Elements.{filter-append}
use Rattle.feed_text.specs.DirectText.{separator}
use Rattle.std.specs.Fmt.{decimal}
use Rattle.changes_cells.specs.CellJson.{member_json, bit_json, bit_texts, has_bit, members_json}

-- the member that was found, and none past the end
pub found : {X : Type 0} (f : X → List ℕ) (xs : List X) (k : ℕ) (x : X) (d : List ℕ) → k < length xs → ((e : X) → x ≡ slice_index_or xs k e) → slice_index_or (map f xs) k d ≡ f x
found f [] k x d h q = absurd (omega (arith, h))
found f (y ∷ ys) zero x d h q = ap f (sym (q y))
found f (y ∷ ys) (suc k) x d h q = found f ys k x d (omega (arith, h)) q

pub past : {X : Type 0} (f : X → List ℕ) (xs : List X) (k : ℕ) (d : List ℕ) → length xs ≤ k → slice_index_or (map f xs) k d ≡ d
past f [] k d h = refl
past f (y ∷ ys) zero d h = absurd (omega (arith, h))
past f (y ∷ ys) (suc k) d h = past f ys k d (omega (arith, h))

pub member_found : {X : Type 0} (f : X → List ℕ) (xs : List X) (n : ℕ) (x : X) → (n ≡ 0 → ⊥) → n - 1 < length xs → ((e : X) → x ≡ slice_index_or xs (n - 1) e) → member_json (map f xs) n ≡ f x
member_found f xs zero x some h q = absurd (some refl)
member_found f xs (suc k) x some h q = let same : suc k - 1 ≡ k = omega arith in found f xs k x (decimal (suc k)) (omega (arith, h)) (rw same at q)

pub member_past : {X : Type 0} (f : X → List ℕ) (xs : List X) (n : ℕ) → (n ≡ 0 → ⊥) → length xs ≤ n - 1 → member_json (map f xs) n ≡ decimal n
member_past f xs zero some h = absurd (some refl)
member_past f xs (suc k) some h = past f xs k (decimal (suc k)) (omega (arith, h))

-- ---- the members of a SET, one by one
-- a comma before another element
abbrev pub after_elements : List (List ℕ) → List ℕ
after_elements [] = []
after_elements (x ∷ xs) = 44 ∷ []

join_more : (xs : List (List ℕ)) (y : List ℕ) → join_with_byte 44 (xs ++ y ∷ []) ≡ join_with_byte 44 xs ++ (after_elements xs ++ y)
join_more [] y = refl
join_more (x ∷ []) y = refl
join_more (x ∷ z ∷ xs) y = ap (λ (t : List ℕ). x ++ 44 ∷ t) (join_more (z ∷ xs) y) ∙ sym (append_assoc x (44 ∷ join_with_byte 44 (z ∷ xs)) (44 ∷ y))

range_more : (a n j : ℕ) → a + n ≡ j → range_with_len a (suc n) ≡ range_with_len a n ++ j ∷ []
range_more a zero j e = let same : a ≡ j = omega (arith, e) in ap (λ (k : ℕ). k ∷ []) same
range_more a (suc n) j e = ap (λ (t : List ℕ). a ∷ t) (range_more (a + 1) n j (omega (arith, e)))

texts_more : (ms : List (List ℕ)) (bits k : ℕ) → bit_texts ms bits (suc k) ≡ bit_texts ms bits k ++ (if has_bit bits k then bit_json ms k ∷ [] else [])
texts_more ms bits k =
    ap (λ (l : List ℕ). map (bit_json ms) (filter (has_bit bits) l)) (range_more 0 k k (omega arith)) ∙ ap (map (bit_json ms)) (filter-append (has_bit bits) (range_with_len 0 k) (k ∷ []))
    ∙ map-append (bit_json ms) (filter (has_bit bits) (range_with_len 0 k)) (filter (has_bit bits) (k ∷ [])) ∙ ap (λ (t : List (List ℕ)). bit_texts ms bits k ++ t) (one (has_bit bits k) refl)
  where
    one : (b : Bool) → has_bit bits k ≡ b → map (bit_json ms) (filter (has_bit bits) (k ∷ [])) ≡ (if has_bit bits k then bit_json ms k ∷ [] else [])
    one true e = rw e refl
    one false e = rw e refl

skipped : (ms : List (List ℕ)) (bits k : ℕ) → has_bit bits k ≡ false → bit_texts ms bits (suc k) ≡ bit_texts ms bits k
skipped ms bits k e = texts_more ms bits k ∙ rw e (append-nil (bit_texts ms bits k))

more : (ms : List (List ℕ)) (bits k : ℕ) → has_bit bits k ≡ true → bit_texts ms bits (suc k) ≡ bit_texts ms bits k ++ bit_json ms k ∷ []
more ms bits k e = texts_more ms bits k ∙ rw e refl

pub bit_skipped : (ms : List (List ℕ)) (bits k j : ℕ) → j ≡ suc k → has_bit bits k ≡ false → bit_texts ms bits k ≡ bit_texts ms bits j
bit_skipped ms bits k j is e = sym (ap (bit_texts ms bits) is ∙ skipped ms bits k e)

pub bit_appended : (ms : List (List ℕ)) (bits k j : ℕ) (old out one new : List ℕ) → j ≡ suc k → has_bit bits k ≡ true → out ≡ old ++ join_with_byte 44 (bit_texts ms bits k) → one ≡ out ++ after_elements (bit_texts ms bits k) → new ≡ one ++ bit_json ms k
    → new ≡ old ++ join_with_byte 44 (bit_texts ms bits j)
bit_appended ms bits k j old out one new next e h first is =
    let t = bit_texts ms bits k in
    is ∙ ap (λ (x : List ℕ). x ++ bit_json ms k) (first ∙ ap (λ (x : List ℕ). x ++ after_elements t) h)
    ∙ append_assoc (old ++ join_with_byte 44 t) (after_elements t) (bit_json ms k) ∙ append_assoc old (join_with_byte 44 t) (after_elements t ++ bit_json ms k)
    ∙ ap (λ (x : List ℕ). old ++ x) (sym (join_more t (bit_json ms k)) ∙ ap (join_with_byte 44) (sym (ap (bit_texts ms bits) next ∙ more ms bits k e)))

pub comma_after : (ms : List (List ℕ)) (bits k j : ℕ) → j ≡ suc k → has_bit bits k ≡ true → separator false ≡ after_elements (bit_texts ms bits j)
comma_after ms bits k j next e = sym (ap after_elements (ap (bit_texts ms bits) next ∙ more ms bits k e) ∙ some (bit_texts ms bits k) (bit_json ms k))
  where
    some : (xs : List (List ℕ)) (y : List ℕ) → after_elements (xs ++ y ∷ []) ≡ 44 ∷ []
    some [] y = refl
    some (x ∷ xs) y = refl

pub array_written : {X : Type 0} (f : X → List ℕ) (xs : List X) (bits : ℕ) (old one two new : List ℕ) → (length xs == 0) ≡ false → one ≡ old ++ 91 ∷ [] → two ≡ one ++ join_with_byte 44 (bit_texts (map f xs) bits 64) → new ≡ two ++ 93 ∷ []
    → new ≡ old ++ members_json (map f xs) bits
unfolding members_json
array_written f [] bits old one two new some first second is = absurd (true≢false some)
array_written f (x ∷ xs) bits old one two new some first second is =
    is ∙ ap (λ (t : List ℕ). t ++ 93 ∷ []) (second ∙ ap (λ (t : List ℕ). t ++ join_with_byte 44 (bit_texts (map f (x ∷ xs)) bits 64)) first) ∙ simp append_assoc
