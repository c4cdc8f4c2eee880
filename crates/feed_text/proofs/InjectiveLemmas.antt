-- Equal quoted texts have equal bytes.
use Rattle.std.proofs.Common.{◌≡◌, ◌<◌, ◌/◌, ◌%◌, ℕ, suc, Bool, true, false, List, [], ◌∷◌, ◌++◌, refl, sym, ap, subst, ◌∙◌, append_assoc, arith}
use Rattle.std.specs.Fmt.{digit_glyph}
use Rattle.std.specs.List.{flat_map}
use Rattle.wire_buf.specs.Encoding.{AreBytes}
use Rattle.feed_writers.specs.Quoting.{is_plain_byte, quoted_byte, quoted}

cons_same : (x y : ℕ) (r s : List ℕ) → x ∷ r ≡ y ∷ s → (x ≡ y) × (r ≡ s)
cons_same x y r s h = (cc, cc)

glyph_same : (a b : ℕ) → a < 16 → b < 16 → digit_glyph false a ≡ digit_glyph false b → a ≡ b
glyph_same a b ha hb h = grind arith

-- a byte whose text begins with a backslash isn't plain
no_backslash : (x : ℕ) → x ≡ 92 → is_plain_byte x ≡ true → ⊥
no_backslash x e p = let f : is_plain_byte 92 ≡ true = subst (λ v. is_plain_byte v ≡ true) e p in cc

no_quote : (x : ℕ) → x ≡ 39 → is_plain_byte x ≡ true → ⊥
no_quote x e p = let f : is_plain_byte 39 ≡ true = subst (λ v. is_plain_byte v ≡ true) e p in cc

-- equal texts begin with equal bytes
first_same : (x y : ℕ) (b c : Bool) → is_plain_byte x ≡ b → is_plain_byte y ≡ c → (r s : List ℕ) → x < 256 → y < 256
    → quoted_byte x ++ r ≡ quoted_byte y ++ s → (x ≡ y) × (r ≡ s)
first_same x y true true p q r s hx hy h = cons_same x y r s (rw (p, q) at h)
first_same x y true false p q r s hx hy h = absurd (no_backslash x (cons_same x 92 _ _ (rw (p, q) at h)).0 p)
first_same x y false true p q r s hx hy h = absurd (no_backslash y (sym (cons_same 92 y _ _ (rw (p, q) at h)).0) q)
first_same x y false false p q r s hx hy h =
    let a = (cons_same 92 92 _ _ (rw (p, q) at h)).1 in
    let high = cons_same _ _ _ _ a in
    let low = cons_same _ _ _ _ high.1 in
    let t = glyph_same (x / 16) (y / 16) (omega (arith, hx)) (omega (arith, hy)) high.0 in
    let o = glyph_same (x % 16) (y % 16) (omega arith) (omega arith) low.0 in
    (omega (arith, t, o), low.1)

-- the last quote is no byte's text
not_first : (y : ℕ) (c : Bool) → is_plain_byte y ≡ c → (s : List ℕ) → 39 ∷ [] ≡ quoted_byte y ++ s → ⊥
not_first y true q s h = no_quote y (sym (cons_same 39 y _ _ (rw q at h)).0) q
not_first y false q s h = let e : 39 ≡ 92 = (cons_same 39 92 _ _ (rw q at h)).0 in omega (arith, e)

rest_bytes : (x : ℕ) (xs : List ℕ) → AreBytes (x ∷ xs) → AreBytes xs
rest_bytes x xs h = λ k. h (suc k)

same_body : (xs ys : List ℕ) → AreBytes xs → AreBytes ys → flat_map quoted_byte xs ++ 39 ∷ [] ≡ flat_map quoted_byte ys ++ 39 ∷ [] → xs ≡ ys
same_body [] [] hx hy h = refl
same_body [] (y ∷ ys) hx hy h = absurd (not_first y (is_plain_byte y) refl _ (h ∙ append_assoc (quoted_byte y) (flat_map quoted_byte ys) (39 ∷ [])))
same_body (x ∷ xs) [] hx hy h = absurd (not_first x (is_plain_byte x) refl _ (sym h ∙ append_assoc (quoted_byte x) (flat_map quoted_byte xs) (39 ∷ [])))
same_body (x ∷ xs) (y ∷ ys) hx hy h =
    let e = sym (append_assoc (quoted_byte x) (flat_map quoted_byte xs) (39 ∷ [])) ∙ h ∙ append_assoc (quoted_byte y) (flat_map quoted_byte ys) (39 ∷ []) in
    let f = first_same x y (is_plain_byte x) (is_plain_byte y) refl refl _ _ (hx 0) (hy 0) e in
    let more = same_body xs ys (rest_bytes x xs hx) (rest_bytes y ys hy) f.1 in
    ap (λ v. v ∷ xs) f.0 ∙ ap (λ v. y ∷ v) more

pub same_quoted : (a b : List ℕ) → AreBytes a → AreBytes b → quoted a ≡ quoted b → a ≡ b
unfolding quoted
same_quoted a b ha hb h = same_body a b ha hb (cons_same 39 39 _ _ h).1
