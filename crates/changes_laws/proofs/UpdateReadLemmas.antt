-- An update shows both of its images, and `old` has what it changed.
use Rattle.std.proofs.Common.{◌≡◌, ◌⊎◌, ℕ, ◌<◌, List, [], ◌∷◌, refl, sym, ap, ap₂, ◌∙◌, subst, arith, inl, inr}
use Rattle.std.specs.Prelude.{◌↔◌}
use Rattle.changes_lines.specs.RowJson.{CellJson, IsBefore, IsUpdate, none, unset, added, same, changed}
use Rattle.changes_laws.specs.SameCells.{AreAscending, AreLater, IsAmong, IsChanged, IsUnset, columns_of}

abbrev AreAfter : ℕ → List CellJson → Type 0
AreAfter c cells = AreLater c (columns_of cells)

abbrev AreRising : List CellJson → Type 0
AreRising cells = AreAscending (columns_of cells)

-- ---- columns
first_after : (c : ℕ) (cells : List CellJson) (cs : List ℕ) → IsBefore c cells → columns_of cells ≡ c ∷ cs → ⊥
first_after c [] cs h e = absurd cc
first_after c (z ∷ zs) cs h e = let here : z.column ≡ c = cc in omega (arith, h, here)

old_after : (c : ℕ) (before after newest old : List CellJson) → IsUpdate before after newest old → AreAfter c before → AreAfter c old
old_after c before after newest old none h = tt
old_after c before after newest old (unset {x = x} {before = xs} {after = ys} {newest = ns} {old = os} lt u) h = old_after c xs ys ns os u h.1
old_after c before after newest old (added {y = y} {before = xs} {after = ys} {newest = ns} {old = os} lt u) h = old_after c xs ys ns os u h
old_after c before after newest old (same {x = x} {y = y} {before = xs} {after = ys} {newest = ns} {old = os} e f u) h = old_after c xs ys ns os u h.1
old_after c before after newest old (changed {x = x} {y = y} {before = xs} {after = ys} {newest = ns} {old = os} e f u) h = (h.0, old_after c xs ys ns os u h.1)

cell_same : (x y : CellJson) → x.column ≡ y.column → x.json ≡ y.json → x ≡ y
cell_same x y e f = ap₂ (λ (i : ℕ) (j : List ℕ). let cell : CellJson = record { column = i; json = j } in cell) e f

no_later : (c : ℕ) (cells os : List CellJson) (x : CellJson) → AreAfter c cells → cells ≡ x ∷ os → x.column ≡ c → ⊥
no_later c cells os x h e f = let after : AreAfter c (x ∷ os) = subst (AreAfter c) e h in let lt = after.0 in omega (arith, lt, f)

-- ---- equal rows of equal columns come from equal images
abbrev AreSame : List CellJson → List CellJson → List CellJson → List CellJson → Type 0
AreSame before after b a = (before ≡ b) × (after ≡ a)

both_more : (x : CellJson) (y : CellJson) (xs bs : List CellJson) → x ≡ y → xs ≡ bs → x ∷ xs ≡ y ∷ bs
both_more x y xs bs e f = ap₂ (λ (c : CellJson) (cs : List CellJson). c ∷ cs) e f

pub images_shown : (before after newest old b a n o : List CellJson) → IsUpdate before after newest old → IsUpdate b a n o → newest ≡ n → old ≡ o → columns_of before ≡ columns_of b → columns_of after ≡ columns_of a
    → AreRising before → AreRising b → AreSame before after b a
images_shown before after newest old b a n o none none en eo eb ea rb sb = (refl, refl)
images_shown before after newest old b a n o none (unset lt u) en eo eb ea rb sb = absurd cc
images_shown before after newest old b a n o none (added lt u) en eo eb ea rb sb = absurd cc
images_shown before after newest old b a n o none (same e f u) en eo eb ea rb sb = absurd cc
images_shown before after newest old b a n o none (changed e f u) en eo eb ea rb sb = absurd cc
images_shown before after newest old b a n o (unset lt u) none en eo eb ea rb sb = absurd cc
images_shown before after newest old b a n o (added lt u) none en eo eb ea rb sb = absurd cc
images_shown before after newest old b a n o (same e f u) none en eo eb ea rb sb = absurd cc
images_shown before after newest old b a n o (changed e f u) none en eo eb ea rb sb = absurd cc
images_shown before after newest old b a n o (unset {x = x} {before = xs} {after = ys} {newest = ns} {old = os} lt u) (unset {x = z} {before = zs} {after = ws} {newest = ms} {old = ps} mt v) en eo eb ea rb sb =
    let here : x ≡ z = cc in
    let more = images_shown xs ys ns os zs ws ms ps u v (cc) eo (cc) ea rb.1 sb.1 in
    (both_more x z xs zs here more.0, more.1)
images_shown before after newest old b a n o (unset {x = x} {after = ys} lt u) (added {y = w} {after = ws} mt v) en eo eb ea rb sb =
    let here : x ≡ w = cc in absurd (first_after x.column ys (columns_of ws) lt (ea ∙ ap (λ (c : CellJson). c.column ∷ columns_of ws) (sym here)))
images_shown before after newest old b a n o (unset {x = x} {after = ys} lt u) (same {y = w} {after = ws} e f v) en eo eb ea rb sb =
    let here : x ≡ w = cc in absurd (first_after x.column ys (columns_of ws) lt (ea ∙ ap (λ (c : CellJson). c.column ∷ columns_of ws) (sym here)))
images_shown before after newest old b a n o (unset {x = x} {after = ys} lt u) (changed {y = w} {after = ws} e f v) en eo eb ea rb sb =
    let here : x ≡ w = cc in absurd (first_after x.column ys (columns_of ws) lt (ea ∙ ap (λ (c : CellJson). c.column ∷ columns_of ws) (sym here)))
images_shown before after newest old b a n o (added {y = y} {before = xs} lt u) (unset {x = z} {before = zs} mt v) en eo eb ea rb sb =
    let here : y ≡ z = cc in absurd (first_after y.column xs (columns_of zs) lt (eb ∙ ap (λ (c : CellJson). c.column ∷ columns_of zs) (sym here)))
images_shown before after newest old b a n o (added {y = y} {before = xs} {after = ys} {newest = ns} {old = os} lt u) (added {y = w} {before = zs} {after = ws} {newest = ms} {old = ps} mt v) en eo eb ea rb sb =
    let here : y ≡ w = cc in
    let more = images_shown xs ys ns os zs ws ms ps u v (cc) eo eb (cc) rb sb in
    (more.0, both_more y w ys ws here more.1)
images_shown before after newest old b a n o (added {y = y} {before = xs} lt u) (same {x = z} {y = w} {before = zs} e f v) en eo eb ea rb sb =
    let here : y ≡ w = cc in absurd (first_after y.column xs (columns_of zs) lt (eb ∙ ap (λ (i : ℕ). i ∷ columns_of zs) (e ∙ ap (λ (c : CellJson). c.column) (sym here))))
images_shown before after newest old b a n o (added {y = y} {before = xs} lt u) (changed {x = z} {y = w} {before = zs} e f v) en eo eb ea rb sb =
    let here : y ≡ w = cc in absurd (first_after y.column xs (columns_of zs) lt (eb ∙ ap (λ (i : ℕ). i ∷ columns_of zs) (e ∙ ap (λ (c : CellJson). c.column) (sym here))))
images_shown before after newest old b a n o (same {x = x} {y = y} {after = ys} e f u) (unset {x = z} {after = ws} mt v) en eo eb ea rb sb =
    let here : y ≡ z = cc in absurd (first_after z.column ws (columns_of ys) mt (sym ea ∙ ap (λ (c : CellJson). c.column ∷ columns_of ys) here))
images_shown before after newest old b a n o (same {x = x} {y = y} {before = xs} e f u) (added {y = w} {before = zs} mt v) en eo eb ea rb sb =
    let here : y ≡ w = cc in absurd (first_after w.column zs (columns_of xs) mt (sym eb ∙ ap (λ (i : ℕ). i ∷ columns_of xs) (e ∙ ap (λ (c : CellJson). c.column) here)))
images_shown before after newest old b a n o (same {x = x} {y = y} {before = xs} {after = ys} {newest = ns} {old = os} e f u) (same {x = z} {y = w} {before = zs} {after = ws} {newest = ms} {old = ps} g h v) en eo eb ea rb sb =
    let here : y ≡ w = cc in
    let there : x ≡ z = cell_same x z (cc) (f ∙ ap (λ (c : CellJson). c.json) here ∙ sym h) in
    let more = images_shown xs ys ns os zs ws ms ps u v (cc) eo (cc) (cc) rb.1 sb.1 in
    (both_more x z xs zs there more.0, both_more y w ys ws here more.1)
images_shown before after newest old b a n o (same {x = x} {y = y} {before = xs} {after = ys} {newest = ns} {old = os} e f u) (changed {x = z} {y = w} {old = ps} g h v) en eo eb ea rb sb =
    let column : z.column ≡ x.column = cc in absurd (no_later x.column os ps z (old_after x.column xs ys ns os u rb.0) eo column)
images_shown before after newest old b a n o (changed {x = x} {y = y} {after = ys} e f u) (unset {x = z} {after = ws} mt v) en eo eb ea rb sb =
    let here : y ≡ z = cc in absurd (first_after z.column ws (columns_of ys) mt (sym ea ∙ ap (λ (c : CellJson). c.column ∷ columns_of ys) here))
images_shown before after newest old b a n o (changed {x = x} {y = y} {before = xs} e f u) (added {y = w} {before = zs} mt v) en eo eb ea rb sb =
    let here : y ≡ w = cc in absurd (first_after w.column zs (columns_of xs) mt (sym eb ∙ ap (λ (i : ℕ). i ∷ columns_of xs) (e ∙ ap (λ (c : CellJson). c.column) here)))
images_shown before after newest old b a n o (changed {x = x} {y = y} {old = os} e f u) (same {x = z} {y = w} {before = zs} {after = ws} {newest = ms} {old = ps} g h v) en eo eb ea rb sb =
    let column : x.column ≡ z.column = cc in absurd (no_later z.column ps os x (old_after z.column zs ws ms ps v sb.0) (sym eo) column)
images_shown before after newest old b a n o (changed {x = x} {y = y} {before = xs} {after = ys} {newest = ns} {old = os} e f u) (changed {x = z} {y = w} {before = zs} {after = ws} {newest = ms} {old = ps} g h v) en eo eb ea rb sb =
    let here : y ≡ w = cc in
    let there : x ≡ z = cc in
    let more = images_shown xs ys ns os zs ws ms ps u v (cc) (cc) (cc) (cc) rb.1 sb.1 in
    (both_more x z xs zs there more.0, both_more y w ys ws here more.1)

-- ---- what `old` and the row after an update have
among_after : (c : ℕ) (cells : List CellJson) (x : CellJson) → AreAfter c cells → IsAmong x cells → c < x.column
among_after c [] x h k = absurd k
among_after c (y ∷ ys) x h (inl e) = subst (λ (z : CellJson). c < z.column) (sym e) h.0
among_after c (y ∷ ys) x h (inr k) = among_after c ys x h.1 k

before_all : (c : ℕ) (cells : List CellJson) → IsBefore c cells → AreRising cells → AreAfter c cells
before_all c [] h r = tt
before_all c (y ∷ ys) h r = (h, wider ys r.0)
  where
    wider : (zs : List CellJson) → AreAfter y.column zs → AreAfter c zs
    wider [] k = tt
    wider (z ∷ zs) k = let lt = k.0 in (omega (arith, h, lt), wider zs k.1)

apart : (c : ℕ) (cells : List CellJson) (x y : CellJson) → AreAfter c cells → IsAmong y cells → x.column ≡ c → x.column ≡ y.column → ⊥
apart c cells x y h k e f = let lt = among_after c cells y h k in omega (arith, lt, e, f)

later_changed : (y : CellJson) (ys : List CellJson) (x : CellJson) → IsChanged ys x → IsChanged (y ∷ ys) x
later_changed y ys x h = record { later = h.later; among = inr h.among; column = h.column; other = h.other }

pub old_changed : (before after newest old : List CellJson) (x : CellJson) → IsUpdate before after newest old → IsAmong x old → IsAmong x before × IsChanged after x
old_changed before after newest old x none k = absurd k
old_changed before after newest old x (unset {x = z} {before = xs} {after = ys} {newest = ns} {old = os} lt u) k = let m = old_changed xs ys ns os x u k in (inr m.0, m.1)
old_changed before after newest old x (added {y = y} {before = xs} {after = ys} {newest = ns} {old = os} lt u) k = let m = old_changed xs ys ns os x u k in (m.0, later_changed y ys x m.1)
old_changed before after newest old x (same {x = z} {y = y} {before = xs} {after = ys} {newest = ns} {old = os} e f u) k = let m = old_changed xs ys ns os x u k in (inr m.0, later_changed y ys x m.1)
old_changed before after newest old x (changed {x = z} {y = y} e f u) (inl i) = (inl i, record { later = y; among = inl refl; column = ap (λ (c : CellJson). c.column) i ∙ e; other = λ j. f (ap (λ (c : CellJson). c.json) (sym i) ∙ j) })
old_changed before after newest old x (changed {x = z} {y = y} {before = xs} {after = ys} {newest = ns} {old = os} e f u) (inr k) = let m = old_changed xs ys ns os x u k in (inr m.0, later_changed y ys x m.1)

pub changed_old : (before after newest old : List CellJson) (x y : CellJson) → IsUpdate before after newest old → AreRising before → AreRising after → IsAmong x before → IsAmong y after → x.column ≡ y.column → (x.json ≡ y.json → ⊥) → IsAmong x old
changed_old before after newest old x y none r s k l e f = absurd k
changed_old before after newest old x y (unset {x = z} {after = ys} lt u) r s (inl i) l e f = absurd (apart z.column ys x y (before_all z.column ys lt s) l (ap (λ (c : CellJson). c.column) i) e)
changed_old before after newest old x y (unset {before = xs} {after = ys} {newest = ns} {old = os} lt u) r s (inr k) l e f = changed_old xs ys ns os x y u r.1 s k l e f
changed_old before after newest old x y (added {y = w} {before = xs} lt u) r s k (inl j) e f = absurd (apart w.column xs y x (before_all w.column xs lt r) k (ap (λ (c : CellJson). c.column) j) (sym e))
changed_old before after newest old x y (added {before = xs} {after = ys} {newest = ns} {old = os} lt u) r s k (inr l) e f = changed_old xs ys ns os x y u r s.1 k l e f
changed_old before after newest old x y (same g h u) r s (inl i) (inl j) e f = absurd (f (ap (λ (c : CellJson). c.json) i ∙ h ∙ ap (λ (c : CellJson). c.json) (sym j)))
changed_old before after newest old x y (same {y = w} {after = ys} g h u) r s (inl i) (inr l) e f = absurd (apart w.column ys x y s.0 l (ap (λ (c : CellJson). c.column) i ∙ g) e)
changed_old before after newest old x y (same {x = z} {before = xs} g h u) r s (inr k) (inl j) e f = absurd (apart z.column xs y x r.0 k (ap (λ (c : CellJson). c.column) j ∙ sym g) (sym e))
changed_old before after newest old x y (same {before = xs} {after = ys} {newest = ns} {old = os} g h u) r s (inr k) (inr l) e f = changed_old xs ys ns os x y u r.1 s.1 k l e f
changed_old before after newest old x y (changed g h u) r s (inl i) l e f = inl i
changed_old before after newest old x y (changed {x = z} {before = xs} g h u) r s (inr k) (inl j) e f = absurd (apart z.column xs y x r.0 k (ap (λ (c : CellJson). c.column) j ∙ sym g) (sym e))
changed_old before after newest old x y (changed {before = xs} {after = ys} {newest = ns} {old = os} g h u) r s (inr k) (inr l) e f = inr (changed_old xs ys ns os x y u r.1 s.1 k l e f)

pub old_is_what_changed : (before after newest old : List CellJson) (x : CellJson) → IsUpdate before after newest old → AreRising before → AreRising after → IsAmong x old ↔ (IsAmong x before × IsChanged after x)
old_is_what_changed before after newest old x u r s = (old_changed before after newest old x u, λ h. changed_old before after newest old x h.1.later u r s h.0 h.1.among h.1.column h.1.other)

-- the row after an update
abbrev IsNewest : List CellJson → List CellJson → CellJson → Type 0
IsNewest before after x = IsAmong x after ⊎ (IsAmong x before × IsUnset after x)

unset_more : (y : CellJson) (ys : List CellJson) (x : CellJson) → (x.column ≡ y.column → ⊥) → IsUnset ys x → IsUnset (y ∷ ys) x
unset_more y ys x h k z (inl i) e = h (e ∙ ap (λ (c : CellJson). c.column) i)
unset_more y ys x h k z (inr l) e = k z l e

-- a cell before the update, of a later column than this one's
later_unset : (c : ℕ) (y : CellJson) (xs ys : List CellJson) (x : CellJson) → AreAfter c xs → c ≡ y.column → IsAmong x xs → IsUnset ys x → IsUnset (y ∷ ys) x
later_unset c y xs ys x h e k u = unset_more y ys x (λ f. let lt = among_after c xs x h k in omega (arith, lt, e, f)) u

wider_newest : (z y : CellJson) (xs ys : List CellJson) (x : CellJson) → AreAfter z.column xs → z.column ≡ y.column → IsNewest xs ys x → IsNewest (z ∷ xs) (y ∷ ys) x
wider_newest z y xs ys x h e (inl k) = inl (inr k)
wider_newest z y xs ys x h e (inr k) = inr (inr k.0, later_unset z.column y xs ys x h e k.0 k.1)

newest_from : (before after newest old : List CellJson) (x : CellJson) → IsUpdate before after newest old → AreRising before → AreRising after → IsAmong x newest → IsNewest before after x
newest_from before after newest old x none r s k = absurd k
newest_from before after newest old x (unset {x = z} {after = ys} lt u) r s (inl i) = inr (inl i, λ y l e. apart z.column ys x y (before_all z.column ys lt s) l (ap (λ (c : CellJson). c.column) i) e)
newest_from before after newest old x (unset {x = z} {before = xs} {after = ys} {newest = ns} {old = os} lt u) r s (inr k) = elim (newest_from xs ys ns os x u r.1 s k) [ inl l ↦ inl l | inr l ↦ inr (inr l.0, l.1) ]
newest_from before after newest old x (added lt u) r s (inl i) = inl (inl i)
newest_from before after newest old x (added {y = y} {before = xs} {after = ys} {newest = ns} {old = os} lt u) r s (inr k) =
    elim (newest_from xs ys ns os x u r s.1 k) [ inl l ↦ inl (inr l) | inr l ↦ inr (l.0, later_unset y.column y xs ys x (before_all y.column xs lt r) refl l.0 l.1) ]
newest_from before after newest old x (same e f u) r s (inl i) = inl (inl i)
newest_from before after newest old x (same {x = z} {y = y} {before = xs} {after = ys} {newest = ns} {old = os} e f u) r s (inr k) = wider_newest z y xs ys x r.0 e (newest_from xs ys ns os x u r.1 s.1 k)
newest_from before after newest old x (changed e f u) r s (inl i) = inl (inl i)
newest_from before after newest old x (changed {x = z} {y = y} {before = xs} {after = ys} {newest = ns} {old = os} e f u) r s (inr k) = wider_newest z y xs ys x r.0 e (newest_from xs ys ns os x u r.1 s.1 k)

after_newest : (before after newest old : List CellJson) (x : CellJson) → IsUpdate before after newest old → IsAmong x after → IsAmong x newest
after_newest before after newest old x none k = absurd k
after_newest before after newest old x (unset {before = xs} {after = ys} {newest = ns} {old = os} lt u) k = inr (after_newest xs ys ns os x u k)
after_newest before after newest old x (added lt u) (inl i) = inl i
after_newest before after newest old x (added {before = xs} {after = ys} {newest = ns} {old = os} lt u) (inr k) = inr (after_newest xs ys ns os x u k)
after_newest before after newest old x (same e f u) (inl i) = inl i
after_newest before after newest old x (same {before = xs} {after = ys} {newest = ns} {old = os} e f u) (inr k) = inr (after_newest xs ys ns os x u k)
after_newest before after newest old x (changed e f u) (inl i) = inl i
after_newest before after newest old x (changed {before = xs} {after = ys} {newest = ns} {old = os} e f u) (inr k) = inr (after_newest xs ys ns os x u k)

fewer : (y : CellJson) (ys : List CellJson) (x : CellJson) → IsUnset (y ∷ ys) x → IsUnset ys x
fewer y ys x h z k e = h z (inr k) e

unset_newest : (before after newest old : List CellJson) (x : CellJson) → IsUpdate before after newest old → IsAmong x before → IsUnset after x → IsAmong x newest
unset_newest before after newest old x none k n = absurd k
unset_newest before after newest old x (unset lt u) (inl i) n = inl i
unset_newest before after newest old x (unset {before = xs} {after = ys} {newest = ns} {old = os} lt u) (inr k) n = inr (unset_newest xs ys ns os x u k n)
unset_newest before after newest old x (added {y = y} {before = xs} {after = ys} {newest = ns} {old = os} lt u) k n = inr (unset_newest xs ys ns os x u k (fewer y ys x n))
unset_newest before after newest old x (same {y = y} e f u) (inl i) n = absurd (n y (inl refl) (ap (λ (c : CellJson). c.column) i ∙ e))
unset_newest before after newest old x (same {y = y} {before = xs} {after = ys} {newest = ns} {old = os} e f u) (inr k) n = inr (unset_newest xs ys ns os x u k (fewer y ys x n))
unset_newest before after newest old x (changed {y = y} e f u) (inl i) n = absurd (n y (inl refl) (ap (λ (c : CellJson). c.column) i ∙ e))
unset_newest before after newest old x (changed {y = y} {before = xs} {after = ys} {newest = ns} {old = os} e f u) (inr k) n = inr (unset_newest xs ys ns os x u k (fewer y ys x n))

pub newest_is_after : (before after newest old : List CellJson) (x : CellJson) → IsUpdate before after newest old → AreRising before → AreRising after → IsAmong x newest ↔ (IsAmong x after ⊎ (IsAmong x before × IsUnset after x))
newest_is_after before after newest old x u r s =
    (newest_from before after newest old x u r s, λ h. elim h [ inl k ↦ after_newest before after newest old x u k | inr k ↦ unset_newest before after newest old x u k.0 k.1 ])
