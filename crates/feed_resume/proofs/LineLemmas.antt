-- The lines of a text, from its end.
use Rattle.std.proofs.Common.{◌≡◌, ℕ, suc, ◌+◌, ◌-◌, ◌<◌, ◌≤◌, Bool, true, false, inl, inr, List, [], ◌∷◌, ◌++◌, length, take, drop, get_or, Some, None, refl, sym, ap, ap₂, subst, ◌∙◌, append_assoc, length-append, length-drop, arith}
use Rattle.std.specs.Prelude.{◌==◌}
use Rattle.std.proofs.lemmas.Bool.{eqb-true}
use Rattle.std.proofs.lemmas.List.{take_more, get_or-drop, take-take, take_at, drop-take, length-take-le, take-append-drop}
use Rattle.feed_resume.specs.Conditions.{onto}
use Rattle.feed_resume.specs.Kept.{prepend_byte, lines, commit_in, total, kept_back, kept}
use Rattle.memchr.specs.Find.{Nowhere, Passes, is_byte}
use Rattle.feed_resume.specs.LineStarts.{IsCompleteLines, NoFeed, IsLastLineStart}

-- the bytes after the last line feed are no line
pub lines-rest : (a b : List ℕ) → NoFeed b → lines (a ++ b) ≡ lines a
unfolding lines
lines-rest [] [] h = refl
lines-rest [] (c ∷ b) h = rw (lines, h.0) (ap (prepend_byte c) (lines-rest [] b h.1))
lines-rest (c ∷ a) b h = ap (λ (l : List (List ℕ)). elim (c == 10) [ true ↦ (10 ∷ []) ∷ l | false ↦ prepend_byte c l ]) (lines-rest a b h)

-- the lines of a text up to a line feed, and those after it
record Joins (a b : List ℕ) : Type 0 where
  first : List ℕ
  more : List (List ℕ)
  one : lines (a ++ 10 ∷ []) ≡ first ∷ more
  both : lines (a ++ 10 ∷ b) ≡ first ∷ (more ++ lines b)
  size : total (lines (a ++ 10 ∷ [])) ≡ length a + 1

joins_more : (c : ℕ) (a b : List ℕ) (t : Bool) → (c == 10) ≡ t → Joins a b → Joins (c ∷ a) b
unfolding lines
joins_more c a b true e j = record {
  first = 10 ∷ [];
  more = j.first ∷ j.more;
  one = rw (lines, e) (ap (λ (l : List (List ℕ)). (10 ∷ []) ∷ l) j.one);
  both = rw (lines, e) (ap (λ (l : List (List ℕ)). (10 ∷ []) ∷ l) j.both);
  size = rw (lines, e) (omega (arith, j.size));
}
joins_more c a b false e j = record {
  first = c ∷ j.first;
  more = j.more;
  one = rw (lines, e) (ap (prepend_byte c) j.one);
  both = rw (lines, e) (ap (prepend_byte c) j.both);
  size = let k : total (j.first ∷ j.more) ≡ length a + 1 = ap total (sym j.one) ∙ j.size in rw (lines, e, j.one) (omega (arith, k));
}

joins : (a b : List ℕ) → Joins a b
unfolding lines
joins [] b = record { first = 10 ∷ []; more = []; one = refl; both = refl; size = refl }
joins (c ∷ a) b = joins_more c a b (c == 10) refl (joins a b)

one_line : (body : List ℕ) → NoFeed body → lines (body ++ 10 ∷ []) ≡ (body ++ 10 ∷ []) ∷ []
unfolding lines
one_line [] h = refl
one_line (c ∷ body) h = rw (lines, h.0) (ap (prepend_byte c) (one_line body h.1))

-- a line after complete ones
pub lines-append : (a body : List ℕ) → IsCompleteLines a → NoFeed body → lines (a ++ (body ++ 10 ∷ [])) ≡ lines a ++ (body ++ 10 ∷ []) ∷ []
unfolding lines
lines-append a body (inl e) h = rw e (one_line body h)
lines-append a body (inr (prefix, e)) h =
    let j = joins prefix (body ++ 10 ∷ []) in
    ap (λ (x : List ℕ). lines (x ++ (body ++ 10 ∷ []))) e
    ∙ ap lines (append_assoc prefix (10 ∷ []) (body ++ 10 ∷ []))
    ∙ j.both
    ∙ ap (λ (l : List (List ℕ)). j.first ∷ (j.more ++ l)) (one_line body h)
    ∙ ap (λ (l : List (List ℕ)). l ++ (body ++ 10 ∷ []) ∷ []) (sym j.one ∙ ap lines (sym e))

onto-snoc : {A : Type 0} (past seen : List A) (e : A) → onto past (seen ++ e ∷ []) ≡ e ∷ onto past seen
onto-snoc past [] e = refl
onto-snoc past (x ∷ l) e = onto-snoc (x ∷ past) l e

total-onto : (past l : List (List ℕ)) → total (onto past l) ≡ total past + total l
total-onto past [] = omega arith
total-onto past (x ∷ l) = omega (arith, total-onto (x ∷ past) l)

pub total-lines : (a : List ℕ) → IsCompleteLines a → total (onto [] (lines a)) ≡ length a
unfolding lines
total-lines a (inl e) = rw e refl
total-lines a (inr (prefix, e)) = omega (arith, total-onto [] (lines a), ap (λ (x : List ℕ). total (lines x)) e, (joins prefix []).size, ap length e, length-append prefix (10 ∷ []))

-- nothing is kept of an empty text
pub kept_nothing : kept [] ≡ (0, None)
unfolding kept kept_back lines
kept_nothing = refl

-- the bytes after the last line feed aren't kept
pub kept_rest : (a b : List ℕ) → NoFeed b → kept (a ++ b) ≡ kept a
unfolding kept
kept_rest a b h = ap (λ (l : List (List ℕ)). kept_back (onto [] l)) (lines-rest a b h)

kept_line : (a body : List ℕ) → IsCompleteLines a → NoFeed body → kept (a ++ (body ++ 10 ∷ [])) ≡ kept_back ((body ++ 10 ∷ []) ∷ onto [] (lines a))
unfolding kept
kept_line a body w h = ap (λ (l : List (List ℕ)). kept_back (onto [] l)) (lines-append a body w h) ∙ ap kept_back (onto-snoc [] (lines a) (body ++ 10 ∷ []))

-- a text whose last line is a commit line is kept
pub kept_commit : (a body : List ℕ) (position : ℕ) → IsCompleteLines a → NoFeed body → commit_in (body ++ 10 ∷ []) ≡ Some position → kept (a ++ (body ++ 10 ∷ [])) ≡ (length (a ++ (body ++ 10 ∷ [])), Some position)
unfolding kept_back
kept_commit a body position w h e =
    let size : total ((body ++ 10 ∷ []) ∷ onto [] (lines a)) ≡ length (a ++ (body ++ 10 ∷ [])) = omega (arith, total-lines a w, length-append a (body ++ 10 ∷ [])) in
    kept_line a body w h ∙ rw (kept_back, e) (ap (λ (n : ℕ). (n, Some position)) size)

-- of a text whose last line is no commit line, what is kept of the lines before it
pub kept_earlier : (a body : List ℕ) → IsCompleteLines a → NoFeed body → commit_in (body ++ 10 ∷ []) ≡ None → kept (a ++ (body ++ 10 ∷ [])) ≡ kept a
unfolding kept kept_back
kept_earlier a body w h e = kept_line a body w h ∙ rw (kept_back, e) refl

-- ---- the start of the last line

-- bytes that are no line feed, by their offsets
no_feed : (text : List ℕ) → ((k : ℕ) → k < length text → (get_or text k 0 == 10) ≡ false) → NoFeed text
no_feed [] h = tt
no_feed (c ∷ text) h = (h 0 (omega arith), no_feed text (λ k small. h (suc k) (omega (arith, small))))

not_is_false : (b : Bool) → (b ≡ true → ⊥) → b ≡ false
not_is_false true h = absurd (h refl)
not_is_false false h = refl

-- after a line feed that is the last
pub begins_at_feed : (text : List ℕ) (feed : ℕ) → feed < length text → (get_or text feed 0 == 10) ≡ true → Nowhere (Passes (is_byte 10) text) (feed + 1) (length text) → IsLastLineStart text (feed + 1)
begins_at_feed text feed small is after =
    let e : get_or text feed 0 ≡ 10 = eqb-true (get_or text feed 0) 10 is in
    record {
      within = omega (arith, small);
      whole = inr (take feed text, take_more text feed 0 small ∙ ap (λ (c : ℕ). take feed text ++ c ∷ []) e);
      rest = no_feed (drop (feed + 1) text) (λ k below. not_is_false (get_or (drop (feed + 1) text) k 0 == 10) (λ t. after (feed + 1 + k) (omega arith) (omega (arith, below, length-drop (feed + 1) text, small)) (sym (ap (λ (c : ℕ). c == 10) (get_or-drop (feed + 1) text k 0)) ∙ t)));
    }

-- at the start of a text without a line feed
pub begins_at_start : (text : List ℕ) → Nowhere (Passes (is_byte 10) text) 0 (length text) → IsLastLineStart text 0
begins_at_start text none = record {
  within = omega arith;
  whole = inl refl;
  rest = no_feed text (λ k below. not_is_false (get_or text k 0 == 10) (none k (omega arith) below));
}

-- ---- one line back

-- the bytes of a line between two offsets
abbrev pub body_of : List ℕ → ℕ → ℕ → List ℕ
body_of text start end = take (end - 1 - start) (drop start text)

-- a text of complete lines, by its last line
pub record HasLast (text : List ℕ) (start end : ℕ) : Type 0 where
  pub before : start < end
  pub split : take end text ≡ take start text ++ (body_of text start end ++ 10 ∷ [])
  pub whole : IsCompleteLines (take start text)
  pub no_feed : NoFeed (body_of text start end)

without_feed : (text prefix : List ℕ) (end : ℕ) → 0 < end → end ≤ length text → take end text ≡ prefix ++ 10 ∷ [] → take (end - 1) text ≡ prefix
without_feed text prefix end some fits e =
    let size : length prefix ≡ end - 1 = omega (arith, ap length e, length-append prefix (10 ∷ []), length-take-le end text fits) in
    sym (take-take (end - 1) end text (omega arith)) ∙ ap (take (end - 1)) e ∙ take_at prefix (10 ∷ []) (end - 1) (omega (arith, size))

ends_with_feed : (text : List ℕ) (end : ℕ) → 0 < end → end ≤ length text → IsCompleteLines (take end text) → take end text ≡ take (end - 1) text ++ 10 ∷ []
ends_with_feed text end some fits (inl e) = absurd (omega (arith, ap length e, length-take-le end text fits))
ends_with_feed text end some fits (inr (prefix, e)) = e ∙ ap (λ (x : List ℕ). x ++ 10 ∷ []) (sym (without_feed text prefix end some fits e))

pub has_last : (text : List ℕ) (start end : ℕ) → 0 < end → end ≤ length text → IsCompleteLines (take end text) → IsLastLineStart (take (end - 1) text) start → HasLast text start end
has_last text start end some fits w b =
    let le : start ≤ end - 1 = omega (arith, b.within, length-take-le (end - 1) text (omega arith)) in
    let prefix : take start (take (end - 1) text) ≡ take start text = take-take start (end - 1) text le in
    let sum : end - 1 ≡ start + (end - 1 - start) = omega (arith, le) in
    let back : drop start (take (end - 1) text) ≡ body_of text start end = ap (λ (n : ℕ). drop start (take n text)) sum ∙ drop-take start (end - 1 - start) text in
    let parts : take (end - 1) text ≡ take start text ++ body_of text start end = sym (take-append-drop start (take (end - 1) text)) ∙ ap₂ (λ (a b : List ℕ). a ++ b) prefix back in
    record {
      before = omega (arith, le, some);
      split = ends_with_feed text end some fits w ∙ ap (λ (x : List ℕ). x ++ 10 ∷ []) parts ∙ append_assoc (take start text) (body_of text start end) (10 ∷ []);
      whole = subst IsCompleteLines prefix b.whole;
      no_feed = subst NoFeed back b.rest;
    }

-- a text up to its last line feed
pub kept_prefix : (text : List ℕ) (end : ℕ) → IsLastLineStart text end → kept text ≡ kept (take end text)
kept_prefix text end b = ap kept (sym (take-append-drop end text)) ∙ kept_rest (take end text) (drop end text) b.rest

pub kept_at : (text : List ℕ) (start end position : ℕ) → end ≤ length text → HasLast text start end → commit_in (body_of text start end ++ 10 ∷ []) ≡ Some position → kept (take end text) ≡ (end, Some position)
kept_at text start end position fits h e =
    ap kept h.split ∙ kept_commit (take start text) (body_of text start end) position h.whole h.no_feed e ∙ ap (λ (n : ℕ). (n, Some position)) (ap length (sym h.split) ∙ length-take-le end text fits)

pub kept_before : (text : List ℕ) (start end : ℕ) → HasLast text start end → commit_in (body_of text start end ++ 10 ∷ []) ≡ None → kept (take end text) ≡ kept (take start text)
kept_before text start end h e = ap kept h.split ∙ kept_earlier (take start text) (body_of text start end) h.whole h.no_feed e

-- the lines after complete ones
pub lines-whole : (a b : List ℕ) → IsCompleteLines a → lines (a ++ b) ≡ lines a ++ lines b
unfolding lines
lines-whole a b (inl e) = rw e refl
lines-whole a b (inr (prefix, e)) =
    let j = joins prefix b in
    ap (λ (x : List ℕ). lines (x ++ b)) e ∙ ap lines (append_assoc prefix (10 ∷ []) b) ∙ j.both ∙ ap (λ (l : List (List ℕ)). l ++ lines b) (sym j.one ∙ ap lines (sym e))
