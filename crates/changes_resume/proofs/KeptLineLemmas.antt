-- What is kept of lines that are taken one by one.
use Rattle.std.proofs.Common.{◌≡◌, ℕ, ◌+◌, ◌<◌, ◌%◌, ◌^◌, true, false, inl, inr, List, [], ◌∷◌, ◌++◌, length, take, get_or, refl, sym, ap, subst, ◌∙◌, append_assoc, length-append, arith}
use Rattle.std.specs.Prelude.{if◌then◌else◌, ◌==◌}
use Rattle.std.proofs.lemmas.List.{append-nil, take_more, length-take-le, get_or-take}
use Rattle.std.proofs.lemmas.Bool.{eqb-true}
use Rattle.feed_resume.specs.Conditions.{onto}
use Rattle.feed_resume.specs.Kept.{lines, total}
use Rattle.feed_resume.specs.LineStarts.{IsCompleteLines, NoFeed}
use Rattle.feed_resume.proofs.LineLemmas.{lines-rest, lines-append, total-lines, begins_at_start}
use Rattle.memchr.specs.Find.{Nowhere, NoneBefore, Passes, is_byte}
use Rattle.changes_resume.specs.KeptJson.{is_last_line, kept_lines_back, kept_lines, kept_len, first_line}
use Rattle.changes_resume.specs.LineKeepers.{EndsLine, AreLinesOf, RepresentsLines}
use Rattle.changes_resume.specs.declared.line_keeper.LineKeeper.{LineKeeper}

pub onto-snoc : {A : Type 0} (past seen : List A) (e : A) → onto past (seen ++ e ∷ []) ≡ e ∷ onto past seen
onto-snoc past [] e = refl
onto-snoc past (x ∷ l) e = onto-snoc (x ∷ past) l e

no_feed-append : (a b : List ℕ) → NoFeed a → NoFeed b → NoFeed (a ++ b)
no_feed-append [] b h k = k
no_feed-append (c ∷ a) b h k = (h.0, no_feed-append a b h.1 k)

-- no more is kept of a text than of its complete lines
pub kept_complete : (prefix line : List ℕ) → NoFeed line → kept_lines (prefix ++ line) ≡ kept_lines prefix
unfolding kept_lines
kept_complete prefix line n = ap (λ (l : List (List ℕ)). kept_lines_back (onto [] l)) (lines-rest prefix line n)

-- one more line
kept_next : (prefix body : List ℕ) → IsCompleteLines prefix → NoFeed body
    → kept_lines (prefix ++ (body ++ 10 ∷ [])) ≡ (if is_last_line (body ++ 10 ∷ []) then (body ++ 10 ∷ []) ∷ onto [] (lines prefix) else kept_lines prefix)
unfolding kept_lines kept_lines_back
kept_next prefix body w n =
    ap (λ (l : List (List ℕ)). kept_lines_back (onto [] l)) (lines-append prefix body w n) ∙ ap kept_lines_back (onto-snoc [] (lines prefix) (body ++ 10 ∷ []))

pub of_nothing : AreLinesOf 0 0 [] [] []
unfolding kept_lines kept_lines_back lines
of_nothing = record { prefix = []; split = refl; whole = inl refl; no_feed = tt; complete_is = refl; len_is = refl; last_is = refl }

pub len_of : (complete_len len : ℕ) (last line text : List ℕ) → AreLinesOf complete_len len last line text → len ≡ kept_len text
len_of complete_len len last line text h = h.len_is ∙ ap total (sym (ap kept_lines h.split ∙ kept_complete h.prefix line h.no_feed))

pub last_of : (complete_len len : ℕ) (last line text : List ℕ) → AreLinesOf complete_len len last line text → last ≡ first_line (kept_lines text)
last_of complete_len len last line text h = h.last_is ∙ ap first_line (sym (ap kept_lines h.split ∙ kept_complete h.prefix line h.no_feed))

-- the line that ends, and the text up to it
record Next (prefix line end : List ℕ) : Type 0 where
  whole : IsCompleteLines (prefix ++ (line ++ end))
  kept : kept_lines (prefix ++ (line ++ end)) ≡ (if is_last_line (line ++ end) then (line ++ end) ∷ onto [] (lines prefix) else kept_lines prefix)

next : (prefix line end : List ℕ) → IsCompleteLines prefix → NoFeed line → EndsLine end → Next prefix line end
next prefix line end w n e =
    let is : line ++ end ≡ (line ++ e.body) ++ 10 ∷ [] = ap (λ x. line ++ x) e.is ∙ sym (append_assoc line e.body (10 ∷ [])) in
    record {
      whole = inr (prefix ++ (line ++ e.body), ap (λ x. prefix ++ x) is ∙ sym (append_assoc prefix (line ++ e.body) (10 ∷ [])));
      kept = subst (λ (l : List ℕ). kept_lines (prefix ++ l) ≡ (if is_last_line l then l ∷ onto [] (lines prefix) else kept_lines prefix)) (sym is) (kept_next prefix (line ++ e.body) w (no_feed-append line e.body n e.no_feed));
    }

-- the text is longer by the end of its line
grown : (complete_len len : ℕ) (last line text end : List ℕ) → (h : AreLinesOf complete_len len last line text) → text ++ end ≡ h.prefix ++ (line ++ end)
grown complete_len len last line text end h = ap (λ x. x ++ end) h.split ∙ append_assoc h.prefix line end

pub ended : (complete_len len new_len : ℕ) (last line text end : List ℕ) → AreLinesOf complete_len len last line text → EndsLine end → length (text ++ end) < 2 ^ 64
    → new_len ≡ (complete_len + length (line ++ end)) % 2 ^ 64 → is_last_line (line ++ end) ≡ true → AreLinesOf new_len new_len (line ++ end) [] (text ++ end)
ended complete_len len new_len last line text end h e fits is ends =
    let n = next h.prefix line end h.whole h.no_feed e in
    let g = grown complete_len len last line text end h in
    let sum = length-append h.prefix (line ++ end) in
    let size : new_len ≡ length (h.prefix ++ (line ++ end)) = omega (arith, is, fits, sum, h.complete_is, ap length g) in
    let kept : kept_lines (h.prefix ++ (line ++ end)) ≡ (line ++ end) ∷ onto [] (lines h.prefix) = n.kept ∙ ap (λ b. if b then (line ++ end) ∷ onto [] (lines h.prefix) else kept_lines h.prefix) ends in
    record {
      prefix = h.prefix ++ (line ++ end);
      split = g ∙ sym (append-nil _);
      whole = n.whole;
      no_feed = tt;
      complete_is = size;
      len_is = omega (arith, size, sum, ap total kept, total-lines h.prefix h.whole);
      last_is = sym (ap first_line kept);
    }

pub ended_within : (complete_len len new_len : ℕ) (last line text end : List ℕ) → AreLinesOf complete_len len last line text → EndsLine end → length (text ++ end) < 2 ^ 64
    → new_len ≡ (complete_len + length (line ++ end)) % 2 ^ 64 → is_last_line (line ++ end) ≡ false → AreLinesOf new_len len last [] (text ++ end)
ended_within complete_len len new_len last line text end h e fits is ends =
    let n = next h.prefix line end h.whole h.no_feed e in
    let g = grown complete_len len last line text end h in
    let kept : kept_lines (h.prefix ++ (line ++ end)) ≡ kept_lines h.prefix = n.kept ∙ ap (λ b. if b then (line ++ end) ∷ onto [] (lines h.prefix) else kept_lines h.prefix) ends in
    record {
      prefix = h.prefix ++ (line ++ end);
      split = g ∙ sym (append-nil _);
      whole = n.whole;
      no_feed = tt;
      complete_is = omega (arith, is, fits, length-append h.prefix (line ++ end), h.complete_is, ap length g);
      len_is = h.len_is ∙ ap total (sym kept);
      last_is = h.last_is ∙ ap first_line (sym kept);
    }

-- bytes within a line
pub within_line : (complete_len len : ℕ) (last line text piece : List ℕ) → NoFeed piece → AreLinesOf complete_len len last line text → AreLinesOf complete_len len last (line ++ piece) (text ++ piece)
within_line complete_len len last line text piece n h = record {
  prefix = h.prefix;
  split = ap (λ x. x ++ piece) h.split ∙ append_assoc h.prefix line piece;
  whole = h.whole;
  no_feed = no_feed-append line piece h.no_feed n;
  complete_is = h.complete_is;
  len_is = h.len_is;
  last_is = h.last_is;
}

-- ---- a piece, line by line

-- a part of a piece was taken, and this is left
pub record TakesPiece (old new : LineKeeper) (piece rest : List ℕ) : Type 0 where
  pub read : List ℕ
  pub split : piece ≡ read ++ rest
  pub taken : (text : List ℕ) → RepresentsLines old text → length (text ++ read) < 2 ^ 64 → RepresentsLines new (text ++ read)

pub nothing_taken : (k : LineKeeper) (piece : List ℕ) → TakesPiece k k piece piece
nothing_taken k piece = record { read = []; split = refl; taken = λ text h fits. subst (RepresentsLines k) (sym (append-nil text)) h }

pub line_taken : (old mid new : LineKeeper) (piece rest end after : List ℕ) → TakesPiece old mid piece rest → rest ≡ end ++ after
    → ((text : List ℕ) → RepresentsLines mid text → length (text ++ end) < 2 ^ 64 → RepresentsLines new (text ++ end)) → TakesPiece old new piece after
line_taken old mid new piece rest end after t e ends = record {
  read = t.read ++ end;
  split = t.split ∙ ap (λ x. t.read ++ x) e ∙ sym (append_assoc t.read end after);
  taken = λ text h fits.
      let same = append_assoc text t.read end in
      let long : length ((text ++ t.read) ++ end) < 2 ^ 64 = subst (λ l. length l < 2 ^ 64) (sym same) fits in
      subst (RepresentsLines new) same (ends (text ++ t.read) (t.taken text h (omega (arith, long, length-append (text ++ t.read) end))) long);
}

pub rest_taken : (old mid new : LineKeeper) (piece rest : List ℕ) → TakesPiece old mid piece rest → NoFeed rest → new.complete_len ≡ mid.complete_len → new.len ≡ mid.len → new.last ≡ mid.last
    → new.line.items ≡ mid.line.items ++ rest → (text : List ℕ) → RepresentsLines old text → length (text ++ piece) < 2 ^ 64 → RepresentsLines new (text ++ piece)
rest_taken old mid new piece rest t n c l a e text h fits =
    let whole : text ++ piece ≡ (text ++ t.read) ++ rest = ap (λ x. text ++ x) t.split ∙ sym (append_assoc text t.read rest) in
    let long : length ((text ++ t.read) ++ rest) < 2 ^ 64 = subst (λ l. length l < 2 ^ 64) whole fits in
    let before = t.taken text h (omega (arith, long, length-append (text ++ t.read) rest)) in
    rw (c, l, a, e, whole) (within_line mid.complete_len mid.len mid.last.items mid.line.items (text ++ t.read) rest n before)

-- the first line feed ends a line
pub ends_line : (rest : List ℕ) (feed : ℕ) → NoneBefore (Passes (is_byte 10) rest) 0 (length rest) feed → Passes (is_byte 10) rest feed → EndsLine (take (feed + 1) rest)
ends_line rest feed first here =
    let size = length-take-le feed rest (let h = first.high in omega arith) in
    record {
      body = take feed rest;
      is = take_more rest feed 0 first.high ∙ ap (λ c. take feed rest ++ c ∷ []) (eqb-true (get_or rest feed 0) 10 here);
      no_feed = (begins_at_start (take feed rest) (λ k low high passes. first.before k low (omega (arith, high, size)) (subst (λ c. (c == 10) ≡ true) (get_or-take feed rest k 0 (omega (arith, high, size))) passes))).rest;
    }

pub no_feed_left : (rest : List ℕ) → Nowhere (Passes (is_byte 10) rest) 0 (length rest) → NoFeed rest
no_feed_left rest none = (begins_at_start rest none).rest
