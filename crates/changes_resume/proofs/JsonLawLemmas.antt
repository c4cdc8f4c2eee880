-- What is kept of a prefix of the lines of transactions, and of what was kept.
use Rattle.std.proofs.Common.{◌≡◌, ℕ, zero, suc, ◌+◌, ◌-◌, ◌<◌, ◌≤◌, Bool, true, false, inl, inr, List, [], ◌∷◌, ◌++◌, length, take, refl, sym, ap, ap₂, subst, ◌∙◌, append_assoc, length-append, arith}
use Rattle.std.specs.Prelude.{◌==◌, if◌then◌else◌}
use Rattle.std.specs.List.{concat}
use Rattle.std.proofs.lemmas.Bool.{cases_lt, eqb-true}
use Rattle.std.proofs.lemmas.List.{append-nil, take-append-le, take_at}
use Rattle.feed_resume.specs.Conditions.{onto}
use Rattle.feed_resume.specs.Kept.{lines, total, prepend_byte}
use Rattle.feed_resume.specs.LineStarts.{NoFeed}
use Rattle.feed_resume.proofs.LineLemmas.{lines-rest, lines-append, lines-whole}
use Rattle.changes_resume.specs.KeptJson.{is_last_line, kept_lines_back, kept_lines, kept_len}
use Rattle.changes_resume.specs.LineKeepers.{EndsLine}
use Rattle.changes_resume.specs.TransactionLines.{AreOpening, IsTransaction, AreTransactions, lines_of, text_of}
use Rattle.changes_resume.proofs.KeptLineLemmas.{onto-snoc}

-- ---- lists of lines

abbrev AreLines : List (List ℕ) → Type 0
AreLines [] = Unit {0}
AreLines (l ∷ ls) = EndsLine l × AreLines ls

are_lines-append : (a b : List (List ℕ)) → AreLines a → AreLines b → AreLines (a ++ b)
are_lines-append [] b p q = q
are_lines-append (x ∷ a) b p q = (p.0, are_lines-append a b p.1 q)

are_lines_front : (a b : List (List ℕ)) → AreLines (a ++ b) → AreLines a
are_lines_front [] b p = tt
are_lines_front (x ∷ a) b p = (p.0, are_lines_front a b p.1)

opening_lines : (ls : List (List ℕ)) → AreOpening ls → AreLines ls
opening_lines [] o = tt
opening_lines (l ∷ ls) o = (o.0.0, opening_lines ls o.1)

transaction_lines : (t : List (List ℕ)) → IsTransaction t → AreLines t
transaction_lines t i = subst AreLines (sym i.is) (are_lines-append i.opening (i.last ∷ []) (opening_lines i.opening i.are_opening) (i.last_is_line, tt))

transactions_lines : (ts : List (List (List ℕ))) → AreTransactions ts → AreLines (lines_of ts)
transactions_lines [] a = tt
transactions_lines (t ∷ ts) a = are_lines-append t (lines_of ts) (transaction_lines t a.0) (transactions_lines ts a.1)

concat-append : (a b : List (List ℕ)) → concat (a ++ b) ≡ concat a ++ concat b
concat-append [] b = refl
concat-append (x ∷ a) b = ap (λ l. x ++ l) (concat-append a b) ∙ sym (append_assoc x (concat a) (concat b))

-- the lines of lines
one_line : (l b : List ℕ) → EndsLine l → lines (l ++ b) ≡ l ∷ lines b
unfolding lines
one_line l b e =
    let one : lines l ≡ l ∷ [] = ap lines e.is ∙ lines-append [] e.body (inl refl) e.no_feed ∙ ap (λ x. x ∷ []) (sym e.is) in
    lines-whole l b (inr (e.body, e.is)) ∙ ap (λ x. x ++ lines b) one

lines_again : (ls : List (List ℕ)) (rest : List ℕ) → AreLines ls → NoFeed rest → lines (concat ls ++ rest) ≡ ls
unfolding lines
lines_again [] rest a n = lines-rest [] rest n
lines_again (l ∷ ls) rest a n = ap lines (append_assoc l (concat ls) rest) ∙ one_line l (concat ls ++ rest) a.0 ∙ ap (λ x. l ∷ x) (lines_again ls rest a.1 n)

-- a prefix of lines: some of them, and a part of the next
record Cut (ls : List (List ℕ)) (n : ℕ) : Type 0 where
  count : ℕ
  rest : List ℕ
  is : take n (concat ls) ≡ concat (take count ls) ++ rest
  no_feed : NoFeed rest
  few : n < length (concat ls) → count < length ls

no_feed-take : (n : ℕ) (l : List ℕ) → NoFeed l → NoFeed (take n l)
no_feed-take zero l h = tt
no_feed-take (suc n) [] h = tt
no_feed-take (suc n) (c ∷ l) h = (h.0, no_feed-take n l h.1)

within_one : (n : ℕ) (l b : List ℕ) → EndsLine l → n < length l → NoFeed (take n (l ++ b))
within_one n l b e lt =
    let fits : n ≤ length e.body = omega (arith, ap length e.is, length-append e.body (10 ∷ []), lt) in
    subst NoFeed (sym (take-append-le n l b (omega (arith, lt)) ∙ ap (take n) e.is ∙ take-append-le n e.body (10 ∷ []) fits)) (no_feed-take n e.body e.no_feed)

take_past : (n : ℕ) (l b : List ℕ) → take (length l + n) (l ++ b) ≡ l ++ take n b
take_past n [] b = ap (λ k. take k b) (omega arith)
take_past n (x ∷ l) b = let e : length (x ∷ l) + n ≡ suc (length l + n) = omega arith in ap (λ k. take k (x ∷ (l ++ b))) e ∙ ap (λ k. x ∷ k) (take_past n l b)

take_nothing : (n : ℕ) → take {A = ℕ} n [] ≡ []
take_nothing zero = refl
take_nothing (suc n) = refl

cut : (ls : List (List ℕ)) (n : ℕ) → AreLines ls → Cut ls n
cut [] n a = record { count = 0; rest = []; is = take_nothing n; no_feed = tt; few = λ h. absurd (omega arith) }
cut (l ∷ ls) n a = elim (cases_lt n (length l)) [
  | inl lt ↦ record { count = 0; rest = take n (l ++ concat ls); is = refl; no_feed = within_one n l (concat ls) a.0 lt; few = λ h. omega arith }
  | inr ge ↦
      let c = cut ls (n - length l) a.1 in
      let sum : n ≡ length l + (n - length l) = omega (arith, ge) in
      record {
        count = suc c.count;
        rest = c.rest;
        is = ap (λ k. take k (l ++ concat ls)) sum ∙ take_past (n - length l) l (concat ls) ∙ ap (λ x. l ++ x) c.is ∙ sym (append_assoc l (concat (take c.count ls)) c.rest);
        no_feed = c.no_feed;
        few = λ h. let f = c.few (omega (arith, h, length-append l (concat ls), ge)) in omega (arith, f);
      }
]

-- ---- what is kept

onto-append : (past a b : List (List ℕ)) → onto past (a ++ b) ≡ onto (onto past a) b
onto-append past [] b = refl
onto-append past (x ∷ a) b = onto-append (x ∷ past) a b

-- lines of an open transaction aren't kept
kept_opening : (past ls : List (List ℕ)) → AreOpening ls → kept_lines_back (onto past ls) ≡ kept_lines_back past
unfolding kept_lines_back
kept_opening past [] o = refl
kept_opening past (l ∷ ls) o = kept_opening (l ∷ past) ls o.1 ∙ ap (λ b. if b then l ∷ past else kept_lines_back past) o.0.1

-- those of transactions are
kept_transaction : (past t : List (List ℕ)) → IsTransaction t → kept_lines_back (onto past t) ≡ onto past t
unfolding kept_lines_back
kept_transaction past t i =
    let e : onto past t ≡ i.last ∷ onto past i.opening = ap (onto past) i.is ∙ onto-snoc past i.opening i.last in
    ap kept_lines_back e ∙ ap (λ b. if b then i.last ∷ onto past i.opening else kept_lines_back (onto past i.opening)) i.last_ends ∙ sym e

kept_transactions : (past : List (List ℕ)) (ts : List (List (List ℕ))) → kept_lines_back past ≡ past → AreTransactions ts → kept_lines_back (onto past (lines_of ts)) ≡ onto past (lines_of ts)
kept_transactions past [] k a = k
kept_transactions past (t ∷ ts) k a =
    ap kept_lines_back (onto-append past t (lines_of ts)) ∙ kept_transactions (onto past t) ts (kept_transaction past t a.0) a.1 ∙ sym (onto-append past t (lines_of ts))

opening-take : (n : ℕ) (ls : List (List ℕ)) → AreOpening ls → AreOpening (take n ls)
opening-take zero ls o = tt
opening-take (suc n) [] o = tt
opening-take (suc n) (l ∷ ls) o = (o.0, opening-take n ls o.1)

few_opening : (t : List (List ℕ)) (n : ℕ) → IsTransaction t → n < length t → AreOpening (take n t)
few_opening t n i h =
    subst AreOpening (sym (ap (take n) i.is ∙ take-append-le n i.opening (i.last ∷ []) (omega (arith, h, ap length i.is, length-append i.opening (i.last ∷ []))))) (opening-take n i.opening i.are_opening)

-- of transactions and a part of another, the transactions are kept
pub truncated_kept : (ts : List (List (List ℕ))) (t : List (List ℕ)) (n : ℕ) → AreTransactions ts → IsTransaction t → n < length (concat t) → kept_lines (text_of ts ++ take n (concat t)) ≡ onto [] (lines_of ts)
unfolding kept_lines kept_lines_back
truncated_kept ts t n a i h =
    let c = cut t n (transaction_lines t i) in
    let o = few_opening t c.count i (c.few h) in
    let ls = lines_of ts ++ take c.count t in
    let is : text_of ts ++ take n (concat t) ≡ concat ls ++ c.rest =
    ap (λ x. text_of ts ++ x) c.is ∙ sym (append_assoc (text_of ts) (concat (take c.count t)) c.rest) ∙ ap (λ x. x ++ c.rest) (sym (concat-append (lines_of ts) (take c.count t))) in
    ap (λ x. kept_lines_back (onto [] (lines x))) is
    ∙ ap (λ x. kept_lines_back (onto [] x)) (lines_again ls c.rest (are_lines-append (lines_of ts) (take c.count t) (transactions_lines ts a) (opening_lines (take c.count t) o)) c.no_feed)
    ∙ ap kept_lines_back (onto-append [] (lines_of ts) (take c.count t)) ∙ kept_opening (onto [] (lines_of ts)) (take c.count t) o ∙ kept_transactions [] ts refl a

total-onto : (past l : List (List ℕ)) → total (onto past l) ≡ total past + length (concat l)
total-onto past [] = omega arith
total-onto past (x ∷ l) = omega (arith, total-onto (x ∷ past) l, length-append x (concat l))

pub truncated_len : (ts : List (List (List ℕ))) (t : List (List ℕ)) (n : ℕ) → AreTransactions ts → IsTransaction t → n < length (concat t) → kept_len (text_of ts ++ take n (concat t)) ≡ length (text_of ts)
truncated_len ts t n a i h = ap total (truncated_kept ts t n a i h) ∙ total-onto [] (lines_of ts) ∙ omega arith

-- ---- what was kept is kept again

record Whole (text : List ℕ) : Type 0 where
  rest : List ℕ
  is : text ≡ concat (lines text) ++ rest
  no_feed : NoFeed rest
  are : AreLines (lines text)

whole : (text : List ℕ) → Whole text
unfolding lines
whole [] = record { rest = []; is = refl; no_feed = tt; are = tt }
whole (c ∷ text) = by_feed (c == 10) refl (whole text) where
  prepended : (ls : List (List ℕ)) (rest : List ℕ) → (c == 10) ≡ false → text ≡ concat ls ++ rest → NoFeed rest → AreLines ls → lines (c ∷ text) ≡ prepend_byte c ls → Whole (c ∷ text)
  prepended [] rest e is n a same = record { rest = c ∷ rest; is = ap (λ x. c ∷ x) is ∙ ap (λ x. concat x ++ (c ∷ rest)) (sym same); no_feed = (e, n); are = subst AreLines (sym same) tt }
  prepended (l ∷ ls) rest e is n a same = record {
    rest = rest;
    is = ap (λ x. c ∷ x) is ∙ ap (λ x. concat x ++ rest) (sym same);
    no_feed = n;
    are = subst AreLines (sym same) (record { body = c ∷ a.0.body; is = ap (λ x. c ∷ x) a.0.is; no_feed = (e, a.0.no_feed) }, a.1);
  }

  by_feed : (b : Bool) → (c == 10) ≡ b → Whole text → Whole (c ∷ text)
  by_feed false e w = prepended (lines text) w.rest e w.is w.no_feed w.are (rw (lines, e) refl)
  by_feed true e w =
      let ten : c ≡ 10 = eqb-true c 10 e in
      let same : lines (c ∷ text) ≡ (10 ∷ []) ∷ lines text = rw (lines, e) refl in
      record {
        rest = w.rest;
        is = ap₂ (λ x y. x ∷ y) ten w.is ∙ ap (λ x. concat x ++ w.rest) (sym same);
        no_feed = w.no_feed;
        are = subst AreLines (sym same) (record { body = []; is = refl; no_feed = tt }, w.are);
      }

record Suffix (past : List (List ℕ)) : Type 0 where
  dropped : List (List ℕ)
  is : past ≡ dropped ++ kept_lines_back past
  again : kept_lines_back (kept_lines_back past) ≡ kept_lines_back past

suffix : (past : List (List ℕ)) → Suffix past
unfolding kept_lines_back
suffix [] = record { dropped = []; is = refl; again = refl }
suffix (l ∷ past) = by_end (is_last_line l) refl (suffix past) where
  by_end : (b : Bool) → is_last_line l ≡ b → Suffix past → Suffix (l ∷ past)
  by_end true e s = let k : kept_lines_back (l ∷ past) ≡ l ∷ past = rw (kept_lines_back, e) refl in record { dropped = []; is = sym k; again = ap kept_lines_back k }
  by_end false e s =
      let k : kept_lines_back (l ∷ past) ≡ kept_lines_back past = rw (kept_lines_back, e) refl in
      record { dropped = l ∷ s.dropped; is = ap (λ x. l ∷ x) s.is ∙ ap (λ x. l ∷ (s.dropped ++ x)) (sym k); again = ap kept_lines_back k ∙ s.again ∙ sym k }

onto_split : (past l : List (List ℕ)) → onto past l ≡ onto [] l ++ past
onto_split past [] = refl
onto_split past (x ∷ l) = onto_split (x ∷ past) l ∙ sym (append_assoc (onto [] l) (x ∷ []) past) ∙ ap (λ y. y ++ past) (sym (onto_split (x ∷ []) l))

onto_twice : (past l : List (List ℕ)) → onto past (onto [] l) ≡ l ++ past
onto_twice past [] = refl
onto_twice past (x ∷ l) = ap (onto past) (onto_split (x ∷ []) l) ∙ onto-snoc past (onto [] l) x ∙ ap (λ y. x ∷ y) (onto_twice past l)

-- what was kept, as the first lines of the text
record Front (text : List ℕ) : Type 0 where
  after : List ℕ
  is : text ≡ concat (onto [] (kept_lines text)) ++ after
  are : AreLines (onto [] (kept_lines text))
  again : kept_lines_back (kept_lines text) ≡ kept_lines text

front : (text : List ℕ) → Front text
unfolding kept_lines
front text =
    let w = whole text in
    let s = suffix (onto [] (lines text)) in
    let k = kept_lines_back (onto [] (lines text)) in
    let ls : lines text ≡ onto [] k ++ onto [] s.dropped =
    sym (append-nil (lines text)) ∙ sym (onto_twice [] (lines text)) ∙ ap (onto []) s.is ∙ onto-append [] s.dropped k ∙ onto_split (onto [] s.dropped) k in
    record {
      after = concat (onto [] s.dropped) ++ w.rest;
      is = w.is ∙ ap (λ x. concat x ++ w.rest) ls ∙ ap (λ x. x ++ w.rest) (concat-append (onto [] k) (onto [] s.dropped)) ∙ append_assoc (concat (onto [] k)) (concat (onto [] s.dropped)) w.rest;
      are = are_lines_front (onto [] k) (onto [] s.dropped) (subst AreLines ls w.are);
      again = s.again;
    }

kept_len_is : (k : List (List ℕ)) → total k ≡ length (concat (onto [] k))
kept_len_is k = ap total (sym (append-nil k) ∙ sym (onto_twice [] k)) ∙ total-onto [] (onto [] k) ∙ omega arith

pub kept_prefix : (text : List ℕ) → kept_len text ≤ length text
kept_prefix text = let f = front text in omega (arith, ap length f.is, length-append (concat (onto [] (kept_lines text))) f.after, kept_len_is (kept_lines text))

pub kept_again : (text : List ℕ) → kept_lines (take (kept_len text) text) ≡ kept_lines text
unfolding kept_lines
kept_again text =
    let f = front text in
    let k = kept_lines text in
    let is : take (kept_len text) text ≡ concat (onto [] k) = ap (take (kept_len text)) f.is ∙ take_at (concat (onto [] k)) f.after (kept_len text) (sym (kept_len_is k)) in
    ap (λ x. kept_lines_back (onto [] (lines x))) (is ∙ sym (append-nil (concat (onto [] k))))
    ∙ ap (λ x. kept_lines_back (onto [] x)) (lines_again (onto [] k) [] f.are tt) ∙ ap kept_lines_back (onto_twice [] k ∙ append-nil k) ∙ f.again
