-- Lists of bytes as parts of records: numbers that are read where they were written, and elements end to end.
use Rattle.std.proofs.Common.{◌≡◌, ◌<◌, ◌≤◌, ◌+◌, ◌^◌, ℕ, Bool, true, false, List, [], ◌∷◌, ◌++◌, length, take, drop, Result, Ok, Err, OnOk, refl, sym, ap, subst, ◌∙◌, append_assoc, arith}
use Rattle.std.specs.List.{AllByRecursion, AllZip, filter, sum_by}
use Rattle.std.proofs.lemmas.List.{append-nil, length-append}
use Rattle.std.proofs.lemmas.List.Elements.{filter-append}
use Rattle.std.proofs.lemmas.Grind.{flat_map-append}
use Rattle.std.proofs.Math.Seq.{take-append_seam, take-append-add, drop-append_seam, drop-append-add}
use Rattle.byteorder.specs.Endian.{little_bytes, little_number}
use Rattle.byteorder.specs.Numbers.{little_number-reads_back}
use Rattle.feed_checks.specs.EventFields.{number_at}
use Rattle.feed_checks.specs.LogFormat.{joined}
use Rattle.feed_transactions.specs.Changes.{EventChange}
use Rattle.library_log.specs.RecordLayouts.{text_bytes, text_at, text_end, IsElement, is_change, HasChange, AreElements, AppendsElements}

-- ---- results

pub ok_then : {A E P Q : Type 0} (r : Result A E) → (P → Q) → OnOk r P → OnOk r Q
ok_then (Ok x) f h = f h
ok_then (Err e) f h = tt

-- ---- numbers and texts

pub half_read : (v : ℕ) (rest : List ℕ) → v < 2 ^ 32 → little_number 4 (little_bytes 4 v ++ rest) ≡ v
half_read v rest h = little_number-reads_back 4 v rest (omega arith)

pub word_read : (v : ℕ) (rest : List ℕ) → v < 2 ^ 64 → little_number 8 (little_bytes 8 v ++ rest) ≡ v
word_read v rest h = little_number-reads_back 8 v rest (omega arith)

pub text_len : (text : List ℕ) → length (text_bytes text) ≡ 8 + length text
text_len text = length-append (little_bytes 8 (length text)) text

text_number : (before text after : List ℕ) → length text < 2 ^ 64 → number_at (length before) 8 (before ++ (text_bytes text ++ after)) ≡ length text
text_number before text after small = ap (little_number 8) (drop-append_seam before (text_bytes text ++ after)) ∙ word_read (length text) (text ++ after) small

pub text_found : (before text after : List ℕ) → length text < 2 ^ 64 → text_at (length before) (before ++ (text_bytes text ++ after)) ≡ text
text_found before text after small =
    let bytes = before ++ (text_bytes text ++ after) in
    let content : drop (length before + 8) bytes ≡ text ++ after = drop-append-add before (text_bytes text ++ after) 8 in
    ap (λ (n : ℕ). take n (drop (length before + 8) bytes)) (text_number before text after small) ∙ ap (take (length text)) content ∙ take-append_seam text after

pub text_ends : (before text after : List ℕ) → length text < 2 ^ 64 → text_end (length before) (before ++ (text_bytes text ++ after)) ≡ length before + 8 + length text
text_ends before text after small = ap (λ (n : ℕ). length before + 8 + n) (text_number before text after small)

-- ---- bytes that were appended or overwritten

pub appended_both : (a b c x y : List ℕ) → b ≡ a ++ x → c ≡ b ++ y → c ≡ a ++ (x ++ y)
appended_both a b c x y h k = k ∙ ap (λ (l : List ℕ). l ++ y) h ∙ append_assoc a x y

-- eight bytes from an offset on are others
abbrev pub overwritten : ℕ → List ℕ → List ℕ → List ℕ
overwritten at w xs = take at xs ++ (w ++ drop (at + 8) xs)

pub overwritten_after : (old e w : List ℕ) (k : ℕ) → overwritten (length old + k) w (old ++ e) ≡ old ++ overwritten k w e
overwritten_after old e w k =
    let offset : length old + k + 8 ≡ length old + (k + 8) = omega arith in
    let before : take (length old + k) (old ++ e) ≡ old ++ take k e = take-append-add old e k in
    let after : drop (length old + k + 8) (old ++ e) ≡ drop (k + 8) e = ap (λ (n : ℕ). drop n (old ++ e)) offset ∙ drop-append-add old e (k + 8) in
    ap (λ (l : List ℕ). l ++ (w ++ drop (length old + k + 8) (old ++ e))) before ∙ ap (λ (l : List ℕ). (old ++ take k e) ++ (w ++ l)) after ∙ append_assoc old (take k e) (w ++ drop (k + 8) e)

-- ---- elements

pub no_elements : AreElements [] []
no_elements = record { elements = []; joined_are = refl; whole = tt; changes_are = tt }

-- one element that is a change
pub one_change : (c : EventChange) (e : List ℕ) → IsElement e → is_change e ≡ true → HasChange c e → AreElements (c ∷ []) e
one_change c e whole is has = record {
  elements = e ∷ [];
  joined_are = sym (append-nil e);
  whole = (whole, tt);
  changes_are = rw is (has, tt);
}

-- one that isn't
pub one_other : (e : List ℕ) → IsElement e → is_change e ≡ false → AreElements [] e
one_other e whole isnt = record {
  elements = e ∷ [];
  joined_are = sym (append-nil e);
  whole = (whole, tt);
  changes_are = rw isnt tt;
}

both_whole : (xs ys : List (List ℕ)) → AllByRecursion IsElement xs → AllByRecursion IsElement ys → AllByRecursion IsElement (xs ++ ys)
both_whole [] ys h k = k
both_whole (x ∷ xs) ys h k = (h.0, both_whole xs ys h.1 k)

both_zip : (cs ds : List EventChange) (xs ys : List (List ℕ)) → AllZip HasChange cs xs → AllZip HasChange ds ys → AllZip HasChange (cs ++ ds) (xs ++ ys)
both_zip [] ds [] ys h k = k
both_zip (c ∷ cs) ds (x ∷ xs) ys h k = (h.0, both_zip cs ds xs ys h.1 k)
both_zip [] ds (x ∷ xs) ys h k = absurd h
both_zip (c ∷ cs) ds [] ys h k = absurd h

pub both_elements : (cs ds : List EventChange) (xs ys : List ℕ) → AreElements cs xs → AreElements ds ys → AreElements (cs ++ ds) (xs ++ ys)
both_elements cs ds xs ys a b = record {
  elements = a.elements ++ b.elements;
  joined_are = ap (λ (l : List ℕ). l ++ ys) a.joined_are ∙ ap (λ (l : List ℕ). joined a.elements ++ l) b.joined_are ∙ sym (flat_map-append (λ (e : List ℕ). e) a.elements b.elements);
  whole = both_whole a.elements b.elements a.whole b.whole;
  changes_are = subst (AllZip HasChange (cs ++ ds)) (sym (filter-append is_change a.elements b.elements)) (both_zip cs ds (filter is_change a.elements) (filter is_change b.elements) a.changes_are b.changes_are);
}

pub appends_both : (cs ds : List EventChange) (old mid new : List ℕ) → AppendsElements cs old mid → AppendsElements ds mid new → AppendsElements (cs ++ ds) old new
appends_both cs ds old mid new a b = record {
  bytes = a.bytes ++ b.bytes;
  appended = appended_both old mid new a.bytes b.bytes a.appended b.appended;
  are = both_elements cs ds a.bytes b.bytes a.are b.are;
}

pub appends_none : (old : List ℕ) → AppendsElements [] old old
appends_none old = record { bytes = []; appended = sym (append-nil old); are = no_elements }
