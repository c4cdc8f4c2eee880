-- Texts in one buffer, one after the other.
use Rattle.std.proofs.Common.{◌≡◌, ◌<◌, ◌+◌, ◌-◌, ℕ, zero, suc, List, [], ◌∷◌, ◌++◌, length, take, get_or, refl, sym, ap, ◌∙◌, append_assoc, arith}
use Rattle.std.proofs.lemmas.List.{append-nil, length-append}
use Rattle.std.proofs.lemmas.Grind.{flat_map-append}
use Rattle.feed_checks.specs.LogFormat.{joined}
use Rattle.feed_text.specs.Buffers.{text_in}
use Rattle.changes_statements.specs.StatementTexts.{ends_from, HasOpen}
use Rattle.changes_statements.specs.declared.text_list.TextList.{TextList}

joined_one : (ts : List (List ℕ)) (t : List ℕ) → joined (ts ++ t ∷ []) ≡ joined ts ++ t
joined_one ts t = flat_map-append (λ x. x) ts (t ∷ []) ∙ ap (λ (l : List ℕ). joined ts ++ l) (append-nil t)

ends_one : (n : ℕ) (ts : List (List ℕ)) (t : List ℕ) → ends_from n (ts ++ t ∷ []) ≡ ends_from n ts ++ (n + length (joined ts ++ t)) ∷ []
ends_one n [] t = refl
ends_one n (x ∷ ts) t =
    ap (λ (l : List ℕ). (n + length x) ∷ l) (ends_one (n + length x) ts t
    ∙ ap (λ (k : ℕ). ends_from (n + length x) ts ++ k ∷ []) (let one = length-append (joined ts) t in let two = length-append x (joined ts) in let three = length-append (x ++ joined ts) t in omega (arith, one, two, three)))

-- the open text was ended
pub closed : (old new : TextList) (texts : List (List ℕ)) (last : List ℕ) → text_in new.buffer ≡ text_in old.buffer → new.ends.items ≡ old.ends.items ++ length (text_in old.buffer) ∷ [] → HasOpen old texts last → HasOpen new (texts ++ last ∷ []) []
closed old new texts last same pushed h = record {
  bytes = same ∙ h.bytes ∙ sym (joined_one texts last) ∙ sym (append-nil (joined (texts ++ last ∷ [])));
  ends = pushed ∙ ap (λ (l : List ℕ). l ++ length (text_in old.buffer) ∷ []) h.ends ∙ ap (λ (b : List ℕ). ends_from 0 texts ++ length b ∷ []) h.bytes ∙ ap (λ (k : ℕ). ends_from 0 texts ++ k ∷ []) (let e : length (joined texts ++ last) ≡ 0 + length (joined texts ++ last) = omega arith in e) ∙ sym (ends_one 0 texts last);
}

pub ends_long : (n : ℕ) (ts : List (List ℕ)) → length (ends_from n ts) ≡ length ts
ends_long n [] = refl
ends_long n (t ∷ ts) = ap (λ (k : ℕ). suc k) (ends_long (n + length t) ts)

-- the end of the last text
pub last_end : (n k : ℕ) (ts : List (List ℕ)) (d : ℕ) → length ts ≡ suc k → get_or (ends_from n ts) k d ≡ n + length (joined ts)
last_end n k [] d h = absurd (omega (arith, h))
last_end n zero (t ∷ []) d h = ap (λ (l : List ℕ). n + length l) (sym (append-nil t))
last_end n zero (t ∷ u ∷ ts) d h = absurd (omega (arith, h))
last_end n (suc k) (t ∷ []) d h = absurd (omega (arith, h))
last_end n (suc k) (t ∷ u ∷ ts) d h =
    last_end (n + length t) k (u ∷ ts) d (omega (arith, h)) ∙ (let long = length-append t (joined (u ∷ ts)) in omega (arith, long))

pub open_start : (list : TextList) (texts : List (List ℕ)) (last : List ℕ) (count start : ℕ) → HasOpen list texts last → count ≡ length list.ends.items → 0 < count → start ≡ get_or list.ends.items (count - 1) start → start ≡ length (joined texts)
open_start list texts last count start h many some is =
    let long : length texts ≡ suc (count - 1) = let e = ap length h.ends in let f = ends_long 0 texts in omega (arith, many, some, e, f) in
    is ∙ ap (λ (l : List ℕ). get_or l (count - 1) start) h.ends ∙ last_end 0 (count - 1) texts start long ∙ (let e : 0 + length (joined texts) ≡ length (joined texts) = omega arith in e)

pub no_start : (list : TextList) (texts : List (List ℕ)) (last : List ℕ) (count : ℕ) → HasOpen list texts last → count ≡ length list.ends.items → count ≡ 0 → 0 ≡ length (joined texts)
no_start list [] last count h many none = refl
no_start list (t ∷ texts) last count h many none = absurd (let e = ap length h.ends in let f = ends_long 0 (t ∷ texts) in omega (arith, many, none, e, f))

take_all : (a b : List ℕ) → take (length a) (a ++ b) ≡ a
take_all [] b = refl
take_all (x ∷ a) b = ap (λ (l : List ℕ). x ∷ l) (take_all a b)

-- the open text was dropped
pub dropped : (old new : TextList) (texts : List (List ℕ)) (last : List ℕ) (start : ℕ) → start ≡ length (joined texts) → text_in new.buffer ≡ take start (text_in old.buffer) → new.ends.items ≡ old.ends.items → HasOpen old texts last → HasOpen new texts []
dropped old new texts last start is cut same h = record {
  bytes = cut ∙ ap (λ (k : ℕ). take k (text_in old.buffer)) is ∙ ap (take (length (joined texts))) h.bytes ∙ take_all (joined texts) last ∙ sym (append-nil (joined texts));
  ends = same ∙ h.ends;
}
