-- Texts in one buffer, one after the other.
use Rattle.std.proofs.Common.{◌≡◌, ◌+◌, ℕ, suc, List, [], ◌∷◌, ◌++◌, length, refl, sym, ap, ◌∙◌, append_assoc, arith}
use Rattle.std.proofs.lemmas.List.{append-nil, length-append}
use Rattle.std.proofs.lemmas.Grind.{flat_map-append}
use Rattle.feed_text.specs.Buffers.{text_in}
use Rattle.std.specs.Borrow.{Bor}
use Rattle.changes_lines.specs.TextLists.{joined, ends_from, AreLeft, HasTexts}
use Rattle.changes_lines.specs.declared.text_list.Texts.{Texts}
use Rattle.changes_lines.specs.declared.text_list.TextList.{TextList}

pub joined_one : (ts : List (List ℕ)) (t : List ℕ) → joined (ts ++ t ∷ []) ≡ joined ts ++ t
joined_one ts t = flat_map-append (λ x. x) ts (t ∷ []) ∙ ap (λ (l : List ℕ). joined ts ++ l) (append-nil t)

pub ends_one : (n : ℕ) (ts : List (List ℕ)) (t : List ℕ) → ends_from n (ts ++ t ∷ []) ≡ ends_from n ts ++ (n + length (joined ts ++ t)) ∷ []
ends_one n [] t = refl
ends_one n (x ∷ ts) t =
    ap (λ (l : List ℕ). (n + length x) ∷ l) (ends_one (n + length x) ts t
    ∙ ap (λ (k : ℕ). ends_from (n + length x) ts ++ k ∷ []) (let one = length-append (joined ts) t in let two = length-append x (joined ts) in let three = length-append (x ++ joined ts) t in omega (arith, one, two, three)))

-- the open text was ended
pub closed : (old new : TextList) (texts : List (List ℕ)) (last : List ℕ) → text_in new.buffer ≡ text_in old.buffer → new.ends.items ≡ old.ends.items ++ length (text_in old.buffer) ∷ [] → HasTexts old texts last → HasTexts new (texts ++ last ∷ []) []
closed old new texts last same pushed h = record {
  bytes = same ∙ h.bytes ∙ sym (joined_one texts last) ∙ sym (append-nil (joined (texts ++ last ∷ [])));
  ends = pushed ∙ ap (λ (l : List ℕ). l ++ length (text_in old.buffer) ∷ []) h.ends ∙ ap (λ (b : List ℕ). ends_from 0 texts ++ length b ∷ []) h.bytes ∙ ap (λ (k : ℕ). ends_from 0 texts ++ k ∷ []) (let e : length (joined texts ++ last) ≡ 0 + length (joined texts ++ last) = omega arith in e) ∙ sym (ends_one 0 texts last);
}

pub ends_long : (n : ℕ) (ts : List (List ℕ)) → length (ends_from n ts) ≡ length ts
ends_long n [] = refl
ends_long n (t ∷ ts) = ap (λ (k : ℕ). suc k) (ends_long (n + length t) ts)

-- more of the open text was appended
pub more_open : (old new : TextList) (texts : List (List ℕ)) (last more : List ℕ) → text_in new.buffer ≡ text_in old.buffer ++ more → new.ends ≡ old.ends → HasTexts old texts last → HasTexts new texts (last ++ more)
more_open old new texts last more appended same h = record {
  bytes = appended ∙ ap (λ (l : List ℕ). l ++ more) h.bytes ∙ append_assoc (joined texts) last more;
  ends = ap (λ v. v.items) same ∙ h.ends;
}

tail_of : (a b : ℕ) (x y : List ℕ) → a ∷ x ≡ b ∷ y → x ≡ y
tail_of a b x y same = cc

-- the first two of the texts that are left as one, if the first end is dropped
pub two_left : (left : Texts) (end : ℕ) (ends : Bor (List ℕ)) (first second : List ℕ) (more : List (List ℕ)) → AreLeft left (first ∷ second ∷ more) → left.ends.now ≡ end ∷ ends.now → AreLeft (record left { ends = ends }) ((first ++ second) ∷ more)
two_left left end ends first second more are split =
    let from = left.start + length first + length second in
    let long : left.start + length (first ++ second) ≡ from = (let both = length-append first second in omega (arith, both)) in
    let same : end ∷ ends.now ≡ (left.start + length first) ∷ from ∷ ends_from from more = sym split ∙ are.ends in
    record {
      bytes = are.bytes ∙ sym (append_assoc first second (joined more));
      ends = tail_of _ _ _ _ same ∙ ap (λ (n : ℕ). n ∷ ends_from n more) (sym long);
    }
