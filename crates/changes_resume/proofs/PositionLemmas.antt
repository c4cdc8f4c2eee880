-- A number and the comma after it.
use Rattle.std.proofs.Common.{◌≡◌, ◌≢◌, ℕ, ◌+◌, ◌<◌, ◌^◌, List, [], ◌∷◌, ◌++◌, Option, Some, None, length, take, drop, get_or, refl, sym, ap, ◌∙◌, arith, length-append, zero, suc, inl, inr}
use Rattle.std.proofs.lemmas.Bool.{cases_lt}
use Rattle.std.specs.Prelude.{codes, IfSome, IfNone}
use Rattle.std.specs.Fmt.{decimal}
use Rattle.std.specs.Str.Parse.{digits_value}
use Rattle.std.proofs.lemmas.Bool.{eqb-true, eq-eqb}
use Rattle.std.proofs.lemmas.Fmt.{decimal_is_IsNumeral}
use Rattle.std.proofs.lemmas.List.{take_at, take-append-drop, append_cancel_left, drop_more}
use Rattle.std.proofs.lemmas.Str.Parse.{digit_at}
use Rattle.memchr.specs.Find.{Nowhere, NoneBefore, Passes, is_byte}
use Rattle.changes_resume.specs.ResumePoints.{BeginsWithPosition}

-- digits, and the first comma after them
record EndsAtComma (rest digits : List ℕ) : Type 0 where
  within : length digits < length rest
  comma : get_or rest (length digits) 0 ≡ 44
  none : (k : ℕ) → k < length digits → get_or rest k 0 ≢ 44

at_start : (a b : List ℕ) (k : ℕ) → k < length a → get_or (a ++ b) k 0 ≡ get_or a k 0
at_start [] b k h = absurd (omega arith)
at_start (x ∷ a) b zero h = refl
at_start (x ∷ a) b (suc k) h = at_start a b k (omega arith)

at_end : (a b : List ℕ) (c : ℕ) → get_or (a ++ c ∷ b) (length a) 0 ≡ c
at_end [] b c = refl
at_end (x ∷ a) b c = at_end a b c

ends_at_comma : (rest after : List ℕ) (n : ℕ) → n < 2 ^ 32 → rest ≡ decimal n ++ 44 ∷ after → EndsAtComma rest (decimal n)
ends_at_comma rest after n small e =
    let numeral = (decimal_is_IsNumeral n (omega (arith, small))).0 in
    record {
      within = omega (arith, ap length e, length-append (decimal n) (44 ∷ after));
      comma = ap (λ (l : List ℕ). get_or l (length (decimal n)) 0) e ∙ at_end (decimal n) after 44;
      none = λ k h is. let d = digit_at (decimal n) k numeral.1 h in let same = ap (λ (l : List ℕ). get_or l k 0) e ∙ at_start (decimal n) (44 ∷ after) k h in omega (arith, d.0, d.1, same, is);
    }

-- there is a comma after a number
pub no_comma : (rest after : List ℕ) (n : ℕ) → n < 2 ^ 32 → Nowhere (Passes (is_byte 44) rest) 0 (length rest) → rest ≢ decimal n ++ 44 ∷ after
no_comma rest after n small none e =
    let c = ends_at_comma rest after n small e in
    none (length (decimal n)) (omega arith) c.within (eq-eqb (get_or rest (length (decimal n)) 0) 44 c.comma)

-- the first comma is the one after the number
number_before : (rest after : List ℕ) (n end : ℕ) → n < 2 ^ 32 → NoneBefore (Passes (is_byte 44) rest) 0 (length rest) end → Passes (is_byte 44) rest end → rest ≡ decimal n ++ 44 ∷ after → take end rest ≡ decimal n
number_before rest after n end small first here e =
    let c = ends_at_comma rest after n small e in
    let comma = eqb-true (get_or rest end 0) 44 here in
    let same : length (decimal n) ≡ end = elim (cases_lt end (length (decimal n))) [
      | inl l ↦ absurd (c.none end l comma)
      | inr g ↦ elim (cases_lt (length (decimal n)) end) [
        | inl l ↦ absurd (first.before (length (decimal n)) (omega arith) l (eq-eqb (get_or rest (length (decimal n)) 0) 44 c.comma))
        | inr h ↦ omega (arith, g, h)
      ]
    ] in
    ap (take end) e ∙ take_at (decimal n) (44 ∷ after) end same

from_comma : (rest : List ℕ) (end : ℕ) → end < length rest → get_or rest end 0 ≡ 44 → drop end rest ≡ 44 ∷ drop (end + 1) rest
from_comma rest end h e = drop_more rest end 0 h ∙ ap (λ c. c ∷ drop (end + 1) rest) e

-- what was read before the first comma is the number
pub position_read : (text rest digits : List ℕ) (end : ℕ) (o : Option ℕ) → text ≡ codes ",\"position\":" ++ rest → digits ≡ take end rest
    → NoneBefore (Passes (is_byte 44) rest) 0 (length rest) end → Passes (is_byte 44) rest end → IfSome o (λ n. (n < 2 ^ 32) × (digits ≡ decimal n)) → IfSome o (BeginsWithPosition text)
position_read text rest digits end None e d first here some = tt
position_read text rest digits end (Some n) e d first here some = record {
  after = drop (end + 1) rest;
  split = e ∙ ap (λ l. codes ",\"position\":" ++ l)
      (sym (take-append-drop end rest) ∙ ap (λ l. l ++ drop end rest) (sym d ∙ some.1) ∙ ap (λ l. decimal n ++ l) (from_comma rest end first.high (eqb-true (get_or rest end 0) 44 here)));
  fits = some.0;
}

pub no_position_read : (text rest digits : List ℕ) (end : ℕ) (o : Option ℕ) → text ≡ codes ",\"position\":" ++ rest → digits ≡ take end rest
    → NoneBefore (Passes (is_byte 44) rest) 0 (length rest) end → Passes (is_byte 44) rest end → IfNone o ((n : ℕ) → n < 2 ^ 32 → digits ≡ decimal n → ⊥) → IfNone o ((n : ℕ) → ¬ (BeginsWithPosition text n))
no_position_read text rest digits end (Some n) e d first here none = tt
no_position_read text rest digits end None e d first here none = λ n b.
    none n b.fits (d ∙ number_before rest b.after n end b.fits first here (append_cancel_left (codes ",\"position\":") rest (decimal n ++ 44 ∷ b.after) (sym e ∙ b.split)))

-- a text begins with one number at most
same_decimal : (rest x y : List ℕ) (p q : ℕ) → p < 2 ^ 32 → q < 2 ^ 32 → rest ≡ decimal p ++ 44 ∷ x → rest ≡ decimal q ++ 44 ∷ y → decimal p ≡ decimal q
same_decimal rest x y p q small fits e f =
    let c = ends_at_comma rest x p small e in
    let d = ends_at_comma rest y q fits f in
    let same : length (decimal p) ≡ length (decimal q) = elim (cases_lt (length (decimal p)) (length (decimal q))) [
      | inl l ↦ absurd (d.none (length (decimal p)) l c.comma)
      | inr g ↦ elim (cases_lt (length (decimal q)) (length (decimal p))) [
        | inl l ↦ absurd (c.none (length (decimal q)) l d.comma)
        | inr h ↦ omega (arith, g, h)
      ]
    ] in
    sym (take_at (decimal p) (44 ∷ x) (length (decimal q)) same) ∙ ap (take (length (decimal q))) (sym e ∙ f) ∙ take_at (decimal q) (44 ∷ y) (length (decimal q)) refl

pub one_position : (text : List ℕ) (p q : ℕ) → BeginsWithPosition text p → BeginsWithPosition text q → p ≡ q
one_position text p q b d =
    let rest = decimal p ++ 44 ∷ b.after in
    let other : rest ≡ decimal q ++ 44 ∷ d.after = append_cancel_left (codes ",\"position\":") rest (decimal q ++ 44 ∷ d.after) (sym b.split ∙ d.split) in
    let same = same_decimal rest b.after d.after p q b.fits d.fits refl other in
    let small = b.fits in
    let fits = d.fits in
    sym (decimal_is_IsNumeral p (omega (arith, small))).1 ∙ ap (digits_value 10) same ∙ (decimal_is_IsNumeral q (omega (arith, fits))).1
