-- Commit lines are read, and nothing else is.
use Rattle.std.proofs.Common.{◌≡◌, ℕ, ◌-◌, ◌^◌, ◌<◌, Bool, true, false, List, [], ◌∷◌, ◌++◌, length, take, drop, Option, Some, None, get_or, ◌≤◌, ◌≢◌, zero, suc, Result, Ok, Err, refl, sym, ap, subst, ◌∙◌, arith, length-append}
use Rattle.std.specs.Prelude.{◌&&◌, ◌==◌, nat_lt, codes}
use Rattle.std.specs.Str.{IsUtf8, bytes_eq}
use Rattle.std.specs.Str.Parse.{AllDigits, digits_value}
use Rattle.std.specs.Fmt.{decimal}
use Rattle.std.specs.Result.{OkIff, MatchResult, is_ok, result_ok}
use Rattle.std.specs.Option.{IfSome, IfNone}
use Rattle.std.specs.Str.Parse.{ParsesUnsigned}
use Rattle.std.proofs.lemmas.Bool.{ltb-true}
use Rattle.std.proofs.lemmas.Fmt.{decimal_is_IsNumeral, decimal_digit, decimal-digits_value, first_decimal, parse-decimal, IsAscii-decimal}
use Rattle.std.proofs.lemmas.List.{take_at, append_cancel_left, append_cancel_right}
use Rattle.std.proofs.lemmas.Slice.Eq.{bytes_eq-Decides}
use Rattle.std.proofs.lemmas.Str.{IsUtf8-from_ascii}
use Rattle.std.proofs.lemmas.Str.Parse.{digit_at, numerals_by_value, parse_plain, tells_digits}
use Rattle.feed_resume.specs.Conditions.{when}
use Rattle.feed_resume.specs.CommitLines.{with_line_feed, commit_line}
use Rattle.feed_resume.specs.Kept.{number_in, commit_in}

same_bytes : (l : List ℕ) → bytes_eq l l ≡ true
same_bytes [] = refl
same_bytes (x ∷ l) = let e : (x == x) ≡ true = search (arith) in rw e (same_bytes l)

number-of : (position : ℕ) → position < 2 ^ 32 → number_in (commit_line position) ≡ position
number-of position h =
    let l = length-append (codes "commit " ++ decimal position) (10 ∷ []) in
    let t : take (length (commit_line position) - 1) (commit_line position) ≡ codes "commit " ++ decimal position = take_at (codes "commit " ++ decimal position) (10 ∷ []) (length (commit_line position) - 1) (omega (arith, l)) in
    ap (λ (x : List ℕ). digits_value 10 (drop 7 x)) t ∙ (decimal_is_IsNumeral position (omega (arith, h))).1

-- a commit line is read
pub commit_in-commit_line : (position : ℕ) → position < 2 ^ 32 → commit_in (commit_line position) ≡ Some position
unfolding commit_in
commit_in-commit_line position h =
    let s : nat_lt position (2 ^ 32) ≡ true = search (arith, h) in
    ap (λ (n : ℕ). when (nat_lt n (2 ^ 32) && bytes_eq (commit_line n) (commit_line position)) n) (number-of position h)
    ∙ ap (λ (b : Bool). when (b && bytes_eq (commit_line position) (commit_line position)) position) s ∙ ap (λ (b : Bool). when b position) (same_bytes (commit_line position))

-- a line that is read is a commit line
pub record IsCommitLine (line : List ℕ) (position : ℕ) : Type 0 where
  pub fits : position < 2 ^ 32
  pub is : line ≡ commit_line position

not_nothing : (position : ℕ) → None ≡ Some position → ⊥
not_nothing position e = cc

commit_is : (line : List ℕ) (n position : ℕ) (a b : Bool) → nat_lt n (2 ^ 32) ≡ a → bytes_eq (commit_line n) line ≡ b → when (a && b) n ≡ Some position → IsCommitLine line position
commit_is line n position true true ha hb e =
    let same : n ≡ position = cc in
    record { fits = omega (arith, ltb-true n (2 ^ 32) ha, same); is = sym ((bytes_eq-Decides (commit_line n) line).0 hb) ∙ ap commit_line same }
commit_is line n position true false ha hb e = absurd (not_nothing position e)
commit_is line n position false b ha hb e = absurd (not_nothing position e)

pub commit_in-some : (line : List ℕ) (position : ℕ) → commit_in line ≡ Some position → IsCommitLine line position
unfolding commit_in
commit_in-some line position e = commit_is line (number_in line) position (nat_lt (number_in line) (2 ^ 32)) (bytes_eq (commit_line (number_in line)) line) refl refl e

none_of : (line : List ℕ) (o : Option ℕ) → commit_in line ≡ o → ((n : ℕ) → n < 2 ^ 32 → line ≡ commit_line n → ⊥) → commit_in line ≡ None
none_of line None e h = e
none_of line (Some position) e h = let c = commit_in-some line position e in absurd (h position c.fits c.is)

-- a line that is no commit line isn't read
pub commit_in-none : (line : List ℕ) → ((n : ℕ) → n < 2 ^ 32 → line ≡ commit_line n → ⊥) → commit_in line ≡ None
commit_in-none line h = none_of line (commit_in line) refl h

-- ---- digits

-- digits without leading zeros
pub record IsShort (digits : List ℕ) : Type 0 where
  pub some : 0 < length digits
  pub low : 48 ≤ get_or digits 0 0
  pub high : get_or digits 0 0 ≤ 57
  pub lone : get_or digits 0 0 ≡ 48 → length digits ≡ 1

no_zero : (n : ℕ) → n < 2 ^ 32 → get_or (decimal n) 0 0 ≡ 48 → length (decimal n) ≡ 1
no_zero zero h e = ap length (decimal_digit 0 (omega arith))
no_zero (suc n) h e = absurd (omega (arith, first_decimal (suc n) (omega arith) (omega (arith, h)), e))

pub decimal_short : (digits : List ℕ) (n : ℕ) → n < 2 ^ 32 → digits ≡ decimal n → IsShort digits
decimal_short digits n h e =
    let numeral = (decimal_is_IsNumeral n (omega (arith, h))).0 in
    let range = digit_at (decimal n) 0 numeral.1 numeral.0 in
    subst IsShort (sym e) (record { some = numeral.0; low = omega (arith, range.0); high = omega (arith, range.1); lone = no_zero n h })

-- a parsed number is the one that the digits write
parsed : {E : Type 0} (digits : List ℕ) (r : Result ℕ E) (n : ℕ) → ParsesUnsigned 32 10 digits r → r ≡ Ok n → get_or digits 0 0 ≢ 43 → (get_or digits 0 0 ≡ 48 → length digits ≡ 1) → (n < 2 ^ 32) × (digits ≡ decimal n)
parsed {E} digits r n h e sign lone =
    let own = numerals_by_value (AllDigits 10) tells_digits in
    let p : (AllDigits 10 digits × (0 < length digits) × (digits_value 10 digits < 2 ^ 32)) × (n ≡ digits_value 10 digits) = subst (λ (r : Result ℕ E). OkIff r (AllDigits 10 digits × (0 < length digits) × (digits_value 10 digits < 2 ^ 32)) (digits_value 10 digits)) e (parse_plain own 32 digits r h sign) in
    (omega (arith, p.0.2, p.1), sym (decimal-digits_value own digits p.0.0 p.0.1 lone (omega (arith, p.0.2))) ∙ ap decimal (sym p.1))

pub parse_taken : {E : Type 0} (digits : List ℕ) (r : Result ℕ E) (o : Option ℕ) → ParsesUnsigned 32 10 digits r → o ≡ result_ok r → get_or digits 0 0 ≢ 43 → (get_or digits 0 0 ≡ 48 → length digits ≡ 1) → IfSome o (λ n. (n < 2 ^ 32) × (digits ≡ decimal n))
parse_taken {E} digits (Ok n) o h e sign lone = rw e (parsed {E = E} digits (Ok n) n h refl sign lone)
parse_taken digits (Err x) o h e sign lone = rw e tt

not_err : {E : Type 0} (x : E) (n : ℕ) → Err x ≡ Ok n → ⊥
not_err x n e = cc

-- digits that can't be parsed are no number
pub parse_failed : {E : Type 0} (digits : List ℕ) (r : Result ℕ E) (o : Option ℕ) → ParsesUnsigned 32 10 digits r → o ≡ result_ok r → IfNone o ((n : ℕ) → n < 2 ^ 32 → digits ≡ decimal n → ⊥)
parse_failed digits (Ok n) o h e = rw e tt
parse_failed digits (Err x) o h e = rw e (λ n small is. not_err x n (parse-decimal 32 n digits (Err x) small (omega (arith, small)) is h))

-- digits are valid text
pub failed_is_no_number : {T E : Type 0} (r : Result T E) (digits : List ℕ) (P : T → Type 0) (Q : E → Type 0) (n : ℕ) → MatchResult r P (λ e. (IsUtf8 digits → ⊥) × Q e) → false ≡ is_ok r → n < 2 ^ 32 → digits ≡ decimal n → ⊥
failed_is_no_number (Ok x) digits P Q n h e small is = absurd (let no : false ≡ true = e in cc)
failed_is_no_number (Err x) digits P Q n h e small is = h.0 (subst IsUtf8 (sym is) (IsUtf8-from_ascii (decimal n) (IsAscii-decimal n (omega (arith, small)))))

-- the text of bytes is these bytes
pub text_is : {T E : Type 0} (r : Result T E) (s : T) (text : T → List ℕ) (bytes : List ℕ) (U : Type 0) (Q : E → Type 0) → MatchResult r (λ s. (text s ≡ bytes) × U) Q → Some s ≡ result_ok r → text s ≡ bytes
text_is (Ok x) s text bytes U Q h e = let same : s ≡ x = cc in ap text same ∙ h.0
text_is (Err x) s text bytes U Q h e = absurd (not_some s e)
  where
    not_some : {T : Type 0} (s : T) → Some s ≡ None → ⊥
    not_some s e = cc

-- ---- lines

-- a line that begins with another word
pub no_word : (line : List ℕ) → ((rest : List ℕ) → line ≢ codes "commit " ++ rest) → commit_in (with_line_feed line) ≡ None
no_word line h = commit_in-none (with_line_feed line) (λ n small e. h (decimal n) (append_cancel_right line (codes "commit " ++ decimal n) (10 ∷ []) e))

-- a line that begins with the word, and the number read after it
pub after_word : (line digits : List ℕ) (o : Option ℕ) → line ≡ codes "commit " ++ digits → IfSome o (λ n. (n < 2 ^ 32) × (digits ≡ decimal n)) → IfNone o ((n : ℕ) → n < 2 ^ 32 → digits ≡ decimal n → ⊥) → o ≡ commit_in (with_line_feed line)
after_word line digits (Some n) e some none =
    sym (ap (λ (x : List ℕ). commit_in (with_line_feed x)) (e ∙ ap (λ (x : List ℕ). codes "commit " ++ x) some.1) ∙ commit_in-commit_line n some.0)
after_word line digits None e some none =
    sym (commit_in-none (with_line_feed line) (λ n small is.
    none n small (append_cancel_left (codes "commit ") digits (decimal n) (sym e ∙ append_cancel_right line (codes "commit " ++ decimal n) (10 ∷ []) is))))
