-- The text of a decimal that is printed, and the text that is parsed (MySQL's source, decimal.cc, decimal2string).
use Rattle.std.specs.Prelude.{◌≡◌, ⊤, ℕ, ◌+◌, ◌-◌, List, [], ◌∷◌, ◌++◌, length, drop, map, Bool, false, not, ◌==◌, ◌&&◌, ◌||◌, nat_lt, Option, Some, None, if◌then◌else◌}
use Rattle.std.specs.List.{prefix_len, list_all, before_first, after_first}
use Rattle.std.specs.Char.{is_ascii_digit}
use Rattle.rows_errors.specs.declared.fault.RowsError.{RowsError}
use Rattle.rows_errors.specs.declared.fault.RowsError.TheVariants as rows
use Rattle.rows_values.specs.Decimals.{DecimalParts, only_zeros}
use Rattle.rows_values.specs.declared.parse.ParseDecimalError.{ParseDecimalError}
use Rattle.rows_values.specs.declared.parse.ParseDecimalError.TheVariants.{Text, Memory}

-- digits as their characters
abbrev pub glyphs : List ℕ → List ℕ
glyphs ds = map (λ d. 48 + d) ds

-- digits without leading zeros
abbrev pub significant : List ℕ → List ℕ
significant ds = drop (prefix_len (λ d. d == 0) ds) ds

-- the digits before the point without leading zeros, or one zero
abbrev pub whole_text : List ℕ → List ℕ
whole_text ds = if length (significant ds) == 0 then 48 ∷ [] else glyphs (significant ds)

-- a point and the digits after it, if there are any
abbrev pub fraction_text : List ℕ → List ℕ
fraction_text ds = if length ds == 0 then [] else 46 ∷ glyphs ds

-- `-` if the decimal is negative
abbrev pub sign_text : Bool → List ℕ
sign_text negative = if negative then 45 ∷ [] else []

-- the text that is printed
abbrev pub decimal_text : DecimalParts → List ℕ
decimal_text v = sign_text v.negative ++ (whole_text v.before ++ fraction_text v.after)

-- the digits before the point that are printed
abbrev pub shown_digits : List ℕ → List ℕ
shown_digits ds = if length (significant ds) == 0 then 0 ∷ [] else significant ds

-- a value without leading zeros, and without a sign if it is zero
abbrev pub shown_value : DecimalParts → DecimalParts
shown_value v =
    let before = shown_digits v.before in
    record { negative = v.negative && not (only_zeros before && only_zeros v.after); before = before; after = v.after }

-- while a text begins with two zeros, its first character is dropped
abbrev pub one_zero : List ℕ → List ℕ
one_zero t = drop (prefix_len (λ c. c == 48) t - 1) t

-- whether a text begins with a minus
abbrev pub has_minus : List ℕ → Bool
has_minus [] = false
has_minus (c ∷ t) = c == 45

-- the text after the sign, if there is one
abbrev pub after_sign : List ℕ → List ℕ
after_sign [] = []
after_sign (c ∷ t) = if (c == 45) || (c == 43) then t else c ∷ t

-- the values of digit characters
abbrev pub digits_of : List ℕ → List ℕ
digits_of t = map (λ c. c - 48) t

-- only the character `0`
abbrev pub are_zeros : List ℕ → Bool
are_zeros t = list_all (λ c. c == 48) t

-- at least one character before or after the point, and all characters are digits
unfoldable pub has_only_digits : List ℕ → List ℕ → Bool
has_only_digits before after = nat_lt 0 (length before + length after) && (list_all is_ascii_digit before && list_all is_ascii_digit after)

-- the decimal of the characters before and after the point, without a sign if all are zeros
unfoldable pub from_digit_texts : Bool → List ℕ → List ℕ → Option DecimalParts
from_digit_texts minus before after =
    if has_only_digits before after
    then Some (record { negative = minus && not (are_zeros before && are_zeros after); before = digits_of before; after = digits_of after })
    else None

-- the decimal that a text is parsed as: a sign, digits, and a point and digits
unfoldable pub text_value : List ℕ → Option DecimalParts
text_value text =
    let t = one_zero text in
    let body = after_sign t in
    from_digit_texts (has_minus t) (before_first (λ c. c == 46) body) (after_first (λ c. c == 46) body)

-- only digits, signs and points
abbrev pub are_allowed : List ℕ → Bool
are_allowed t = list_all (λ c. is_ascii_digit c || ((c == 43) || ((c == 45) || (c == 46)))) t

-- the error `Text` means that the text is no decimal; `Memory` says nothing about the text
abbrev pub IsTextFault : ParseDecimalError → Option DecimalParts → Type 0
IsTextFault Text v = v ≡ None
IsTextFault Memory v = ⊤

-- the same as the error of a row
abbrev pub decimal_error : ParseDecimalError → RowsError
decimal_error Text = rows.Decimal
decimal_error Memory = rows.Memory
