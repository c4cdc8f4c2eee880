-- Server versions: three decimal numbers, the first two followed by a point (MySQL's source, libs/mysql/binlog/event/binlog_event.h, do_server_version_split; the crate, src/misc).
use Rattle.std.specs.Prelude.{◌≡◌, ◌↔◌, ◌<◌, ◌++◌, true, ◌+◌, ◌*◌, ◌-◌, ℕ, List, [], ◌∷◌, length, drop, Option, Some, None, fold, nat_lt, ◌==◌, ◌&&◌, if◌then◌else◌, take_while, unwrap_or, option_and_then}
use Rattle.std.specs.Char.{is_ascii_digit}
use Rattle.std.specs.List.{list_all}

-- the digits at the start
abbrev pub leading_digits : List ℕ → List ℕ
leading_digits x = take_while is_ascii_digit x

-- the number that these digits write in decimal
abbrev pub version_digits_number : List ℕ → ℕ
version_digits_number ds = fold (λ n d. 10 * n + (d - 48)) 0 ds

-- the number at the start, and the text after it; None without a digit or from 256 on
unfoldable pub number_at : List ℕ → Option (ℕ × List ℕ)
number_at x =
    let ds = leading_digits x in
    if nat_lt 0 (length ds) && nat_lt (version_digits_number ds) 256 then Some (version_digits_number ds, drop (length ds) x) else None

-- the text after a point
unfoldable pub after_point : List ℕ → Option (List ℕ)
after_point [] = None
after_point (c ∷ r) = if c == 46 then Some r else None

-- the three numbers at the start; None if one or a point is missing
unfoldable pub numbers_at : List ℕ → Option (ℕ × ℕ × ℕ)
numbers_at x =
    option_and_then (λ a. option_and_then (λ r. option_and_then (λ b. option_and_then (λ s. option_and_then (λ c.
    Some (a.0, b.0, c.0)) (number_at s)) (after_point b.1)) (number_at r)) (after_point a.1)) (number_at x)

-- the three numbers, or zeros
abbrev pub version_of : List ℕ → ℕ × ℕ × ℕ
version_of x = unwrap_or (numbers_at x) (0, 0, 0)

-- the digits of a number below 256: at least one
pub record IsVersionNumber (n : ℕ) (digits : List ℕ) : Type 0 where
  pub all_digits : list_all is_ascii_digit digits ≡ true
  pub some : 0 < length digits
  pub value_is : version_digits_number digits ≡ n
  pub fits : n < 256

-- three such numbers, the first two followed by a point, then any text that doesn't begin with a digit
pub record IsVersion (major minor patch : ℕ) (text : List ℕ) : Type 0 where
  pub first : List ℕ
  pub second : List ℕ
  pub third : List ℕ
  pub rest : List ℕ
  pub joined : text ≡ first ++ (46 ∷ (second ++ (46 ∷ (third ++ rest))))
  pub first_is : IsVersionNumber major first
  pub second_is : IsVersionNumber minor second
  pub third_is : IsVersionNumber patch third
  pub ends : leading_digits rest ≡ []

-- a text has three numbers exactly if it begins with them, with points between them, and no digit after them
abbrev pub VersionsAreTheirNumbers : Type 0
VersionsAreTheirNumbers = (major minor patch : ℕ) (text : List ℕ) → (numbers_at text ≡ Some (major, minor, patch)) ↔ IsVersion major minor patch text
