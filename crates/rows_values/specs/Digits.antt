-- The packed digits of MySQL's DECIMAL (`decimal2bin`): digits are split into groups of nine from the point outward, and each group is a big-endian number.
use Rattle.std.specs.Prelude.{ℕ, zero, suc, ◌+◌, ◌*◌, ◌/◌, ◌%◌, ◌<◌, Bool, false, nat_lt, List, [], ◌∷◌, ◌++◌, length, take, drop, map, slice_index, ◌-◌, if◌then◌else◌}
use Rattle.std.specs.Int.Digits.{number_from_digits}
use Rattle.byteorder.specs.Endian.{big_bytes}

-- decimal digits, from 0 to 9
abbrev pub AreDigits : List ℕ → Type 0
AreDigits ds = (k : ℕ) → slice_index ds k < 10

-- the number of bytes of a group of up to nine digits
abbrev pub group_size : ℕ → ℕ
group_size k = slice_index (0 ∷ 1 ∷ 1 ∷ 2 ∷ 2 ∷ 3 ∷ 3 ∷ 4 ∷ 4 ∷ 4 ∷ []) k

-- the number of bytes of n digits on one side of the point: four for every nine, and those of the remaining group
abbrev pub side_size : ℕ → ℕ
side_size n = 4 * (n / 9) + group_size (n % 9)

-- a group: the number of its digits in its bytes
abbrev pub group_bytes : List ℕ → List ℕ
group_bytes ds = big_bytes (group_size (length ds)) (number_from_digits 10 ds)

-- the first n groups of nine digits in sequence
unfoldable pub nines_bytes : ℕ → List ℕ → List ℕ
nines_bytes zero ds = []
nines_bytes (suc n) ds = nines_bytes n ds ++ group_bytes (take 9 (drop (9 * n) ds))

-- before the point: a group of the remainder by nine, then groups of nine
unfoldable pub before_bytes : List ℕ → List ℕ
before_bytes ds = let left = length ds % 9 in group_bytes (take left ds) ++ nines_bytes (length ds / 9) (drop left ds)

-- after the point: groups of nine, then a group of the remainder
unfoldable pub after_bytes : List ℕ → List ℕ
after_bytes ds = let whole = length ds / 9 in nines_bytes whole ds ++ group_bytes (drop (9 * whole) ds)

-- the first byte with its top bit inverted
abbrev pub top_flipped : List ℕ → List ℕ
top_flipped [] = []
top_flipped (b ∷ x) = ((b + 128) % 256) ∷ x

-- all bits inverted if the number is negative
abbrev pub signed : Bool → List ℕ → List ℕ
signed negative x = if negative then map (λ b. 255 - b) x else x

-- the last k digits of a number
unfoldable pub digits_in : ℕ → ℕ → List ℕ
digits_in zero n = []
digits_in (suc k) n = digits_in k (n / 10) ++ (n % 10 ∷ [])

-- whether packed bytes are those of a negative number: the top bit is clear
abbrev pub has_minus_bit : List ℕ → Bool
has_minus_bit [] = false
has_minus_bit (b ∷ x) = nat_lt b 128
