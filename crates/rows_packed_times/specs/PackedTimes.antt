-- Packed times: a date and time, or a time span, in 64 bits; and the values of TIME2, DATETIME2 and TIMESTAMP2 cells. MySQL's source: `mysys/my_time.cc`.
use Rattle.std.specs.Prelude.{ℕ, suc, ◌+◌, ◌-◌, ◌*◌, ◌/◌, ◌%◌, ◌^◌, ℤ, pos, negsuc, ◌+ℤ◌, ◌-ℤ◌, ◌*ℤ◌, neg_ℤ, List, drop, nat_le, if◌then◌else◌}
use Rattle.std.specs.Int.{w64, int_wrap}
use Rattle.byteorder.specs.Endian.{big_number, twos_complement}

-- i * 2^24 + f, as a signed number of 64 bits
abbrev pub packed_time : ℤ → ℤ → ℤ
packed_time i f = int_wrap w64 ((i *ℤ pos 16777216) +ℤ f)

-- the same without a fraction
abbrev pub packed_time_int : ℤ → ℤ
packed_time_int i = int_wrap w64 (i *ℤ pos 16777216)

-- the bits above the fraction, rounded down
abbrev pub int_part : ℤ → ℤ
int_part (pos n) = pos (n / 16777216)
int_part (negsuc n) = negsuc (n / 16777216)

-- the fraction of the magnitude, with the sign of the whole
abbrev pub frac_part : ℤ → ℤ
frac_part (pos n) = pos (n % 16777216)
frac_part (negsuc n) = neg_ℤ (pos ((n + 1) % 16777216))

-- the number of bytes of a fraction with so many decimal digits: one for every two digits, none for more than six
abbrev pub fraction_len : ℕ → ℕ
fraction_len decimals = if nat_le decimals 6 then (decimals + 1) / 2 else 0

-- a signed fraction of n bytes, in microseconds: 1, 2 or 3 bytes count units of 10,000, 100 or 1 microseconds
abbrev pub fraction : ℕ → List ℕ → ℤ
fraction n bytes = twos_complement n (big_number n bytes) *ℤ pos (100 ^ (3 - n))

-- n parts of a second as a packed time, with `unit` parts in a second and `unit_micros` microseconds in a part
abbrev pub packed_parts : ℕ → ℕ → ℕ → ℕ
packed_parts unit unit_micros n = n / unit * 16777216 + n % unit * unit_micros

-- the same for a signed n: the magnitude is packed, then the sign applied
abbrev pub packed_signed : ℕ → ℕ → ℤ → ℤ
packed_signed unit unit_micros (pos n) = pos (packed_parts unit unit_micros n)
packed_signed unit unit_micros (negsuc n) = neg_ℤ (pos (packed_parts unit unit_micros (suc n)))

-- a TIME2 with n fraction bytes: a number of 3 + n bytes, less half its range; its lowest n bytes count parts of a second
abbrev pub time2 : ℕ → List ℕ → ℤ
time2 n bytes = packed_signed (256 ^ n) (100 ^ (3 - n)) (pos (big_number (3 + n) bytes) -ℤ pos (2 ^ (8 * (3 + n) - 1)))

-- a DATETIME2 with n fraction bytes: five bytes less 2^39, then the fraction
abbrev pub datetime2 : ℕ → List ℕ → ℤ
datetime2 n bytes = packed_time (pos (big_number 5 bytes) -ℤ pos (2 ^ 39)) (fraction n (drop 5 bytes))

-- a TIMESTAMP2 with n fraction bytes: signed seconds in four bytes (MySQL: unsigned), then the fraction
abbrev pub timestamp2 : ℕ → List ℕ → ℤ × ℤ
timestamp2 n bytes = (twos_complement 4 (big_number 4 bytes), fraction n (drop 4 bytes))
