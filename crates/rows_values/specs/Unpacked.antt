-- The decimal that given bytes pack, computed from the bytes, and its text (MySQL's source, decimal.cc, bin2decimal). The law `packed_bytes_are_unpacked` says that it is the only one with these packed bytes.
use Rattle.std.specs.Prelude.{ℕ, zero, suc, ◌*◌, ◌/◌, ◌%◌, ◌-◌, ◌^◌, nat_lt, Bool, false, List, [], ◌++◌, length, take, drop, slice_index, Option, Some, None, if◌then◌else◌, nat_eq}
use Rattle.byteorder.specs.Endian.{big_number}
use Rattle.rows_values.specs.Digits.{group_size, side_size, top_flipped, signed, digits_in, has_minus_bit}
use Rattle.rows_values.specs.Decimals.{DecimalParts, packed_size, normalized}
use Rattle.rows_values.specs.PrintedDecimals.{decimal_text}
use Rattle.rows_errors.specs.declared.fault.RowsError.{RowsError}
use Rattle.rows_errors.specs.declared.fault.RowsError.TheVariants.{EndOfBody, Decimal as BadDecimal}

-- two lists of digits in sequence; none if one of them is missing
abbrev pub concat_digits : Option (List ℕ) → Option (List ℕ) → Option (List ℕ)
concat_digits None more = None
concat_digits (Some ds) None = None
concat_digits (Some ds) (Some es) = Some (ds ++ es)

-- the k digits of a number below 10^k; None from 10^k on
abbrev pub exact_digits : ℕ → ℕ → Option (List ℕ)
exact_digits k n = if nat_lt n (10 ^ k) then Some (digits_in k n) else None

-- the k digits of a group; none if its number is 10^k or more
abbrev pub group_digits : ℕ → List ℕ → Option (List ℕ)
group_digits k bytes = exact_digits k (big_number (length bytes) bytes)

-- the digits of the first n groups of nine
unfoldable pub nines_digits : ℕ → List ℕ → Option (List ℕ)
nines_digits zero bytes = Some []
nines_digits (suc n) bytes = concat_digits (nines_digits n bytes) (group_digits 9 (take 4 (drop (4 * n) bytes)))

-- the n digits before the point: a group of the remainder by nine, then groups of nine
abbrev pub before_digits : ℕ → List ℕ → Option (List ℕ)
before_digits n bytes = concat_digits (group_digits (n % 9) (take (group_size (n % 9)) bytes)) (nines_digits (n / 9) (drop (group_size (n % 9)) bytes))

-- the n digits after the point: groups of nine, then a group of the remainder
abbrev pub after_digits : ℕ → List ℕ → Option (List ℕ)
after_digits n bytes = concat_digits (nines_digits (n / 9) (take (4 * (n / 9)) bytes)) (group_digits (n % 9) (drop (4 * (n / 9)) bytes))

-- the decimal of a sign and the digits on both sides; none if one side is missing
abbrev pub valued : Bool → Option (List ℕ) → Option (List ℕ) → Option DecimalParts
valued negative None after = None
valued negative (Some before) None = None
valued negative (Some before) (Some after) = Some (record { negative = negative; before = before; after = after })

-- the bytes of the groups: both inversions undone
abbrev pub plain_bytes : List ℕ → List ℕ
plain_bytes bytes = top_flipped (signed (has_minus_bit bytes) bytes)

-- the decimal with so many digits before and after the point, from the bytes of the groups
abbrev pub sides_value : Bool → ℕ → ℕ → List ℕ → Option DecimalParts
sides_value negative before after plain = valued negative (before_digits before (take (side_size before) plain)) (after_digits after (drop (side_size before) plain))

-- the decimal of `precision` digits, `scale` of them after the point, that these bytes pack: none if the scale exceeds the precision, if there aren't exactly `packed_size` bytes, or if a group's number has too many digits
unfoldable pub unpacked : ℕ → ℕ → List ℕ → Option DecimalParts
unpacked precision scale bytes =
    if nat_lt precision scale then None
    else if nat_eq (length bytes) (packed_size (precision - scale) scale) then sides_value (has_minus_bit bytes) (precision - scale) scale (plain_bytes bytes)
    else None

-- the decimal that a reader returns for it: with all digits, or without the leading zero groups
abbrev pub normalized_of : Bool → Option DecimalParts → Option DecimalParts
normalized_of keep None = None
normalized_of keep (Some v) = Some (normalized keep v)

-- its text without leading zero groups; so a zero without digits after the point has no sign
abbrev pub optional_text : Option DecimalParts → Option (List ℕ)
optional_text None = None
optional_text (Some v) = Some (decimal_text (normalized false v))

-- the text of the decimal that bytes pack
abbrev pub packed_text : ℕ → ℕ → List ℕ → Option (List ℕ)
packed_text precision scale bytes = optional_text (unpacked precision scale bytes)

-- a decimal in a JSON document: a byte for the precision, a byte for the scale, and the digits' bytes; the bytes after them are ignored
unfoldable pub packed_value : List ℕ → Option DecimalParts
packed_value bytes =
    if nat_lt (length bytes) 2 then None
    else unpacked (slice_index bytes 0) (slice_index bytes 1) (take (packed_size (slice_index bytes 0 - slice_index bytes 1) (slice_index bytes 1)) (drop 2 bytes))

-- why there is none: the bytes end too early; or the scale exceeds the precision, or a group's number has too many digits
unfoldable pub packed_fault : List ℕ → RowsError
packed_fault bytes =
    if nat_lt (length bytes) 2 then EndOfBody
    else if nat_lt (slice_index bytes 0) (slice_index bytes 1) then BadDecimal
    else if nat_lt (length (drop 2 bytes)) (packed_size (slice_index bytes 0 - slice_index bytes 1) (slice_index bytes 1)) then EndOfBody
    else BadDecimal
