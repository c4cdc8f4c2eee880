-- MySQL's DECIMAL: a sign, and digits before and after the point; its packed format, and the results of reading it.
use Rattle.std.specs.Prelude.{◌≡◌, ◌≤◌, ◌<◌, ◌+◌, ◌/◌, ◌%◌, ◌-◌, ◌⊎◌, ℕ, zero, suc, List, [], ◌∷◌, ◌++◌, length, take, drop, Bool, true, false, Option, ⊤, if◌then◌else◌, ◌==◌}
use Rattle.std.specs.List.{list_all}
use Rattle.std.specs.Int.Digits.{number_from_digits}
use Rattle.std.specs.Ordering.{nat_cmp}
use Rattle.std.specs.declared.cmp.Ordering.{Ordering}
use Rattle.std.specs.declared.cmp.Ordering.TheVariants.{Less, Greater}
use Rattle.std.specs.Io.KnownBytes.{Consumes, Appends, IsAtEnd}
use Rattle.wire_buf.specs.declared.fault.WireFault.{WireFault}
use Rattle.wire_buf.specs.declared.fault.WireFault.TheVariants as wire
use Rattle.wire_buf.specs.Transfers.{WritesPrefix}
use Rattle.rows_values.specs.Digits.{AreDigits, side_size, before_bytes, after_bytes, top_flipped, signed}
use Rattle.rows_values.specs.declared.fields.Decimal.{Decimal}
use Rattle.rows_errors.specs.declared.fault.RowsError.{RowsError}
use Rattle.rows_errors.specs.declared.fault.RowsError.TheVariants.{EndOfBody, Decimal as BadDecimal, Memory, Read}

-- the sign, and the digits, each 0 to 9, the highest first; a zero may be negative
pub record DecimalParts : Type 0 where
  pub negative : Bool
  pub before : List ℕ
  pub after : List ℕ

-- the sign and digits of a `Decimal`
abbrev pub decimal_parts : Decimal → DecimalParts
decimal_parts d = record { negative = d.negative; before = d.before.items; after = d.after.items }

-- one digit, zero
abbrev pub zero_value : DecimalParts
zero_value = record { negative = false; before = 0 ∷ []; after = [] }

-- the packed format
abbrev pub packed_encoding : DecimalParts → List ℕ
packed_encoding v = signed v.negative (top_flipped (before_bytes v.before ++ after_bytes v.after))

-- the packed format of a `Decimal`
abbrev pub pack_decimal : Decimal → List ℕ
pack_decimal d = packed_encoding (decimal_parts d)

-- the number of all digits, without the sign and the point
abbrev pub digits_number : DecimalParts → ℕ
digits_number v = number_from_digits 10 (v.before ++ v.after)

-- the order of two signed numbers, with a negative zero just below zero
abbrev pub number_cmp : Bool → ℕ → Bool → ℕ → Ordering
number_cmp true m true n = nat_cmp n m
number_cmp true m false n = Less
number_cmp false m true n = Greater
number_cmp false m false n = nat_cmp m n

-- the number of bytes of a packed decimal with so many digits before and after the point
abbrev pub packed_size : ℕ → ℕ → ℕ
packed_size before after = side_size before + side_size after

-- only zeros
abbrev pub only_zeros : List ℕ → Bool
only_zeros ds = list_all (λ d. d == 0) ds

-- the digits without the leading groups of nine that are only zeros; at most n groups are dropped
unfoldable pub without_zero_nines : ℕ → List ℕ → List ℕ
without_zero_nines zero ds = ds
without_zero_nines (suc n) ds = if only_zeros (take 9 ds) then without_zero_nines n (drop 9 ds) else ds

-- digits before the point without the leading groups of zeros; the first group is shorter if nine doesn't divide the number of digits
abbrev pub without_zero_groups : List ℕ → List ℕ
without_zero_groups ds = let left = length ds % 9 in if only_zeros (take left ds) then without_zero_nines (length ds / 9) (drop left ds) else ds

-- the number of digits of the first group of n before the point: the remainder by nine, or nine
abbrev pub first_group : ℕ → ℕ
first_group n = if (n % 9) == 0 then 9 else n % 9

-- only zeros are dropped, and no part of a group; and the first group of the rest, if there is one, isn't only zeros
pub record DropsZeroGroups (ds rest : List ℕ) : Type 0 where
  pub dropped : List ℕ
  pub whole : ds ≡ dropped ++ rest
  pub zeros : only_zeros dropped ≡ true
  pub at_group : (dropped ≡ []) ⊎ (length rest % 9 ≡ 0)
  pub others_first : 0 < length rest → only_zeros (take (first_group (length rest)) rest) ≡ false

-- the decimal; without any digit, a zero without a sign
abbrev pub some_digit : DecimalParts → DecimalParts
some_digit v = if (length v.before + length v.after) == 0 then zero_value else v

-- the decimal as MySQL unpacks it: without leading groups of zeros, unless `keep`
abbrev pub normalized : Bool → DecimalParts → DecimalParts
normalized keep v = some_digit (record { negative = v.negative; before = if keep then v.before else without_zero_groups v.before; after = v.after })

-- a value with so many digits before and after the point whose packed format is the bytes
pub record IsPacked (before after : ℕ) (v : DecimalParts) (bytes : List ℕ) : Type 0 where
  pub before_size : length v.before ≡ before
  pub after_size : length v.after ≡ after
  pub before_are : AreDigits v.before
  pub after_are : AreDigits v.after
  pub bytes_are : packed_encoding v ≡ bytes

-- no digits have these bytes as their packed format
abbrev pub NonePacked : ℕ → ℕ → List ℕ → Type 0
NonePacked before after bytes = (v : DecimalParts) → IsPacked before after v bytes → ⊥

-- the decimal d that the digits packed in the bytes unpack to
pub record Unpacks (keep : Bool) (before after : ℕ) (d : DecimalParts) (bytes : List ℕ) : Type 0 where
  pub value : DecimalParts
  pub packed_is : IsPacked before after value bytes
  pub made : d ≡ normalized keep value

-- the next bytes were taken, and d is the decimal that they pack
pub record ReadsDecimal (keep : Bool) (precision scale : ℕ) (d : DecimalParts) (old new : Option (List ℕ)) : Type 0 where
  pub ordered : scale ≤ precision
  pub taken : List ℕ
  pub consumed : Consumes old new taken
  pub unpacked : Unpacks keep (precision - scale) scale d taken

-- why no decimal was read: as many bytes as the digits need were taken and pack none; or the bytes end too early; a failing reader and out of memory say nothing about the bytes
abbrev pub IsDecimalCause : ℕ → ℕ → RowsError → List ℕ → Option (List ℕ) → Type 0
IsDecimalCause before after BadDecimal taken new = (length taken ≡ packed_size before after) × NonePacked before after taken
IsDecimalCause before after EndOfBody taken new = (length taken < packed_size before after) × IsAtEnd new
IsDecimalCause before after Read taken new = ⊤
IsDecimalCause before after Memory taken new = ⊤
IsDecimalCause before after fault taken new = ⊥

-- at most the bytes of so many digits before and after the point were taken, and the fault is why no decimal was read
pub record FailsDigits (before after : ℕ) (fault : RowsError) (old new : Option (List ℕ)) : Type 0 where
  pub taken : List ℕ
  pub consumed : Consumes old new taken
  pub within : length taken ≤ packed_size before after
  pub cause : IsDecimalCause before after fault taken new

-- the scale exceeds the precision, and nothing was taken; or it doesn't, and no decimal was read
pub data FailsDecimal (precision scale : ℕ) (fault : RowsError) (old new : Option (List ℕ)) : Type 0 where
  unordered : precision < scale → fault ≡ BadDecimal → Consumes old new [] → FailsDecimal precision scale fault old new
  ordered : scale ≤ precision → FailsDigits (precision - scale) scale fault old new → FailsDecimal precision scale fault old new

-- a precision and a scale in one byte each, then the decimal
pub record ReadsPacked (keep : Bool) (d : DecimalParts) (old new : Option (List ℕ)) : Type 0 where
  pub precision : ℕ
  pub scale : ℕ
  pub middle : Option (List ℕ)
  pub consumed : Consumes old middle (precision ∷ scale ∷ [])
  pub reads : ReadsDecimal keep precision scale d middle new

-- the precision and the scale were not both there, or the reader failed; or both were taken, and no decimal was read after them
pub data FailsPacked : RowsError → Option (List ℕ) → Option (List ℕ) → Type 0 where
  early : {fault : RowsError} {old new : Option (List ℕ)} (taken : List ℕ) → Consumes old new taken → length taken ≤ 2
      → ((fault ≡ EndOfBody) × IsAtEnd new × (length taken < 2)) ⊎ (fault ≡ Read) → FailsPacked fault old new
  following : {fault : RowsError} {old middle new : Option (List ℕ)} (precision scale : ℕ)
      → Consumes old middle (precision ∷ scale ∷ []) → FailsDecimal precision scale fault middle new → FailsPacked fault old new

-- out of memory, and nothing was written; or the writer failed, and a prefix of the bytes was written
abbrev pub FailsToWrite : WireFault → List ℕ → Option (List ℕ) → Option (List ℕ) → Type 0
FailsToWrite fault bytes old new = ((fault ≡ wire.Memory) × Appends old new []) ⊎ ((fault ≡ wire.Write) × WritesPrefix bytes old new)
