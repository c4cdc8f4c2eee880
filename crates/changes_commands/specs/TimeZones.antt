-- The time zones that the option --time-zone names, and the times in them: offsets from UTC (MySQL Reference Manual, "MySQL Server Time Zone Support"), and tables of the system (RFC 8536). Texts of times are those of RFC 9557, as the crate `jiff` defines them.
use Rattle.std.specs.Prelude.{◌≡◌, ◌+◌, ◌-◌, ◌*◌, ◌/◌, ◌==◌, ◌&&◌, ◌||◌, ℕ, ℤ, pos, negsuc, neg_ℤ, Bool, false, IsTrue, not, List, [], ◌∷◌, length, codes, nat_lt, Option, Some, None, option_map, Result, Ok, Err, if◌then◌else◌}
use Rattle.std.specs.Char.{is_ascii_alphanumeric, is_ascii_digit}
use Rattle.std.specs.List.{list_all}
use Rattle.std.specs.Option.{option_and_then}
use Rattle.std.specs.Str.{bytes_eq}
use Rattle.jiff.specs.Words.{compatible_offset, datetime_view, instant_of, parse_datetime, IsTimestampNanos}
use Rattle.jiff_core.specs.declared.civil.datetime.DateTime.{DateTime}
use Rattle.jiff_core.specs.declared.error.Error.{Error}
use Rattle.jiff_core.specs.declared.error.Error.TheVariants.{TimeZoneNotFound}
use Rattle.jiff_tz.specs.Tzif.{ambiguous_at, tzif_name, tzif_view}
use Rattle.jiff_tz.specs.TzifReader.{read_tzif}
use Rattle.changes_commands.specs.declared.time_zone.Zone.{Zone}
use Rattle.changes_commands.specs.declared.time_zone.Zone.TheVariants.{Fixed, Table}

-- ---- offsets

-- the value of a digit
abbrev pub digit : ℕ → Option ℕ
digit b = if is_ascii_digit b then Some (b - 48) else None

-- the number of two digits
abbrev pub two_digits : ℕ → ℕ → Option ℕ
two_digits tens ones = option_and_then (λ (t : ℕ). option_map (λ (o : ℕ). t * 10 + o) (digit ones)) (digit tens)

-- the seconds of hours and minutes, if these are below 24 and 60
abbrev pub seconds_in : ℕ → ℕ → Option ℕ
seconds_in hours minutes = if nat_lt hours 24 && nat_lt minutes 60 then Some (hours * 3600 + minutes * 60) else None

-- the seconds of hours and minutes with a colon between them, each of two digits
abbrev pub clock_seconds : List ℕ → Option ℕ
clock_seconds (a ∷ b ∷ colon ∷ c ∷ d ∷ []) =
    if colon == 58 then option_and_then (λ (hours : ℕ). option_and_then (λ (minutes : ℕ). seconds_in hours minutes) (two_digits c d)) (two_digits a b) else None
clock_seconds _ = None

-- the seconds of an offset: a sign, and hours and minutes
abbrev pub offset_seconds : List ℕ → Option ℤ
offset_seconds [] = None
offset_seconds (sign ∷ clock) =
    if sign == 43 then option_map (λ (s : ℕ). pos s) (clock_seconds clock)
    else if sign == 45 then option_map (λ (s : ℕ). neg_ℤ (pos s)) (clock_seconds clock)
    else None

-- the offset from UTC that a name stands for, in seconds
abbrev pub fixed_offset : List ℕ → Option ℤ
fixed_offset name = if bytes_eq name (codes "UTC") then Some (pos 0) else offset_seconds name

-- ---- tables

-- the bytes of the names of tables: letters, digits, and / _ - +
abbrev pub is_of_name : ℕ → Bool
is_of_name b = is_ascii_alphanumeric b || (b == 47 || (b == 95 || (b == 45 || b == 43)))

-- a name that a table may have: some of these bytes
abbrev pub is_table_name : List ℕ → Bool
is_table_name name = not (length name == 0) && list_all is_of_name name

-- A table with this name was read from bytes in the format of RFC 8536; which bytes the system has isn't stated.
abbrev pub IsTableNamed : List ℕ → Result Zone Error → Type 0
IsTableNamed name (Ok (Table t)) = IsTrue (is_table_name name) × (tzif_name t ≡ Some name) × ((bytes : List ℕ) × (read_tzif bytes ≡ Ok (tzif_view t)))
IsTableNamed name (Ok (Fixed o)) = ⊥
IsTableNamed name (Err e) = is_table_name name ≡ false → e ≡ TimeZoneNotFound

-- the time zone with this name: an offset, or else a table
abbrev pub IsNamed : List ℕ → Result Zone Error → Type 0
IsNamed name (Ok (Fixed o)) = fixed_offset name ≡ Some o.seconds
IsNamed name r = (fixed_offset name ≡ None) × IsTableNamed name r

-- ---- times

-- the instant at which clocks in a zone show a time, in nanoseconds since 1970; the earlier of two, or by the offset before the clocks skip it
abbrev pub instant_in : Zone → DateTime → ℤ
instant_in (Fixed o) time = instant_of time o
instant_in (Table t) time = instant_of time (compatible_offset (ambiguous_at t time))

-- the seconds of nanoseconds since 1970; 0 before it
abbrev pub seconds_since_1970 : ℤ → ℕ
seconds_since_1970 (pos n) = n / 1000000000
seconds_since_1970 (negsuc n) = 0

-- the seconds of a time that was read; none if it wasn't, or is out of range
abbrev pub AreSecondsOf : Zone → Result DateTime Error → Option ℕ → Type 0
AreSecondsOf z (Err e) r = r ≡ None
AreSecondsOf z (Ok time) (Some s) = s ≡ seconds_since_1970 (instant_in z time)
AreSecondsOf z (Ok time) None = IsTimestampNanos (instant_in z time) → ⊥

-- the seconds of the time that a text is
abbrev pub IsSecondsOf : Zone → List ℕ → Option ℕ → Type 0
IsSecondsOf z text r = (time : Result DateTime Error) × (datetime_view time ≡ parse_datetime text) × AreSecondsOf z time r
