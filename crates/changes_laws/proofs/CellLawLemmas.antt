-- Equal JSON of cells of one column comes from the same values.
use Rattle.std.proofs.Common.{◌≡◌, ℕ, ◌+◌, ◌*◌, ◌/◌, ◌%◌, ◌<◌, ◌^◌, Bool, List, refl, sym, ap, ap₂, ◌∙◌, subst, arith, Option, Some, None}
use Rattle.std.specs.Prelude.{ℤ, pos, slice_index, unsigned_abs, int_lt, FitsSigned}
use Rattle.std.specs.Int.{w64}
use Rattle.std.specs.Fmt.{decimal}
use Rattle.std.specs.declared.result.Result.TheVariants.{Ok}
use Rattle.std.proofs.lemmas.Int.{SFits-int_wrap}
use lib.Signed.{mag, nat_abs-le}
use Rattle.byteorder.specs.Endian.{little_number}
use Rattle.wire_buf.specs.Encoding.{AreBytes}
use Rattle.wire_buf.specs.Numbers.{little_signed}
use Rattle.feed_writers.specs.declared.times.Clock.{Clock}
use Rattle.feed_writers.specs.declared.times.Day.{Day}
use Rattle.rows_errors.specs.declared.fault.RowsError.TheVariants.{Metadata, Cell, Decimal as BadDecimal}
use Rattle.rows_values.specs.PackedTimes.{fraction_len, time2, datetime2, timestamp2}
use Rattle.rows_values.specs.Unpacked.{packed_text}
use Rattle.rows_cells.specs.declared.format.Width.{Width}
use Rattle.rows_cells.specs.declared.format.Width.TheVariants as width
use Rattle.rows_cells.specs.declared.format.CellFormat.{CellFormat}
use Rattle.rows_cells.specs.declared.format.CellFormat.TheVariants as format
use Rattle.rows_cells.specs.CellSizes.{cell_size, width_bytes}
use Rattle.rows_cells.specs.CellValues.{CellValue, bytes, int, uint, float, double, date, time, cell_date, cell_time, new_date, old_datetime, old_time, timestamp_text, decimal_value, content_value}
use Rattle.rows_cells.specs.Cells.{content_at, cell_at}
use Rattle.changes_tables.specs.ShownColumns.{ColumnView}
use Rattle.changes_tables.specs.declared.columns.Shown.{Shown}
use Rattle.changes_tables.specs.declared.columns.Shown.TheVariants as shown
use Rattle.changes_writers.proofs.FloatLawLemmas.{float_read}
use Rattle.changes_cells.specs.CellJson.{IsIntegerJson, IsBytesJson, date_shown, IsCellJson}
use Rattle.changes_cells.specs.ShownTimes.{shown_datetime, shown_duration}
use Rattle.changes_laws.specs.SameCells.{IsSameCell, equal, floats, doubles, AreMembers, IsNoInstant, IsFormatOf}
use Rattle.changes_laws.proofs.ReadingGives.{Gives, given, fails, next, little_below, signed_below}
use Rattle.changes_laws.proofs.SoundCellLemmas.{BothBytes, size_gives}
use Rattle.changes_laws.proofs.DateReadLemmas.{IsSmallDay, IsSmallClock, datetimes_read, dates_read, durations_read}
use Rattle.changes_laws.proofs.TimestampReadLemmas.{timestamps_read, timestamp_small}
use Rattle.changes_laws.proofs.CellReadLemmas.{eight_below, integers_read, any_numbers_read, decimals_read, years_read, bytes_read}

-- ---- what values the cells of a format have
pub record IsDateValue (v : CellValue) : Type 0 where
  pub day : Day
  pub clock : Clock
  pub small_day : IsSmallDay day
  pub small_clock : IsSmallClock clock
  pub is : v ≡ date day.year day.month day.day clock.hour clock.minute clock.second clock.micros

pub record IsSpanValue (v : CellValue) : Type 0 where
  pub negative : Bool
  pub days : ℕ
  pub hours : ℕ
  pub minutes : ℕ
  pub seconds : ℕ
  pub micros : ℕ
  pub few_days : days < 2 ^ 59
  pub few_hours : hours < 24
  pub few_minutes : minutes < 2 ^ 64
  pub few_seconds : seconds < 2 ^ 64
  pub few_micros : micros < 2 ^ 64
  pub is : v ≡ time negative days hours minutes seconds micros

pub record IsTimestampValue (v : CellValue) : Type 0 where
  pub seconds : ℤ
  pub micros : ℤ
  pub few_seconds : mag seconds < 2 ^ 31
  pub few_micros : mag micros < 2 ^ 63
  pub is : v ≡ bytes (timestamp_text (seconds, micros))

abbrev pub IsKnown : CellFormat → CellValue → Type 0
IsKnown (format.Signed w) v = (z : ℤ) × (v ≡ int z) × (mag z < 2 ^ 63)
IsKnown (format.Unsigned width.Eight) v = (n : ℕ) × (v ≡ uint n) × (n < 2 ^ 64)
IsKnown (format.Unsigned w) v = (n : ℕ) × (v ≡ int (pos n)) × (n < 2 ^ 32)
IsKnown format.Float v = (n : ℕ) × (v ≡ float n)
IsKnown format.Double v = (n : ℕ) × (v ≡ double n)
IsKnown format.Year v = (n : ℕ) × (n < 256) × (v ≡ bytes (decimal (1900 + n)))
IsKnown format.NewDate v = (d : Day) × IsSmallDay d × (v ≡ date d.year d.month d.day 0 0 0 0)
IsKnown format.OldTime v = IsSpanValue v
IsKnown format.OldDatetime v = IsDateValue v
IsKnown (format.Timestamp2 digits) v = IsTimestampValue v
IsKnown (format.Datetime2 digits) v = IsDateValue v
IsKnown (format.Time2 digits) v = IsSpanValue v
IsKnown (format.Decimal precision scale) v = (b : List ℕ) × (v ≡ bytes b)
IsKnown (format.Plain n) v = (b : List ℕ) × AreBytes b × (v ≡ bytes b)
IsKnown (format.Counted w) v = (b : List ℕ) × AreBytes b × (v ≡ bytes b)
IsKnown format.Json v = Unit {0}
IsKnown format.JsonDiffs v = Unit {0}
IsKnown format.NoMetadata v = Unit {0}
IsKnown format.NoCells v = Unit {0}

signed_small : (w : Width) (b : List ℕ) → AreBytes b → mag (little_signed (width_bytes w) b) < 2 ^ 63
signed_small width.One b h = omega (arith, signed_below 1 b h)
signed_small width.Two b h = omega (arith, signed_below 2 b h)
signed_small width.Three b h = omega (arith, signed_below 3 b h)
signed_small width.Four b h = omega (arith, signed_below 4 b h)
signed_small width.Eight b h = eight_below b h

abs_wrapped : (z : ℤ) → FitsSigned w64 z → unsigned_abs z < 2 ^ 64
abs_wrapped z h = omega (arith, nat_abs-le z h.sfits)

packed_small : (z : ℤ) → unsigned_abs z < 2 ^ 64 → IsDateValue (cell_date z)
packed_small z h = record {
  day = record { year = unsigned_abs z / 16777216 / 131072 / 32 / 13; month = unsigned_abs z / 16777216 / 131072 / 32 % 13; day = unsigned_abs z / 16777216 / 131072 % 32 };
  clock = record { hour = unsigned_abs z / 16777216 % 131072 / 4096; minute = unsigned_abs z / 16777216 % 131072 / 64 % 64; second = unsigned_abs z / 16777216 % 131072 % 64; micros = unsigned_abs z % 16777216 };
  small_day = record { year = omega (arith, h); month = omega arith; day = omega arith };
  small_clock = record { hour = omega arith; minute = omega arith; second = omega arith; micros = omega arith };
  is = refl;
}

span_small : (z : ℤ) → IsSpanValue (cell_time z)
span_small z =
    let hour = unsigned_abs z / 16777216 / 4096 % 1024 in
    record {
      negative = int_lt z (pos 0);
      days = hour / 24;
      hours = hour % 24;
      minutes = unsigned_abs z / 16777216 / 64 % 64;
      seconds = unsigned_abs z / 16777216 % 64;
      micros = unsigned_abs z % 16777216;
      few_days = omega arith;
      few_hours = omega arith;
      few_minutes = omega arith;
      few_seconds = omega arith;
      few_micros = omega arith;
      is = refl;
    }

old_span : (z : ℤ) → unsigned_abs z < 2 ^ 59 → IsSpanValue (old_time z)
old_span z h = record {
  negative = int_lt z (pos 0);
  days = unsigned_abs z / 10000 / 24;
  hours = unsigned_abs z / 10000 % 24;
  minutes = unsigned_abs z / 100 % 100;
  seconds = unsigned_abs z % 100;
  micros = 0;
  few_days = omega (arith, h);
  few_hours = omega arith;
  few_minutes = omega arith;
  few_seconds = omega arith;
  few_micros = omega arith;
  is = refl;
}

old_date : (n : ℕ) → IsDateValue (old_datetime n)
old_date n = record {
  day = record { year = n / 10 ^ 10 % 2 ^ 16; month = n / 10 ^ 8 % 100; day = n / 10 ^ 6 % 100 };
  clock = record { hour = n / 10 ^ 4 % 100; minute = n / 100 % 100; second = n % 100; micros = 0 };
  small_day = record { year = omega arith; month = omega arith; day = omega arith };
  small_clock = record { hour = omega arith; minute = omega arith; second = omega arith; micros = omega arith };
  is = refl;
}

abs_small : (z : ℤ) → mag z < 2 ^ 58 → unsigned_abs z < 2 ^ 59
abs_small z h = omega (arith, nat_abs-le z h)

decimal_known : (p s : ℕ) (o : Option (List ℕ)) → Gives (IsKnown (format.Decimal p s)) (decimal_value o)
decimal_known p s None = fails (IsKnown (format.Decimal p s)) BadDecimal
decimal_known p s (Some t) = given (IsKnown (format.Decimal p s)) (bytes t) (t, refl)

content_known : (f : CellFormat) (b : List ℕ) → AreBytes b → Gives (IsKnown f) (content_value f b)
content_known (format.Signed w) b h = given (IsKnown (format.Signed w)) (int (little_signed (width_bytes w) b)) (little_signed (width_bytes w) b, refl, signed_small w b h)
content_known (format.Unsigned width.Eight) b h = given (IsKnown (format.Unsigned width.Eight)) (uint (little_number 8 b)) (little_number 8 b, refl, omega (arith, little_below 8 b h))
content_known (format.Unsigned width.One) b h = given (IsKnown (format.Unsigned width.One)) (int (pos (little_number 1 b))) (little_number 1 b, refl, omega (arith, little_below 1 b h))
content_known (format.Unsigned width.Two) b h = given (IsKnown (format.Unsigned width.Two)) (int (pos (little_number 2 b))) (little_number 2 b, refl, omega (arith, little_below 2 b h))
content_known (format.Unsigned width.Three) b h = given (IsKnown (format.Unsigned width.Three)) (int (pos (little_number 3 b))) (little_number 3 b, refl, omega (arith, little_below 3 b h))
content_known (format.Unsigned width.Four) b h = given (IsKnown (format.Unsigned width.Four)) (int (pos (little_number 4 b))) (little_number 4 b, refl, omega (arith, little_below 4 b h))
content_known format.Float b h = given (IsKnown format.Float) (float (little_number 4 b)) (little_number 4 b, refl)
content_known format.Double b h = given (IsKnown format.Double) (double (little_number 8 b)) (little_number 8 b, refl)
content_known format.Year b h = given (IsKnown format.Year) (bytes (decimal (1900 + slice_index b 0))) (slice_index b 0, h 0, refl)
content_known format.NewDate b h =
    let n = little_number 3 b in
    given (IsKnown format.NewDate) (new_date n) (record { year = n / 2 ^ 9 % 2 ^ 16; month = n / 2 ^ 5 % 2 ^ 4; day = n % 2 ^ 5 }, record { year = omega arith; month = omega arith; day = omega arith }, refl)
content_known format.OldTime b h = given (IsKnown format.OldTime) (old_time (little_signed 3 b)) (old_span (little_signed 3 b) (abs_small (little_signed 3 b) (omega (arith, signed_below 3 b h))))
content_known format.OldDatetime b h = given (IsKnown format.OldDatetime) (old_datetime (little_number 8 b)) (old_date (little_number 8 b))
content_known (format.Timestamp2 digits) b h = given (IsKnown (format.Timestamp2 digits)) (bytes (timestamp_text (timestamp2 (fraction_len digits) b)))
    (let t = timestamp2 (fraction_len digits) b in let small = timestamp_small digits b h in record { seconds = t.0; micros = t.1; few_seconds = small.0; few_micros = small.1; is = refl })
content_known (format.Datetime2 digits) b h =
    let z = datetime2 (fraction_len digits) b in
    given (IsKnown (format.Datetime2 digits)) (cell_date z) (packed_small z (abs_wrapped z (SFits-int_wrap w64 _)))
content_known (format.Time2 digits) b h = given (IsKnown (format.Time2 digits)) (cell_time (time2 (fraction_len digits) b)) (span_small (time2 (fraction_len digits) b))
content_known (format.Decimal p s) b h = decimal_known p s (packed_text p s b)
content_known (format.Plain n) b h = given (IsKnown (format.Plain n)) (bytes b) (b, h, refl)
content_known (format.Counted w) b h = given (IsKnown (format.Counted w)) (bytes b) (b, h, refl)
content_known format.Json b h = record { each = λ x e. tt }
content_known format.JsonDiffs b h = record { each = λ x e. tt }
content_known format.NoMetadata b h = fails (IsKnown format.NoMetadata) Metadata
content_known format.NoCells b h = fails (IsKnown format.NoCells) Cell

abbrev pub KnownThen : CellFormat → CellValue × List ℕ → Type 0
KnownThen f x = IsKnown f x.0

pub cell_known : (f : CellFormat) (b : List ℕ) → AreBytes b → Gives (KnownThen f) (cell_at f b)
unfolding cell_at
cell_known f b h =
    next BothBytes (KnownThen f) (content_at (cell_size f) b) _ (size_gives (cell_size f) b h)
    (λ p q. next (IsKnown f) (KnownThen f) (content_value f p.0) _ (content_known f p.0 q.0) (λ v k. given (KnownThen f) (v, p.1) k))

-- ---- the law
from_equal : (s : Shown) (v w : CellValue) → v ≡ w → IsSameCell s v w
from_equal s v w e = subst (IsSameCell s v) e equal

date_of : (d e : Day) (c k : Clock) → (d ≡ e) × (c ≡ k) → date d.year d.month d.day c.hour c.minute c.second c.micros ≡ date e.year e.month e.day k.hour k.minute k.second k.micros
date_of d e c k p = ap₂ (λ (x : Day) (y : Clock). date x.year x.month x.day y.hour y.minute y.second y.micros) p.0 p.1

dates_same : (s : Shown) (digits : ℕ) (v w : CellValue) (x : List ℕ) (a : IsDateValue v) (b : IsDateValue w) → x ≡ shown_datetime digits a.day a.clock → x ≡ shown_datetime digits b.day b.clock → IsSameCell s v w
dates_same s digits v w x a b e f =
    from_equal s v w (a.is ∙ date_of a.day b.day a.clock b.clock (datetimes_read digits a.day b.day a.clock b.clock a.small_day b.small_day a.small_clock b.small_clock (sym e ∙ f)) ∙ sym b.is)

abbrev pub clock_in : ℕ → ℕ → ℕ → ℕ → ℕ → Clock
clock_in days hours minutes seconds micros = record { hour = 24 * days + hours; minute = minutes; second = seconds; micros = micros }

time_of : (m n : Bool) (d e h k i j s t u v : ℕ) → h < 24 → k < 24 → m ≡ n → clock_in d h i s u ≡ clock_in e k j t v → time m d h i s u ≡ time n e k j t v
time_of m n d e h k i j s t u v lh lk b c =
    let hours : 24 * d + h ≡ 24 * e + k = ap (λ (x : Clock). x.hour) c in
    let days : d ≡ e = omega (arith, hours, lh, lk) in
    let left : h ≡ k = omega (arith, hours, lh, lk) in
    let minutes : i ≡ j = ap (λ (x : Clock). x.minute) c in
    let seconds : s ≡ t = ap (λ (x : Clock). x.second) c in
    let micros : u ≡ v = ap (λ (x : Clock). x.micros) c in
    rw (b, days, left, minutes, seconds, micros) refl

spans_same : (s : Shown) (digits : ℕ) (v w : CellValue) (x : List ℕ) (a : IsSpanValue v) (b : IsSpanValue w) → x ≡ shown_duration digits a.negative (clock_in a.days a.hours a.minutes a.seconds a.micros) → x ≡ shown_duration digits b.negative (clock_in b.days b.hours b.minutes b.seconds b.micros)
    → IsSameCell s v w
spans_same s digits v w x a b e f =
    let one : IsSmallClock (clock_in a.days a.hours a.minutes a.seconds a.micros) = record { hour = omega (arith, a.few_days, a.few_hours); minute = a.few_minutes; second = a.few_seconds; micros = a.few_micros } in
    let two : IsSmallClock (clock_in b.days b.hours b.minutes b.seconds b.micros) = record { hour = omega (arith, b.few_days, b.few_hours); minute = b.few_minutes; second = b.few_seconds; micros = b.few_micros } in
    let p = durations_read digits a.negative b.negative (clock_in a.days a.hours a.minutes a.seconds a.micros) (clock_in b.days b.hours b.minutes b.seconds b.micros) one two (sym e ∙ f) in
    from_equal s v w (a.is ∙ time_of a.negative b.negative a.days b.days a.hours b.hours a.minutes b.minutes a.seconds b.seconds a.micros b.micros a.few_hours b.few_hours p.0 p.1 ∙ sym b.is)

no_instant : (s : Shown) → IsNoInstant s → s ≡ shown.Timestamp → ⊥
no_instant s h e = subst IsNoInstant e h

small_numbers : (c : ColumnView) (v w : CellValue) (x : List ℕ) (m n : ℕ) → AreMembers c.members → v ≡ int (pos m) → w ≡ int (pos n) → m < 2 ^ 32 → n < 2 ^ 32 → IsIntegerJson c (pos m) x → IsIntegerJson c (pos n) x → IsSameCell c.shown v w
unfolding IsIntegerJson
small_numbers c v w x m n a p q lm ln e f =
    from_equal c.shown v w (p ∙ ap (λ (k : ℕ). int (pos k)) (any_numbers_read c.shown c.members m n x a (omega (arith, lm)) (omega (arith, ln)) (λ t. (lm, ln)) e f) ∙ sym q)

pub by_format : (c : ColumnView) (f : CellFormat) (v w : CellValue) (x : List ℕ) → IsFormatOf c.shown f → AreMembers c.members → IsKnown f v → IsKnown f w → IsCellJson c f v x → IsCellJson c f w x → IsSameCell c.shown v w
unfolding IsCellJson IsBytesJson date_shown
by_format c (format.Signed w) u v x p a k l e f =
    from_equal c.shown u v (k.1 ∙ ap int (integers_read c k.0 l.0 x p k.2 l.2 (subst (λ (y : CellValue). IsCellJson c (format.Signed w) y x) k.1 e) (subst (λ (y : CellValue). IsCellJson c (format.Signed w) y x) l.1 f)) ∙ sym l.1)
by_format c (format.Unsigned width.Eight) u v x p a k l e f =
    from_equal c.shown u v (k.1 ∙ ap uint (any_numbers_read c.shown c.members k.0 l.0 x a k.2 l.2 (λ t. absurd (no_instant c.shown p t)) (subst (λ (y : CellValue). IsCellJson c (format.Unsigned width.Eight) y x) k.1 e) (subst (λ (y : CellValue). IsCellJson c (format.Unsigned width.Eight) y x) l.1 f)) ∙ sym l.1)
by_format c (format.Unsigned width.One) u v x p a k l e f = small_numbers c u v x k.0 l.0 a k.1 l.1 k.2 l.2 (subst (λ (y : CellValue). IsCellJson c (format.Unsigned width.One) y x) k.1 e) (subst (λ (y : CellValue). IsCellJson c (format.Unsigned width.One) y x) l.1 f)
by_format c (format.Unsigned width.Two) u v x p a k l e f = small_numbers c u v x k.0 l.0 a k.1 l.1 k.2 l.2 (subst (λ (y : CellValue). IsCellJson c (format.Unsigned width.Two) y x) k.1 e) (subst (λ (y : CellValue). IsCellJson c (format.Unsigned width.Two) y x) l.1 f)
by_format c (format.Unsigned width.Three) u v x p a k l e f = small_numbers c u v x k.0 l.0 a k.1 l.1 k.2 l.2 (subst (λ (y : CellValue). IsCellJson c (format.Unsigned width.Three) y x) k.1 e) (subst (λ (y : CellValue). IsCellJson c (format.Unsigned width.Three) y x) l.1 f)
by_format c (format.Unsigned width.Four) u v x p a k l e f = small_numbers c u v x k.0 l.0 a k.1 l.1 k.2 l.2 (subst (λ (y : CellValue). IsCellJson c (format.Unsigned width.Four) y x) k.1 e) (subst (λ (y : CellValue). IsCellJson c (format.Unsigned width.Four) y x) l.1 f)
by_format c format.Float u v x p a k l e f =
    rw (k.1, l.1) (floats (float_read _ _ _ _ _ x (subst (λ (y : CellValue). IsCellJson c format.Float y x) k.1 e) (subst (λ (y : CellValue). IsCellJson c format.Float y x) l.1 f)))
by_format c format.Double u v x p a k l e f =
    rw (k.1, l.1) (doubles (float_read _ _ _ _ _ x (subst (λ (y : CellValue). IsCellJson c format.Double y x) k.1 e) (subst (λ (y : CellValue). IsCellJson c format.Double y x) l.1 f)))
by_format c format.Year u v x p a k l e f =
    from_equal c.shown u v (k.2 ∙ ap bytes (years_read k.0 l.0 (decimal (1900 + k.0)) (decimal (1900 + l.0)) x k.1 l.1 refl refl (subst (λ (y : CellValue). IsCellJson c format.Year y x) k.2 e) (subst (λ (y : CellValue). IsCellJson c format.Year y x) l.2 f)) ∙ sym l.2)
by_format c format.NewDate u v x p a k l e f =
    let day = dates_read k.0 l.0 k.1 l.1 (sym (subst (λ (y : CellValue). IsCellJson c format.NewDate y x) k.2 e) ∙ subst (λ (y : CellValue). IsCellJson c format.NewDate y x) l.2 f) in
    from_equal c.shown u v (k.2 ∙ ap (λ (d : Day). date d.year d.month d.day 0 0 0 0) day ∙ sym l.2)
by_format c format.OldTime u v x p a k l e f = spans_same c.shown 0 u v x k l (subst (λ (y : CellValue). IsCellJson c format.OldTime y x) k.is e) (subst (λ (y : CellValue). IsCellJson c format.OldTime y x) l.is f)
by_format c format.OldDatetime u v x p a k l e f = dates_same c.shown 0 u v x k l (subst (λ (y : CellValue). IsCellJson c format.OldDatetime y x) k.is e) (subst (λ (y : CellValue). IsCellJson c format.OldDatetime y x) l.is f)
by_format c (format.Timestamp2 digits) u v x p a k l e f =
    let same = timestamps_read digits k.seconds k.micros l.seconds l.micros (timestamp_text (k.seconds, k.micros)) (timestamp_text (l.seconds, l.micros)) x k.few_seconds k.few_micros l.few_seconds l.few_micros refl refl
    (subst (λ (y : CellValue). IsCellJson c (format.Timestamp2 digits) y x) k.is e) (subst (λ (y : CellValue). IsCellJson c (format.Timestamp2 digits) y x) l.is f) in
    from_equal c.shown u v (k.is ∙ ap bytes same ∙ sym l.is)
by_format c (format.Datetime2 digits) u v x p a k l e f = dates_same c.shown digits u v x k l (subst (λ (y : CellValue). IsCellJson c (format.Datetime2 digits) y x) k.is e) (subst (λ (y : CellValue). IsCellJson c (format.Datetime2 digits) y x) l.is f)
by_format c (format.Time2 digits) u v x p a k l e f = spans_same c.shown digits u v x k l (subst (λ (y : CellValue). IsCellJson c (format.Time2 digits) y x) k.is e) (subst (λ (y : CellValue). IsCellJson c (format.Time2 digits) y x) l.is f)
by_format c (format.Decimal i j) u v x p a k l e f =
    from_equal c.shown u v (k.1 ∙ ap bytes (decimals_read k.0 l.0 x (subst (λ (y : CellValue). IsCellJson c (format.Decimal i j) y x) k.1 e) (subst (λ (y : CellValue). IsCellJson c (format.Decimal i j) y x) l.1 f)) ∙ sym l.1)
by_format c (format.Plain n) u v x p a k l e f =
    rw (k.2, l.2) (bytes_read c.shown c.members k.0 l.0 x p k.1 l.1 (subst (λ (y : CellValue). IsCellJson c (format.Plain n) y x) k.2 e) (subst (λ (y : CellValue). IsCellJson c (format.Plain n) y x) l.2 f))
by_format c (format.Counted n) u v x p a k l e f =
    rw (k.2, l.2) (bytes_read c.shown c.members k.0 l.0 x p k.1 l.1 (subst (λ (y : CellValue). IsCellJson c (format.Counted n) y x) k.2 e) (subst (λ (y : CellValue). IsCellJson c (format.Counted n) y x) l.2 f))
by_format c format.Json u v x p a k l e f = absurd p
by_format c format.JsonDiffs u v x p a k l e f = absurd p
by_format c format.NoMetadata u v x p a k l e f = absurd p
by_format c format.NoCells u v x p a k l e f = absurd p

pub cells_law : (c : ColumnView) (f : CellFormat) (a b r s x : List ℕ) (v w : CellValue) → IsFormatOf c.shown f → AreMembers c.members → AreBytes a → AreBytes b → cell_at f a ≡ Ok (v, r) → cell_at f b ≡ Ok (w, s)
    → IsCellJson c f v x → IsCellJson c f w x → IsSameCell c.shown v w
cells_law c f a b r s x v w p m h k read found e g = by_format c f v w x p m ((cell_known f a h).each (v, r) read) ((cell_known f b k).each (w, s) found) e g
