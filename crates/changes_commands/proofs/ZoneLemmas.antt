-- Time zones, and times in them.
use Rattle.std.proofs.Common.{◌≡◌, ℕ, Bool, false, List, Option, Some, None, refl, sym, ap, ◌∙◌, subst}
use Rattle.std.specs.Prelude.{◌↔◌, ℤ, pos, codes, Result, Ok, Err, IsOk, IfOk, IfSome, IfNone, if◌then◌else◌}
use Rattle.std.specs.Result.{result_ok}
use Rattle.std.specs.Str.{bytes_eq}
use Rattle.std.specs.Borrow.{Bor}
use Rattle.jiff.specs.Words.{compatible_offset, datetime_view, instant_of, parse_datetime, IsInstantAt, IsTimestampNanos}
use Rattle.jiff_core.specs.declared.Timestamp.{Timestamp}
use Rattle.jiff_core.specs.declared.civil.datetime.DateTime.{DateTime}
use Rattle.jiff_core.specs.declared.error.Error.{Error}
use Rattle.jiff_tz.specs.Tzif.{ambiguous_at}
use Rattle.jiff_tz.specs.Zone as zone_at
use Rattle.jiff_tz.specs.declared.ambiguous.AmbiguousOffset.{AmbiguousOffset}
use Rattle.jiff_tz.specs.declared.timezone.TimeZone.{TimeZone}
use Rattle.jiff_tz.specs.declared.timezone.TimeZone.TheVariants as zone
use Rattle.jiff_tz.specs.declared.tzif.Tzif.{Tzif}
use Rattle.changes_commands.specs.declared.time_zone.Zone.{Zone}
use Rattle.changes_commands.specs.declared.time_zone.Zone.TheVariants.{Fixed, Table}
use Rattle.changes_commands.specs.TimeZones.{fixed_offset, instant_in, offset_seconds, seconds_since_1970, IsNamed, IsSecondsOf, IsTableNamed}

pub no_offset : (name : List ℕ) → bytes_eq name (codes "UTC") ≡ false → offset_seconds name ≡ None → fixed_offset name ≡ None
no_offset name e f = ap (λ (b : Bool). if b then Some (pos 0) else offset_seconds name) e ∙ f

-- a name that isn't an offset
pub named_table : (name : List ℕ) (r : Result Zone Error) → fixed_offset name ≡ None → IsTableNamed name r → IsNamed name r
named_table name (Ok (Fixed o)) e h = absurd h
named_table name (Ok (Table t)) e h = (e, h)
named_table name (Err f) e h = (e, h)

-- ---- times
pub no_time : (z : Zone) (text : List ℕ) (r : Result DateTime Error) → datetime_view r ≡ parse_datetime text → result_ok r ≡ None → IsSecondsOf z text None
no_time z text (Err e) v n = (Err e, v, refl)
no_time z text (Ok t) v n = absurd cc

pub out_of_range : (z : Zone) (text : List ℕ) (r : Result DateTime Error) (time : DateTime) → datetime_view r ≡ parse_datetime text → result_ok r ≡ Some time → (IsTimestampNanos (instant_in z time) → ⊥) → IsSecondsOf z text None
out_of_range z text (Err e) time v s n = absurd cc
out_of_range z text (Ok t) time v s n = (Ok t, v, λ h. let same : time ≡ t = cc in n (subst (λ (u : DateTime). IsTimestampNanos (instant_in z u)) (sym same) h))

pub in_range : (z : Zone) (text : List ℕ) (r : Result DateTime Error) (time : DateTime) (n : ℤ) (s : ℕ) → datetime_view r ≡ parse_datetime text → result_ok r ≡ Some time → n ≡ instant_in z time → s ≡ seconds_since_1970 n → IsSecondsOf z text (Some s)
in_range z text (Err e) time n s v is f g = absurd cc
in_range z text (Ok t) time n s v is f g = (Ok t, v, (let same : time ≡ t = cc in g ∙ ap seconds_since_1970 f ∙ ap (λ (u : DateTime). seconds_since_1970 (instant_in z u)) same))

-- ---- whole seconds
pub none_then : (r : Option ℕ) (z : Zone) (text : List ℕ) → r ≡ None → IsSecondsOf z text None → IsSecondsOf z text r
none_then r z text e h = subst (IsSecondsOf z text) (sym e) h

-- ---- instants by a table
table_offsets : (w : TimeZone) (b : Bor Tzif) (time : DateTime) → w ≡ zone.Tzif b → zone_at.ambiguous_at w time ≡ ambiguous_at b.now time
unfolding zone_at.ambiguous_at
table_offsets w b time e = rw e refl

read_by : (o : Option Timestamp) (n : ℤ) (r : Result Timestamp Error) → IsOk r ↔ IsTimestampNanos n → IfOk r (λ t. t.nanosecond ≡ n) → o ≡ result_ok r → IfSome o (λ t. t.nanosecond ≡ n) × IfNone o (IsTimestampNanos n → ⊥)
read_by (Some t) n (Ok u) i v e = ((let same : t ≡ u = cc in ap (λ (x : Timestamp). x.nanosecond) same ∙ v), tt)
read_by (Some t) n (Err f) i v e = absurd cc
read_by None n (Ok u) i v e = absurd cc
read_by None n (Err f) i v e = (tt, λ h. absurd (let ok = i.1 h in cc))

pub table_read : (z : Zone) (t : Tzif) (w : TimeZone) (b : Bor Tzif) (time : DateTime) (r : Result Timestamp Error) (o : Option Timestamp) → z ≡ Table t → w ≡ zone.Tzif b → b.now ≡ t → IsInstantAt time (compatible_offset (zone_at.ambiguous_at w time)) r → o ≡ result_ok r
    → IfSome o (λ x. x.nanosecond ≡ instant_in z time) × IfNone o (IsTimestampNanos (instant_in z time) → ⊥)
table_read z t w b time r o is e f h k =
    let same : instant_of time (compatible_offset (zone_at.ambiguous_at w time)) ≡ instant_in (Table t) time = ap (λ (a : AmbiguousOffset). instant_of time (compatible_offset a)) (table_offsets w b time e ∙ ap (λ (x : Tzif). ambiguous_at x time) f) in
    let there : instant_of time (compatible_offset (zone_at.ambiguous_at w time)) ≡ instant_in z time = same ∙ ap (λ (x : Zone). instant_in x time) (sym is) in
    let read = read_by o (instant_of time (compatible_offset (zone_at.ambiguous_at w time))) r h.succeeds h.value k in
    subst (λ (n : ℤ). IfSome o (λ x. x.nanosecond ≡ n) × IfNone o (IsTimestampNanos n → ⊥)) there read
