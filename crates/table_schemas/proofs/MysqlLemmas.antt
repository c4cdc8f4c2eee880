-- A table map as MySQL's servers write it is a whole event of the same type.
use Rattle.std.proofs.Common.{◌≡◌, ℕ, ◌+◌, ◌-◌, ◌<◌, ◌≤◌, Bool, true, false, List, ◌++◌, length, take, drop, Option, Some, None, refl, sym, ap, subst, ◌∙◌, append_assoc, arith}
use Rattle.std.specs.Prelude.{◌==◌, ◌&&◌, nat_le, if◌then◌else◌}
use Rattle.std.proofs.lemmas.Bool.{eqb-true, leb-true}
use Rattle.std.proofs.lemmas.List.{length-append, length-take-le, take-append-drop}
use Rattle.std.proofs.Math.ListN.{length-drop}
use lib.Seq.{drop-append-le}
use Rattle.byteorder.specs.Endian.{little_bytes, little_number}
use Rattle.byteorder.specs.Numbers.{little_from-append}
use Rattle.crc32.specs.Checksums.{crc32_of}
use Rattle.events_frames.specs.Events.{IsWholeEvent}
use Rattle.events_frames.specs.HeaderFields.{header_field}
use Rattle.events_frames.proofs.SourceLemmas.{sizes}
use Rattle.events_replaced.specs.GivenReplacements.{checksums_after, is_description}
use Rattle.table_schemas.specs.YearSigns.{Signs, mysql_fields, year_signs}
use Rattle.table_schemas.specs.CompletedMaps.{before_checksum, checksum_len, lengthened, with_more}
use Rattle.table_schemas.specs.MysqlEvents.{is_table_map, mysql_event}
use Rattle.table_schemas.specs.MysqlTableMaps.{before_fields, described_after, mysql_if_checked, mysql_if_short, mysql_if_signs, mysql_map, mysql_map_in, unsummed}
use Rattle.table_schemas.specs.declared.described.Described.{Described}
use Rattle.table_schemas.proofs.WholeMapLemmas.{long_before, longer_whole}

-- ---- the type of an event

type_first : (a b : List ℕ) → 5 ≤ length a → header_field 4 1 (a ++ b) ≡ header_field 4 1 a
type_first a b long = ap (little_number 1) (drop-append-le 4 a b (omega arith)) ∙ little_from-append 1 (drop 4 a) b (omega (arith, length-drop 4 a))

type_taken : (n : ℕ) (l : List ℕ) → 5 ≤ n → n ≤ length l → header_field 4 1 (take n l) ≡ header_field 4 1 l
type_taken n l low within = sym (type_first (take n l) (drop n l) (omega (arith, length-take-le n l within))) ∙ ap (header_field 4 1) (take-append-drop n l)

-- with more bytes
type_longer : (has_checksum : Bool) (event more : List ℕ) → 19 ≤ length event → header_field 4 1 (with_more has_checksum event more) ≡ header_field 4 1 event
type_longer true event more long =
    let after = little_bytes 4 (length event + length more + 4) ++ (drop 13 event ++ more) in
    let sum = little_bytes 4 (crc32_of (lengthened true event more)) in
    ap (header_field 4 1) (append_assoc (take 9 event) after sum)
    ∙ type_first (take 9 event) (after ++ sum) (omega (arith, length-take-le 9 event (omega arith)))
    ∙ type_taken 9 event (omega arith) (omega arith)
type_longer false event more long =
    type_first (take 9 event) (little_bytes 4 (length event + length more + 0) ++ (drop 13 event ++ more)) (omega (arith, length-take-le 9 event (omega arith)))
    ∙ type_taken 9 event (omega arith) (omega arith)

-- ---- what is kept of an event

record Keeps (event x : List ℕ) : Type 0 where
  pub long : 19 ≤ length x
  pub type_is : header_field 4 1 x ≡ header_field 4 1 event

keeps_itself : (event : List ℕ) → 19 ≤ length event → Keeps event event
keeps_itself event long = record { long = long; type_is = refl }

sized_long : (event more : List ℕ) (n : ℕ) → 19 ≤ length event → 19 ≤ length (take 9 event ++ (little_bytes 4 n ++ (drop 13 event ++ more)))
sized_long event more n long =
    omega (arith, length-append (take 9 event) (little_bytes 4 n ++ (drop 13 event ++ more)), length-append (little_bytes 4 n) (drop 13 event ++ more), length-append (drop 13 event) more, length-take-le 9 event (omega (arith, long)), length-drop 13 event, long)

longer_long : (has_checksum : Bool) (event more : List ℕ) → 19 ≤ length event → 19 ≤ length (with_more has_checksum event more)
longer_long true event more long =
    let n = length event + length more + 4 in
    omega (arith, length-append (lengthened true event more) (little_bytes 4 (crc32_of (lengthened true event more))), sized_long event more n long)
longer_long false event more long = sized_long event more (length event + length more + 0) long

before_long : (bytes : List ℕ) (s : Signs) → 19 ≤ length bytes → 19 ≤ length (before_fields bytes s)
before_long bytes s long =
    let n = 19 + (length (drop 19 bytes) - length s.fields) in
    omega (arith, length-take-le n bytes (omega (arith, length-drop 19 bytes)))

before_type : (bytes : List ℕ) (s : Signs) → 19 ≤ length bytes → header_field 4 1 (before_fields bytes s) ≡ header_field 4 1 bytes
before_type bytes s long =
    let n = 19 + (length (drop 19 bytes) - length s.fields) in
    type_taken n bytes (omega arith) (omega (arith, length-drop 19 bytes))

unsummed_type : (has_checksum : Bool) (event bytes : List ℕ) → 19 ≤ length event → before_checksum has_checksum event ≡ Some bytes → header_field 4 1 bytes ≡ header_field 4 1 event
unsummed_type false event bytes long is = ap (header_field 4 1) (let e : bytes ≡ event = (let s = is in cc) in e)
unsummed_type true event bytes long is = by (nat_le 23 (length event) && (crc32_of (take (length event - 4) event) == little_number 4 (drop (length event - 4) event))) refl
  where
    first_of : (a b : Bool) → (a && b) ≡ true → a ≡ true
    first_of true b h = refl
    first_of false b h = h

    by : (b : Bool) → (nat_le 23 (length event) && (crc32_of (take (length event - 4) event) == little_number 4 (drop (length event - 4) event))) ≡ b → header_field 4 1 bytes ≡ header_field 4 1 event
    by true e =
        let fits : 23 ≤ length event = leb-true 23 (length event) (first_of (nat_le 23 (length event)) _ e) in
        let same : bytes ≡ take (length event - 4) event = (let s = rw e at is in cc) in
        ap (header_field 4 1) same ∙ type_taken (length event - 4) event (omega arith) (omega arith)
    by false e = absurd (let s = rw e at is in cc)

keeps_short : (has_checksum : Bool) (event before fields : List ℕ) → 19 ≤ length event → 19 ≤ length before → header_field 4 1 before ≡ header_field 4 1 event → Keeps event (mysql_if_short has_checksum event before fields)
keeps_short has_checksum event before fields long before_is type_is = by (nat_le (length before + length fields) 4294967291) refl
  where
    by : (b : Bool) → nat_le (length before + length fields) 4294967291 ≡ b → Keeps event (mysql_if_short has_checksum event before fields)
    by true e = rw e (record { long = longer_long has_checksum before fields before_is; type_is = type_longer has_checksum before fields before_is ∙ type_is })
    by false e = rw e (keeps_itself event long)

keeps_checked : (has_checksum : Bool) (event : List ℕ) (s : Signs) → 19 ≤ length event → (o : Option (List ℕ)) → before_checksum has_checksum event ≡ o → Keeps event (mysql_if_checked has_checksum event s o)
keeps_checked has_checksum event s long None is = keeps_itself event long
keeps_checked has_checksum event s long (Some bytes) is =
    let long_bytes = long_before has_checksum event bytes long is in
    keeps_short has_checksum event (before_fields bytes s) (mysql_fields s) long (before_long bytes s long_bytes) (before_type bytes s long_bytes ∙ unsummed_type has_checksum event bytes long is)

keeps_by : (has_checksum : Bool) (event : List ℕ) → 19 ≤ length event → (o : Option Signs) → Keeps event (mysql_if_signs has_checksum event o)
keeps_by has_checksum event long None = keeps_itself event long
keeps_by has_checksum event long (Some s) = keeps_checked has_checksum event s long (before_checksum has_checksum event) refl

keeps_map : (d : Described) (event : List ℕ) → 19 ≤ length event → (is : Bool) → d.is_mariadb ≡ is → Keeps event (mysql_map_in d event)
keeps_map d event long true e = rw e (keeps_by d.has_checksum event long (year_signs (drop 19 (unsummed d.has_checksum event))))
keeps_map d event long false e = rw e (keeps_itself event long)

-- a table map
pub map_long : (d : Described) (event : List ℕ) → 19 ≤ length event → 19 ≤ length (mysql_map_in d event)
map_long d event long = (keeps_map d event long d.is_mariadb refl).long

pub map_type : (d : Described) (event : List ℕ) → 19 ≤ length event → header_field 4 1 (mysql_map_in d event) ≡ header_field 4 1 event
map_type d event long = (keeps_map d event long d.is_mariadb refl).type_is

-- ---- it is whole

whole_short : (has_checksum : Bool) (event before fields : List ℕ) → IsWholeEvent event → 19 ≤ length before → (is : Bool) → nat_le (length before + length fields) 4294967291 ≡ is → IsWholeEvent (mysql_if_short has_checksum event before fields)
whole_short has_checksum event before fields whole long true e = rw e (longer_whole has_checksum before fields long (leb-true (length before + length fields) 4294967291 e))
whole_short has_checksum event before fields whole long false e = rw e whole

whole_checked : (has_checksum : Bool) (event : List ℕ) (s : Signs) → IsWholeEvent event → (o : Option (List ℕ)) → before_checksum has_checksum event ≡ o → IsWholeEvent (mysql_if_checked has_checksum event s o)
whole_checked has_checksum event s whole None is = whole
whole_checked has_checksum event s whole (Some bytes) is =
    let long = before_long bytes s (long_before has_checksum event bytes (sizes event whole.whole).0 is) in
    whole_short has_checksum event (before_fields bytes s) (mysql_fields s) whole long (nat_le (length (before_fields bytes s) + length (mysql_fields s)) 4294967291) refl

whole_by_signs : (has_checksum : Bool) (event : List ℕ) → IsWholeEvent event → (o : Option Signs) → IsWholeEvent (mysql_if_signs has_checksum event o)
whole_by_signs has_checksum event whole None = whole
whole_by_signs has_checksum event whole (Some s) = whole_checked has_checksum event s whole (before_checksum has_checksum event) refl

whole_map : (d : Described) (event : List ℕ) → IsWholeEvent event → (is : Bool) → d.is_mariadb ≡ is → IsWholeEvent (mysql_map_in d event)
whole_map d event whole true e = rw e (whole_by_signs d.has_checksum event whole (year_signs (drop 19 (unsummed d.has_checksum event))))
whole_map d event whole false e = rw e whole

pub mysql_whole : (d : Described) (event : List ℕ) → IsWholeEvent event → IsWholeEvent (mysql_event d event)
mysql_whole d event whole = by (is_table_map event) refl
  where
    by : (b : Bool) → is_table_map event ≡ b → IsWholeEvent (mysql_event d event)
    by true e = rw e (whole_map d event whole d.is_mariadb refl)
    by false e = rw e whole

-- ---- what is known after it

not_description : (n : ℕ) → (n == 19) ≡ true → (n == 15) ≡ false
not_description n e = rw (eqb-true n 19 e) refl

-- it announces no checksums that its own doesn't
pub mysql_checksums : (before : Bool) (d : Described) (event : List ℕ) → 19 ≤ length event → checksums_after before (mysql_event d event) ≡ checksums_after before event
mysql_checksums before d event long = by (is_table_map event) refl
  where
    by : (b : Bool) → is_table_map event ≡ b → checksums_after before (mysql_event d event) ≡ checksums_after before event
    by true e = rw (e, map_type d event long, not_description (header_field 4 1 event) e) refl
    by false e = rw e refl

pub described_checksums : (d : Described) (event : List ℕ) → (described_after d event).has_checksum ≡ checksums_after d.has_checksum event
described_checksums d event = by (is_description event) refl
  where
    by : (b : Bool) → is_description event ≡ b → (described_after d event).has_checksum ≡ checksums_after d.has_checksum event
    by true e = rw e refl
    by false e = rw e refl

-- a table map describes no log
pub described_same : (d : Described) (event : List ℕ) → is_table_map event ≡ true → described_after d event ≡ d
described_same d event e = rw (not_description (header_field 4 1 event) e) refl
