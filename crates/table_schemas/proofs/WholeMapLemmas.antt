-- A completed table map is a whole event.
use Rattle.std.proofs.Common.{◌≡◌, ℕ, ◌+◌, ◌-◌, ◌<◌, ◌≤◌, ◌^◌, Bool, true, false, List, ◌++◌, length, take, drop, Option, Some, None, refl, sym, ap, ◌∙◌, append_assoc, arith, leb}
use Rattle.std.specs.Prelude.{◌&&◌, ◌==◌, not}
use Rattle.std.proofs.lemmas.Bool.{leb-true}
use Rattle.std.proofs.lemmas.List.{length-append, length-take-le}
use Rattle.std.proofs.Math.ListN.{length-drop}
use Rattle.std.proofs.Math.Seq.{drop-append_seam}
use Rattle.byteorder.specs.Endian.{little_bytes, little_number}
use Rattle.byteorder.specs.Numbers.{little_number-reads_back}
use Rattle.crc32.specs.Checksums.{crc32_of}
use Rattle.events_frames.specs.Events.{header_size_field, IsWholeEvent}
use Rattle.events_frames.proofs.SourceLemmas.{sizes}
use Rattle.events_replaced.proofs.UnpackLemmas.{whole_by}
use Rattle.table_schemas.specs.CompletedMaps.{Tables, before_checksum, completed_by, completed_if_checked, is_lengthened, lengthened, missing_fields, with_more}
use Rattle.table_schemas.specs.CompletedEvents.{completed_event}
use Rattle.table_schemas.specs.MysqlEvents.{is_table_map}

module _ (event more : List ℕ) (long : 19 ≤ length event) (n : ℕ) (fits : n < 2 ^ 32) where
  first_len : length (take 9 event) ≡ 9
  first_len = length-take-le 9 event (omega (arith, long))

  sized : (after : List ℕ) → header_size_field (take 9 event ++ (little_bytes 4 n ++ after)) ≡ n
  sized after =
      ap (λ (k : ℕ). little_number 4 (drop k (take 9 event ++ (little_bytes 4 n ++ after)))) (sym first_len)
      ∙ ap (little_number 4) (drop-append_seam (take 9 event) (little_bytes 4 n ++ after))
      ∙ little_number-reads_back 4 n after fits

  sized_before : (sum : List ℕ) → header_size_field ((take 9 event ++ (little_bytes 4 n ++ (drop 13 event ++ more))) ++ sum) ≡ n
  sized_before sum =
      ap header_size_field (append_assoc (take 9 event) (little_bytes 4 n ++ (drop 13 event ++ more)) sum ∙ ap (λ (l : List ℕ). take 9 event ++ l) (append_assoc (little_bytes 4 n) (drop 13 event ++ more) sum))
      ∙ sized ((drop 13 event ++ more) ++ sum)

  as_long : length (take 9 event ++ (little_bytes 4 n ++ (drop 13 event ++ more))) ≡ length event + length more
  as_long = omega (arith, length-append (take 9 event) (little_bytes 4 n ++ (drop 13 event ++ more)), length-append (little_bytes 4 n) (drop 13 event ++ more), length-append (drop 13 event) more, first_len, length-drop 13 event, long)

-- an event with more bytes
pub longer_whole : (has_checksum : Bool) (event more : List ℕ) → 19 ≤ length event → length event + length more ≤ 4294967291 → IsWholeEvent (with_more has_checksum event more)
longer_whole true event more long few =
    let n = length event + length more + 4 in
    let fits : n < 2 ^ 32 = omega (arith, few) in
    let sum = little_bytes 4 (crc32_of (lengthened true event more)) in
    whole_by (lengthened true event more ++ sum) n (sized_before event more long n fits sum) (omega (arith, length-append (lengthened true event more) sum, as_long event more long n fits)) (omega (arith, long))
longer_whole false event more long few =
    let n = length event + length more + 0 in
    let fits : n < 2 ^ 32 = omega (arith, few) in
    whole_by (lengthened false event more) n (sized event more long n fits (drop 13 event ++ more)) (omega (arith, as_long event more long n fits)) (omega (arith, long))

second : (a b : Bool) → (a && b) ≡ true → b ≡ true
second true b h = h
second false b h = absurd (let e = h in cc)

either_whole : (has_checksum : Bool) (event bytes more : List ℕ) → 19 ≤ length bytes → IsWholeEvent event → (is : Bool) → is_lengthened bytes more ≡ is → IsWholeEvent (completed_by has_checksum event bytes more)
either_whole has_checksum event bytes more long whole true is =
    rw is (longer_whole has_checksum bytes more long (leb-true (length bytes + length more) 4294967291 (second (not (length more == 0)) (leb (length bytes + length more) 4294967291) is)))
either_whole has_checksum event bytes more long whole false is = rw is whole

pub long_before : (has_checksum : Bool) (event bytes : List ℕ) → 19 ≤ length event → before_checksum has_checksum event ≡ Some bytes → 19 ≤ length bytes
long_before false event bytes long is = rw (let e : event ≡ bytes = (let s = is in cc) in sym e) long
long_before true event bytes long is = by (leb 23 (length event) && (crc32_of (take (length event - 4) event) == little_number 4 (drop (length event - 4) event))) refl
  where
    by : (b : Bool) → (leb 23 (length event) && (crc32_of (take (length event - 4) event) == little_number 4 (drop (length event - 4) event))) ≡ b → 19 ≤ length bytes
    by true e =
        let fits : 23 ≤ length event = leb-true 23 (length event) (first_of (leb 23 (length event)) _ e) in
        let same : take (length event - 4) event ≡ bytes = (let s = rw e at is in cc) in
        rw (sym same) (omega (arith, fits, length-take-le (length event - 4) event (omega arith)))
      where
        first_of : (a b : Bool) → (a && b) ≡ true → a ≡ true
        first_of true b h = refl
        first_of false b h = h
    by false e = absurd (let s = rw e at is in cc)

completed_whole : (tables : Tables) (has_checksum : Bool) (event : List ℕ) → IsWholeEvent event → (o : Option (List ℕ)) → before_checksum has_checksum event ≡ o → IsWholeEvent (completed_if_checked tables has_checksum event o)
completed_whole tables has_checksum event whole None is = whole
completed_whole tables has_checksum event whole (Some bytes) is = either_whole has_checksum event bytes (missing_fields tables bytes) (long_before has_checksum event bytes (sizes event whole.whole).0 is) whole (is_lengthened bytes (missing_fields tables bytes)) refl

-- what is given for a whole event
pub given_whole : (tables : Tables) (has_checksum : Bool) (event : List ℕ) → IsWholeEvent event → IsWholeEvent (completed_event tables has_checksum event)
given_whole tables has_checksum event whole = by (is_table_map event) refl
  where
    by : (b : Bool) → is_table_map event ≡ b → IsWholeEvent (completed_event tables has_checksum event)
    by true e = rw e (completed_whole tables has_checksum event whole (before_checksum has_checksum event) refl)
    by false e = rw e whole
