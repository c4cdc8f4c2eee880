-- Laws about table maps: which are written completely, and what `==` means for them.
use Rattle.std.proofs.Common.{◌≡◌, ◌≤◌, ◌+◌, ℕ, List, length, refl, subst, ap, arith}
use Rattle.std.proofs.lemmas.List.{take_all}
use Rattle.std.proofs.lemmas.Bool.Decides.{Decides-like, Decides-and, Decides-eqb}
use Rattle.std.specs.Bool.{Decides}
use Rattle.std.specs.Prelude.{slice_index}
use lib.Pointwise.{bytes_decides}
use Rattle.wire_buf.specs.Encoding.{◌⨾◌, AreBytes}
use Rattle.wire_buf.specs.Numbers.{IsShortString}
use Rattle.wire_buf.proofs.WritingLemmas.{AreBytes-prefix, AreBytes-suffix}
use Rattle.wire_fields.specs.RawTexts.{raw_string}
use Rattle.rows_table_map.specs.TableMaps.{TableMap, IsTableMap, written_map}
use Rattle.rows_table_map.specs.MapViews.{map_of}
use Rattle.rows_table_map.proofs.EqualityLemmas.{true_decides}
use Rattle.rows_table_map.specs.contracts.table_map.TableMapEventPartialEq.TheImpl.{ghosts as map_equality}
use Rattle.rows_table_map.specs.declared.table_map.TableMapEvent.{TableMapEvent}

-- what holds for all bytes of two parts holds for those of each
pub first_bytes : {p q : List ℕ → List ℕ → Type 0} {bytes rest : List ℕ} (h : (p ⨾ q) bytes rest) → AreBytes bytes → AreBytes h.prefix
first_bytes h are = AreBytes-prefix h.prefix h.suffix (subst AreBytes h.joined are)

pub second_bytes : {p q : List ℕ → List ℕ → Type 0} {bytes rest : List ℕ} (h : (p ⨾ q) bytes rest) → AreBytes bytes → AreBytes h.suffix
second_bytes h are = AreBytes-suffix h.prefix h.suffix (subst AreBytes h.joined are)

-- a string after its length in one byte has at most 255 bytes
pub short_fits : (name bytes : List ℕ) → AreBytes bytes → IsShortString name bytes → length name ≤ 255
short_fits name bytes are h =
    let below = AreBytes-prefix h.prefix name (subst AreBytes h.joined are) 0 in
    let count : length name ≡ slice_index h.prefix 0 + 0 = h.prefix_is.value_is in
    omega (arith, below, count)

uncut : (t : TableMap) → length t.database ≤ 255 → length t.table ≤ 255 → written_map t ≡ t
uncut t database table = rw (take_all 255 t.database database, take_all 255 t.table table) refl

pub map_whole : (t : TableMap) (bytes rest : List ℕ) → AreBytes bytes → IsTableMap 8 t bytes rest → written_map t ≡ t
map_whole t bytes rest are h =
    let head = first_bytes h are in
    let names = second_bytes h.first_is.second_is (second_bytes h.first_is head) in
    let after = second_bytes h.first_is.second_is.second_is.second_is (second_bytes h.first_is.second_is.second_is names) in
    uncut t
    (short_fits _ _ (first_bytes h.first_is.second_is.second_is names) h.first_is.second_is.second_is.first_is)
    (short_fits _ _ (first_bytes h.first_is.second_is.second_is.second_is.second_is after) h.first_is.second_is.second_is.second_is.second_is.first_is)

pub maps_decide : (a b : TableMapEvent) → Decides (map_equality.eq a b) (map_of a ≡ map_of b)
maps_decide a b =
    Decides-like _
    (λ w. λ i. record { table_id = w.0 i; flags = w.1.0.0 i; database = w.1.1.0.0 i; table = w.1.1.1.0.0 i; column_types = w.1.1.1.1.0.0 i; metadata = w.1.1.1.1.1.0.0 i; null_bitmask = w.1.1.1.1.1.1.0.0 i; optional_metadata = w.1.1.1.1.1.1.1.0 i })
    (λ e. (ap (λ p. p.table_id) e, ((ap (λ p. p.flags) e, tt), ((ap (λ p. p.database) e, tt), ((ap (λ p. p.table) e, tt), ((ap (λ p. p.column_types) e, tt), ((ap (λ p. p.metadata) e, tt), ((ap (λ p. p.null_bitmask) e, tt), (ap (λ p. p.optional_metadata) e, tt)))))))))
    (Decides-and _ _ (Decides-eqb a.table_id.0 b.table_id.0)
    (Decides-and _ _ (Decides-and _ _ (Decides-eqb a.flags.0 b.flags.0) true_decides)
    (Decides-and _ _ (Decides-and _ _ (bytes_decides (raw_string a.database) (raw_string b.database)) true_decides)
    (Decides-and _ _ (Decides-and _ _ (bytes_decides (raw_string a.table) (raw_string b.table)) true_decides)
    (Decides-and _ _ (Decides-and _ _ (bytes_decides (raw_string a.column_types) (raw_string b.column_types)) true_decides)
    (Decides-and _ _ (Decides-and _ _ (bytes_decides (raw_string a.metadata) (raw_string b.metadata)) true_decides)
    (Decides-and _ _ (Decides-and _ _ (bytes_decides (raw_string a.null_bitmask) (raw_string b.null_bitmask)) true_decides)
    (Decides-and _ _ (bytes_decides (raw_string a.optional_metadata) (raw_string b.optional_metadata)) true_decides))))))))
