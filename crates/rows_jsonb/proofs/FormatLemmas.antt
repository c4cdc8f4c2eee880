-- Entries are within the header.
use Rattle.std.proofs.Common.{◌≡◌, ℕ, ◌+◌, ◌-◌, ◌<◌, ◌≤◌, Bool, true, false, List, length, take, drop, arith}
use Rattle.std.proofs.lemmas.List.{length-drop, take_rest}
use Rattle.rows_jsonb.specs.JsonbLayout.{format, offset_size, key_entry_size, value_entry_size, key_entry_offset, value_entry_offset, header_size}

pub entry_within : (large array : Bool) (n pos : ℕ) → pos < n → value_entry_offset (format large array) n pos + value_entry_size large ≤ header_size (format large array) n
entry_within true true n pos h = omega arith
entry_within true false n pos h = omega arith
entry_within false true n pos h = omega arith
entry_within false false n pos h = omega arith

pub entry_ends : (large array : Bool) (n pos at size : ℕ) → pos < n → header_size (format large array) n ≤ size → at ≡ value_entry_offset (format large array) n pos → at + value_entry_size large ≤ size
entry_ends large array n pos at size h fits e = omega (arith, entry_within large array n pos h, fits, e)

-- the bytes of an entry after its type
pub offset_within : (large : Bool) (at : ℕ) (bytes : List ℕ) → at + value_entry_size large ≤ length bytes → offset_size large ≤ length (take (length bytes - (at + 1)) (drop (at + 1) bytes))
offset_within large at bytes h = rw (take_rest bytes (at + 1)) (omega (arith, length-drop (at + 1) bytes, h))

pub key_entry_within : (large : Bool) (n pos : ℕ) → pos < n → key_entry_offset large pos + key_entry_size large ≤ header_size (format large false) n
key_entry_within true n pos h = omega arith
key_entry_within false n pos h = omega arith

pub key_entry_ends : (large : Bool) (n pos at size : ℕ) → pos < n → header_size (format large false) n ≤ size → at ≡ key_entry_offset large pos → at + key_entry_size large ≤ size
key_entry_ends large n pos at size h fits e = omega (arith, key_entry_within large n pos h, fits, e)

-- the bytes of a key entry
pub key_within : (large : Bool) (at : ℕ) (bytes : List ℕ) → at + key_entry_size large ≤ length bytes → key_entry_size large ≤ length (take (length bytes - at) (drop at bytes))
key_within large at bytes h = rw (take_rest bytes at) (omega (arith, length-drop at bytes, h))

pub offset_least : (large : Bool) → 1 ≤ offset_size large
offset_least true = omega arith
offset_least false = omega arith
