-- The fields of an XA_PREPARE_LOG_EVENT that were read.
use Rattle.std.specs.Prelude.{◌≡◌, ℕ, true, List, take, drop}
use Rattle.byteorder.specs.Endian.{little_number}
use Rattle.events_replaced.specs.XaIdentifiers.{global_len, is_one_phase, is_prepare}
use Rattle.events_replaced.specs.declared.xa_xid.PreparedXid.{PreparedXid}

pub record ReadsPrepared (event : List ℕ) (p : PreparedXid) : Type 0 where
  pub fields : is_prepare event ≡ true
  pub phase : p.is_one_phase ≡ is_one_phase event
  pub format : p.format ≡ little_number 4 (drop 20 event)
  pub global : p.global.now ≡ take (global_len event) (drop 32 event)
  pub branch : p.branch.now ≡ drop (global_len event) (drop 32 event)
