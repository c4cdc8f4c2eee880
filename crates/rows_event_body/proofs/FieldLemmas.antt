-- Optional fields and extra data.
use Rattle.std.proofs.Common.{◌≡◌, ◌+◌, ◌-◌, ℕ, List, length, refl, ap, subst, arith, Option, Some, None}
use Rattle.std.proofs.lemmas.List.{length-append}
use Rattle.wire_buf.specs.Encoding.{Begins, Reads, Lacks, Alone, Both, IsBytes}
use Rattle.wire_buf.specs.Writing.{WritesField, concat_some}
use Rattle.wire_buf.proofs.EncodingLemmas.{Reads-led, Lacks-led_head, Lacks-led_tail}
use Rattle.wire_fields.specs.Ints.{little_encoded}
use Rattle.rows_table_map.specs.TableMaps.{little_endian, plain_bytes}
use Rattle.rows_event_body.specs.RowsEventFields.{IsMaybe, IsExtra, extra_encoded}

-- a field that must be present
module _ {C A : Type 0} (encoding : C → A → List ℕ → List ℕ → Type 0) (ctx : Option C) (c : C) (is : ctx ≡ Some c) (x : List ℕ) where
  Reads-there : (v : A) (r : List ℕ) → Reads (encoding c) v x r → Reads (IsMaybe encoding (Some c)) (Some v) x r
  Reads-there v r p = record {
    begins = record { bytes = p.begins.bytes; joined = p.begins.joined; is = p.begins.is };
    only = λ w s t. elim w as (λ w. Begins (IsMaybe encoding (Some c) w) x s → (s ≡ r) × (Some v ≡ w)) [
      | None ↦ λ t. absurd t.is
      | Some a ↦ λ t. let o = p.only a s (record { bytes = t.bytes; joined = t.joined; is = t.is }) in (o.0, ap (λ (q : A). Some q) o.1)
    ] t;
  }

  Lacks-there : Lacks (encoding c) x → Lacks (IsMaybe encoding (Some c)) x
  Lacks-there lacks None s t = t.is
  Lacks-there lacks (Some a) s t = lacks a s (record { bytes = t.bytes; joined = t.joined; is = t.is })

  pub there_reads : (v : A) (r : List ℕ) → Reads (encoding c) v x r → Reads (IsMaybe encoding ctx) (Some v) x r
  there_reads v r p = rw is (Reads-there v r p)

  pub there_lacks : Lacks (encoding c) x → Lacks (IsMaybe encoding ctx) x
  there_lacks l = rw is (Lacks-there l)

-- extra data, with its size
abbrev Sized : Type 0
Sized = ℕ × List ℕ

abbrev sized : Sized → List ℕ → List ℕ → Type 0
sized p = Both (little_endian 2) (plain_bytes (p.0 - 2)) p

extra_begins : (v x r : List ℕ) (t : Begins (IsExtra v) x r) → Begins (sized (t.is.size, v)) x r
extra_begins v x r t = record { bytes = t.bytes; joined = t.joined; is = t.is.encoding_is }

pub extra_reads : (n : ℕ) (v x m r : List ℕ) → Reads (little_endian 2) n x m → Reads (plain_bytes (n - 2)) v m r → Reads IsExtra v x r
extra_reads n v x m r first second =
    let p : Reads sized (n, v) x r = Reads-led (λ (p : Sized). p.0) (λ (p : Sized). p.1) (λ (n : ℕ) (v : List ℕ). (n, v)) (λ q. refl) (little_endian 2) (λ n. plain_bytes (n - 2)) n v x m r first second (λ b rest h. refl) refl in
    record {
      begins = record { bytes = p.begins.bytes; joined = p.begins.joined; is = record { size = n; encoding_is = p.begins.is } };
      only = λ w s t. let o = p.only (t.is.size, w) s (extra_begins w x s t) in (o.0, ap (λ (q : Sized). q.1) o.1);
    }

pub size_lacks : (x : List ℕ) → Lacks (little_endian 2) x → Lacks IsExtra x
size_lacks x lacks w s t =
    let l : Lacks sized x = Lacks-led_head (λ (p : Sized). p.0) (λ (p : Sized). p.1) (λ (n : ℕ) (v : List ℕ). (n, v)) (λ q. refl) (little_endian 2) (λ n. plain_bytes (n - 2)) x lacks in
    l (t.is.size, w) s (extra_begins w x s t)

pub data_lacks : (n : ℕ) (x m : List ℕ) → Reads (little_endian 2) n x m → Lacks (plain_bytes (n - 2)) m → Lacks IsExtra x
data_lacks n x m first lacks w s t =
    let l : Lacks sized x = Lacks-led_tail (λ (p : Sized). p.0) (λ (p : Sized). p.1) (λ (n : ℕ) (v : List ℕ). (n, v)) (λ q. refl) (little_endian 2) (λ n. plain_bytes (n - 2)) n x m first lacks in
    l (t.is.size, w) s (extra_begins w x s t)

-- all encodings of extra data have the same length
extra_length : (v bytes rest : List ℕ) → IsExtra v bytes rest → length bytes ≡ 2 + length v
extra_length v bytes rest h =
    let s = h.encoding_is in
    let prefix = s.first_is.size in
    let back = ap (λ (l : List ℕ). length l) s.second_is.bytes_are in
    let joined = ap (λ (l : List ℕ). length l) s.joined in
    omega (arith, prefix, back, joined, length-append s.prefix s.suffix)

pub extra_written : (f : ℕ → Option (List ℕ)) (allows_rest : List ℕ → Type 0) (n : ℕ) (v old new : List ℕ) → f n ≡ little_encoded 2 n → n ≡ length v + 2 → ((rest : List ℕ) → allows_rest rest)
    → WritesField (λ (p : Sized). concat_some (f p.0) (Some p.1)) (Both (little_endian 2) (λ w. Alone (IsBytes (length w)) w)) allows_rest (n, v) old new
    → WritesField extra_encoded IsExtra allows_rest v old new
extra_written f allows_rest n v old new e size any w =
    let len : length v ≡ n - 2 = omega (arith, size) in
    let represents : (rest : List ℕ) → IsExtra v w.bytes rest = λ rest. let h = w.encodes rest (any rest) in record {
      size = n;
      encoding_is = record { prefix = h.prefix; suffix = h.suffix; joined = h.joined; first_is = h.first_is; second_is = subst (λ (k : ℕ). IsBytes k v h.suffix) len h.second_is };
    } in
    record {
      bytes = w.bytes;
      is = rw (← size, ← e) w.is;
      appended = w.appended;
      encodes = λ rest s. represents rest;
      least = λ other rest t are. let a = extra_length v w.bytes rest (represents rest) in let b = extra_length v other rest t in omega (arith, a, b);
    }
