-- Encodings that are read as the value that they encode, and how they combine.
use Rattle.std.specs.Prelude.{Option}
use Rattle.std.proofs.Common.{◌≡◌, ◌≤◌, ◌++◌, ◌∙◌, ℕ, List, [], length, sym, ap, subst, arith, append-nil, append_assoc}
use Rattle.std.proofs.Math.Seq.{take-append_seam, drop-append_seam}
use Rattle.std.proofs.lemmas.List.{length-append}
use Rattle.byteorder.specs.Endian.{little_number, twos_complement}
use Rattle.byteorder.specs.Numbers.{little_from-append}
use Rattle.wire_buf.specs.Encoding.{Begins, Reads, ◌⨾◌, Both, Alone, AreBytes, IsFixed}
use Rattle.wire_buf.specs.Numbers.{IsLenenc, IsCounted, IsLittle, IsShortString, IsLongString, IsLenencString, IsSignedLittle, little_signed}
use Rattle.wire_buf.specs.LenencSplit.{split_lenenc}
use Rattle.wire_buf.proofs.EncodingLemmas.{Both-first, Both-second, Reads-both, Reads-led, Reads-as, Reads-is, Reads-fixed, Reads-prefix, split_prefix}
use Rattle.wire_buf.proofs.LenencLemmas.{split_lenenc-complete}
use Rattle.wire_buf.proofs.StringLemmas.{Reads-counted}
use Rattle.wire_fields.specs.ByteStrings.{IsAll}
use Rattle.wire_fields.proofs.FieldLemmas.{bytes_read, skipped}
use Rattle.rows_table_map.specs.TableMaps.{little_endian, plain_bytes, Skipped}
use Rattle.mysql_binlog_events.specs.ReadAgain.{IsReadAsEncoded, IsReadAgain, IsSameAgain}

-- ---- fields

-- values of n bytes
pub one_fixed : {A : Type 0} (value : List ℕ → A) (n : ℕ) → ((a b : List ℕ) → n ≤ length a → value (a ++ b) ≡ value a) → IsReadAsEncoded (Alone (IsFixed value n))
one_fixed value n local v x r t =
    let size = t.is.size in
    let joined = t.joined in
    let cut = split_prefix n x t.bytes r size joined in
    let room : n ≤ length x = omega (arith, size, ap length joined, length-append t.bytes r) in
    let is : v ≡ value x = t.is.value_is ∙ sym (local t.bytes r (omega (arith, size))) ∙ ap value (sym joined) in
    Reads-fixed value n v x r local room is (sym cut.1)

pub one_number : (n : ℕ) → IsReadAsEncoded (little_endian n)
one_number n = one_fixed (little_number n) n (little_from-append n)

pub one_signed : (n : ℕ) → IsReadAsEncoded (Alone (IsSignedLittle n))
one_signed n = one_fixed (little_signed n) n (λ a b h. ap (twos_complement n) (little_from-append n a b h))

pub one_text : (n : ℕ) → IsReadAsEncoded (plain_bytes n)
one_text n v x r t =
    let size = t.is.size in
    let joined = t.joined in
    let cut = split_prefix n x t.bytes r size joined in
    let room : n ≤ length x = omega (arith, size, ap length joined, length-append t.bytes r) in
    bytes_read n v x r room (t.is.bytes_are ∙ sym cut.0) (sym cut.1)

pub one_skipped : IsReadAsEncoded Skipped
one_skipped v x r t =
    let size = t.is in
    let joined = t.joined in
    let room : 1 ≤ length x = omega (arith, size, ap length joined, length-append t.bytes r) in
    skipped 1 x r room (sym (split_prefix 1 x t.bytes r size joined).1)

pub one_all : IsReadAsEncoded IsAll
one_all v x r t = record {
  begins = t;
  only = λ w s u.
      let first : x ≡ v = t.joined ∙ ap (λ (l : List ℕ). t.bytes ++ l) t.is.ends ∙ append-nil t.bytes ∙ sym t.is.bytes_are in
      let other : x ≡ w = u.joined ∙ ap (λ (l : List ℕ). u.bytes ++ l) u.is.ends ∙ append-nil u.bytes ∙ sym u.is.bytes_are in
      (u.is.ends ∙ sym t.is.ends, sym first ∙ other);
}

pub one_lenenc : IsReadAsEncoded (Alone IsLenenc)
one_lenenc v x r t = Reads-prefix IsLenenc split_lenenc split_lenenc-complete v x r t

-- strings after their lengths
pub one_counted : (count : ℕ → List ℕ → Type 0) → IsReadAsEncoded (Alone count) → IsReadAsEncoded (Alone (IsCounted count))
one_counted count one v x r t =
    let length_at : Begins (Alone count (length v)) x (v ++ r) = record {
      bytes = t.is.prefix;
      joined = t.joined ∙ ap (λ (l : List ℕ). l ++ r) t.is.joined ∙ append_assoc t.is.prefix v r;
      is = t.is.prefix_is;
    } in
    Reads-counted count (length v) x (v ++ r) v r (one (length v) x (v ++ r) length_at) (omega (arith, length-append v r)) (sym (take-append_seam v r)) (sym (drop-append_seam v r))

pub one_short : IsReadAsEncoded (Alone IsShortString)
one_short = one_counted (IsLittle 1) (one_number 1)

pub one_long : IsReadAsEncoded (Alone IsLongString)
one_long = one_counted (IsLittle 4) (one_number 4)

pub one_lenenc_string : IsReadAsEncoded (Alone IsLenencString)
one_lenenc_string = one_counted IsLenenc one_lenenc

-- ---- combinations

-- one field, and then another
pub one_both : {A B : Type 0} {first : A → List ℕ → List ℕ → Type 0} {second : B → List ℕ → List ℕ → Type 0}
    → IsReadAsEncoded first → IsReadAsEncoded second → IsReadAsEncoded (Both first second)
one_both {first = first} {second = second} one other (v, w) x r t =
    Reads-both first second v w x (t.is.suffix ++ r) r (one v x (t.is.suffix ++ r) (Both-first first second v w x r t)) (other w (t.is.suffix ++ r) r (Both-second first second v w x r t))

-- a body with exactly the fields that `parts` gives
pub one_as : {A Q : Type 0} (parts : Q → A) (whole : A → Q) → ((q : Q) → whole (parts q) ≡ q) → {encoding : A → List ℕ → List ℕ → Type 0}
    → IsReadAsEncoded encoding → IsReadAsEncoded (λ (q : Q). encoding (parts q))
one_as parts whole again one q x r t = Reads-is (again q) (Reads-as parts whole again (parts q) x r (one (parts q) x r t) (ap parts (again q)))

-- a second part with the first as its context
pub one_led : {H T Q : Type 0} (head : Q → H) (tail : Q → T) (whole : H → T → Q) → ((q : Q) → whole (head q) (tail q) ≡ q)
    → (first : H → List ℕ → List ℕ → Type 0) (second : H → T → List ℕ → List ℕ → Type 0)
    → IsReadAsEncoded first → ((h : H) → IsReadAsEncoded (second h)) → IsReadAsEncoded (λ (q : Q). first (head q) ⨾ second (head q) (tail q))
one_led head tail whole again first second one other q x r t =
    let parts : Begins (Both first (second (head q)) (head q, tail q)) x r = record { bytes = t.bytes; joined = t.joined; is = t.is } in
    let prefix = one (head q) x (t.is.suffix ++ r) (Both-first first (second (head q)) (head q) (tail q) x r parts) in
    let back = other (head q) (tail q) (t.is.suffix ++ r) r (Both-second first (second (head q)) (head q) (tail q) x r parts) in
    Reads-is (again q) (Reads-led head tail whole again first second (head q) (tail q) x (t.is.suffix ++ r) r prefix back (λ b s h. ap head (again q)) (ap tail (again q)))

-- ---- what was written

pub read_again : {A : Type 0} (encoded : A → Option (List ℕ)) (encoding : A → List ℕ → List ℕ → Type 0) (allows_rest : List ℕ → Type 0)
    → allows_rest [] → IsReadAsEncoded encoding → IsReadAgain encoded encoding allows_rest
read_again encoded encoding allows_rest ends one v old new w = one v w.bytes [] (record { bytes = w.bytes; joined = sym (append-nil w.bytes); is = w.encodes [] ends })

-- a body that takes all of its bytes
pub whole_body : {A : Type 0} {encoding : A → List ℕ → List ℕ → Type 0} {v : A} {body : List ℕ} → Reads encoding v body [] → encoding v body []
whole_body {encoding = encoding} {v = v} p = subst (λ (l : List ℕ). encoding v l []) (sym (p.begins.joined ∙ append-nil p.begins.bytes)) p.begins.is

pub same_again : {A : Type 0} (written : A → A) (encoded : A → Option (List ℕ)) (encoding : A → List ℕ → List ℕ → Type 0) (allows_rest : List ℕ → Type 0)
    → allows_rest [] → IsReadAsEncoded encoding → ((v : A) (bytes rest : List ℕ) → AreBytes bytes → encoding v bytes rest → written v ≡ v) → IsSameAgain written encoded encoding allows_rest
same_again written encoded encoding allows_rest ends one whole v body old new are read w =
    Reads-is (whole v body [] are (whole_body read)) (read_again encoded encoding allows_rest ends one (written v) old new w)
