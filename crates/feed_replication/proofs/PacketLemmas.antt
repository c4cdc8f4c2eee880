-- Packets, written chunk by chunk.
use Rattle.std.proofs.Common.{◌≡◌, ℕ, ◌+◌, ◌%◌, ◌<◌, ◌≤◌, Bool, true, false, ◌⊎◌, inl, inr, min, List, [], ◌∷◌, ◌++◌, length, take, drop, Option, refl, sym, ap, subst, ◌∙◌, append_assoc, length-append, arith}
use Rattle.std.specs.Prelude.{◌==◌}
use Rattle.std.specs.Io.KnownBytes.{Appends}
use Rattle.std.proofs.KnownBytes.{Appends-nil, Appends-trans}
use Rattle.std.proofs.lemmas.List.{append-nil, take-append-drop}
use Rattle.wire_packets.specs.Framing.{max_chunk_len, chunk, framing, next_sequence_id}
use Rattle.wire_packets.proofs.FramingLemmas.{same_chunk}
use Rattle.wire_packets.proofs.PacketLemmas.{framing_short, framing_long, order}
use Rattle.feed_checks.specs.declared.verdict.Verdict.{Verdict}
use Rattle.feed_transactions.specs.InterruptedWrites.{IsInterruptedWrite}

-- ---- interrupted writes

-- after bytes that were written
pub cut-later : (old mid new : Option (List ℕ)) (a b : List ℕ) (failed : Bool) (v : Verdict) → Appends old mid a → IsInterruptedWrite mid new b failed v → IsInterruptedWrite old new (a ++ b) failed v
cut-later old mid new a b failed v w h =
    (h.0, record { prefix = a ++ h.1.prefix; suffix = h.1.suffix; parts = append_assoc a h.1.prefix h.1.suffix ∙ ap (λ (t : List ℕ). a ++ t) h.1.parts; written = Appends-trans old mid new a h.1.prefix w h.1.written }, h.2)

-- before bytes that come later
pub cut-sooner : (old new : Option (List ℕ)) (a b : List ℕ) (failed : Bool) (v : Verdict) → IsInterruptedWrite old new a failed v → IsInterruptedWrite old new (a ++ b) failed v
cut-sooner old new a b failed v h =
    (h.0, record { prefix = h.1.prefix; suffix = h.1.suffix ++ b; parts = sym (append_assoc h.1.prefix h.1.suffix b) ∙ ap (λ (t : List ℕ). t ++ b) h.1.parts; written = h.1.written }, h.2)

-- both parts of these bytes were written, or the write of one was interrupted
pub both-written : (old mid new : Option (List ℕ)) (a b whole : List ℕ) → a ++ b ≡ whole → Appends old mid a → Appends mid new b → Appends old new whole
both-written old mid new a b whole is first second = subst (Appends old new) is (Appends-trans old mid new a b first second)

pub first-cut : (old new : Option (List ℕ)) (a b whole : List ℕ) (failed : Bool) (v : Verdict) → a ++ b ≡ whole → IsInterruptedWrite old new a failed v → IsInterruptedWrite old new whole failed v
first-cut old new a b whole failed v is h = subst (λ (t : List ℕ). IsInterruptedWrite old new t failed v) is (cut-sooner old new a b failed v h)

pub second-cut : (old mid new : Option (List ℕ)) (a b whole : List ℕ) (failed : Bool) (v : Verdict) → a ++ b ≡ whole → Appends old mid a → IsInterruptedWrite mid new b failed v → IsInterruptedWrite old new whole failed v
second-cut old mid new a b whole failed v is w h = subst (λ (t : List ℕ). IsInterruptedWrite old new t failed v) is (cut-later old mid new a b failed v w h)

-- ---- chunks

-- the header and the bytes that lead the payload were put together, and the other bytes follow
pub chunk-parts : (number : ℕ) (header first lead slice begun : List ℕ) → first ≡ header → begun ≡ first ++ lead → ((bytes : List ℕ) → length bytes ≡ length lead + length slice → header ++ bytes ≡ chunk number bytes) → begun ++ slice ≡ chunk number (lead ++ slice)
chunk-parts number header first lead slice begun one two is =
    ap (λ (t : List ℕ). t ++ slice) (two ∙ ap (λ (t : List ℕ). t ++ lead) one) ∙ append_assoc header lead slice ∙ is (lead ++ slice) (length-append lead slice)

-- The first few chunks of a packet were written; the next has this number, and `rest` are the bytes for it and the chunks after it.
pub record IsWithin (k : ℕ) (p : List ℕ) (old now : Option (List ℕ)) (number : ℕ) (rest : List ℕ) : Type 0 where
  pub at : ℕ
  pub prefix : List ℕ
  pub is : framing k p ≡ prefix ++ framing at rest
  pub next : next_sequence_id k p ≡ next_sequence_id at rest
  pub counted : number ≡ at % 256
  pub written : Appends old now prefix

-- The whole packet was written, and the next chunk has this number.
pub record IsAfter (k : ℕ) (p : List ℕ) (old now : Option (List ℕ)) (number : ℕ) : Type 0 where
  pub written : Appends old now (framing k p)
  pub next : number ≡ next_sequence_id k p

pub within-none : (k : ℕ) (p : List ℕ) (old : Option (List ℕ)) → k < 256 → IsWithin k p old old k p
within-none k p old h = record { at = k; prefix = []; is = refl; next = refl; counted = omega arith; written = Appends-nil old }

-- a chunk is the last if it is shorter than the maximum
abbrev pub IsLast : List ℕ → List ℕ → Type 0
IsLast a b = (length a < max_chunk_len) × (b ≡ [])

module _ (k : ℕ) (p : List ℕ) (old now new : Option (List ℕ)) (number : ℕ) (rest a b : List ℕ) (h : IsWithin k p old now number rest) (parts : rest ≡ a ++ b) where
  -- the packet from such a chunk on
  long : length a ≡ max_chunk_len → framing h.at rest ≡ chunk number a ++ framing (h.at + 1) b
  long l = ap (framing h.at) parts ∙ framing_long h.at a b l ∙ ap (λ (c : List ℕ). c ++ framing (h.at + 1) b) (sym (same_chunk number h.at a h.counted))

  short : IsLast a b → framing h.at rest ≡ chunk number a
  short l = ap (framing h.at) (parts ∙ ap (λ (t : List ℕ). a ++ t) l.1 ∙ append-nil a) ∙ framing_short h.at a l.0 ∙ sym (same_chunk number h.at a h.counted)

  pub within-more : length a ≡ max_chunk_len → Appends now new (chunk number a) → IsWithin k p old new ((number + 1) % 256) b
  within-more l w = record {
    at = h.at + 1;
    prefix = h.prefix ++ chunk number a;
    is = h.is ∙ ap (λ (t : List ℕ). h.prefix ++ t) (long l) ∙ sym (append_assoc h.prefix (chunk number a) (framing (h.at + 1) b));
    next = h.next ∙ numbers;
    counted = omega (arith, h.counted);
    written = Appends-trans old now new h.prefix (chunk number a) h.written w;
  }
    where
      numbers : next_sequence_id h.at rest ≡ next_sequence_id (h.at + 1) b
      numbers = let e : length rest ≡ max_chunk_len + length b = ap length parts ∙ length-append a b ∙ ap (λ (n : ℕ). n + length b) l in omega (arith, e)

  pub after-last : IsLast a b → Appends now new (chunk number a) → IsAfter k p old new ((number + 1) % 256)
  after-last l w = record {
    written = subst (Appends old new) (sym (h.is ∙ ap (λ (t : List ℕ). h.prefix ++ t) (short l))) (Appends-trans old now new h.prefix (chunk number a) h.written w);
    next = numbers;
  }
    where
      numbers : (number + 1) % 256 ≡ next_sequence_id k p
      numbers = let e : length rest ≡ length a = ap length (parts ∙ ap (λ (t : List ℕ). a ++ t) l.1 ∙ append-nil a) in omega (arith, e, h.next, h.counted, l.0)

  pub cut-within : (length a ≡ max_chunk_len) ⊎ IsLast a b → (failed : Bool) (v : Verdict) → IsInterruptedWrite now new (chunk number a) failed v → IsInterruptedWrite old new (framing k p) failed v
  cut-within (inl l) failed v c = subst (λ (t : List ℕ). IsInterruptedWrite old new t failed v) (sym (h.is ∙ ap (λ (t : List ℕ). h.prefix ++ t) (long l))) (cut-later old now new h.prefix (chunk number a ++ framing (h.at + 1) b) failed v h.written (cut-sooner now new (chunk number a) (framing (h.at + 1) b) failed v c))
  cut-within (inr l) failed v c = subst (λ (t : List ℕ). IsInterruptedWrite old new t failed v) (sym (h.is ∙ ap (λ (t : List ℕ). h.prefix ++ t) (short l))) (cut-later old now new h.prefix (chunk number a) failed v h.written c)

-- ---- how a payload is split

none_left : (b : List ℕ) → length b ≡ 0 → b ≡ []
none_left [] h = refl
none_left (x ∷ b) h = absurd (omega (arith, h))

-- as many bytes as fit are a full chunk or the last
pub either-chunk : (rest a b : List ℕ) → rest ≡ a ++ b → length a ≡ min (length rest) max_chunk_len → (length a ≡ max_chunk_len) ⊎ IsLast a b
either-chunk rest a b parts len = either (order (length a) max_chunk_len)
  where
    either : (length a < max_chunk_len) ⊎ (max_chunk_len ≤ length a) → (length a ≡ max_chunk_len) ⊎ IsLast a b
    either (inl lt) = inr (lt, none_left b (omega (arith, ap length parts, length-append a b, len, lt)))
    either (inr ge) = inl (omega (arith, len, ge))

pub joined-parts : (n : ℕ) (rest a b : List ℕ) → a ≡ take n rest → b ≡ drop n rest → rest ≡ a ++ b
joined-parts n rest a b p q = sym (ap (λ (x : List ℕ). x ++ b) p ∙ ap (λ (x : List ℕ). take n rest ++ x) q ∙ take-append-drop n rest)

pub led-parts : (n : ℕ) (lead body a b : List ℕ) → a ≡ take n body → b ≡ drop n body → lead ++ body ≡ (lead ++ a) ++ b
led-parts n lead body a b p q = ap (λ (x : List ℕ). lead ++ x) (joined-parts n body a b p q) ∙ sym (append_assoc lead a b)

-- the test whether a chunk is full
pub whole-then : (a b : List ℕ) (n : ℕ) → n ≡ length a → (n == max_chunk_len) ≡ true → length a ≡ max_chunk_len
whole-then a b n e h = grind arith

pub last-then : (a b : List ℕ) (n : ℕ) → n ≡ length a → (n == max_chunk_len) ≡ false → (length a ≡ max_chunk_len) ⊎ IsLast a b → IsLast a b
last-then a b n e h (inl l) = absurd (not_both n (e ∙ l) h)
  where
    not_both : (n : ℕ) → n ≡ max_chunk_len → (n == max_chunk_len) ≡ false → ⊥
    not_both n e h = grind arith
last-then a b n e h (inr l) = l

-- the next chunk of a packet
pub within-next : (k : ℕ) (p : List ℕ) (old now new : Option (List ℕ)) (number : ℕ) (rest a b : List ℕ) (n : ℕ) → IsWithin k p old now number rest → rest ≡ a ++ b → (length a ≡ max_chunk_len) ⊎ IsLast a b → n ≡ length a → Appends now new (chunk number a)
    → ((n == max_chunk_len) ≡ true → IsWithin k p old new ((number + 1) % 256) b) × ((n == max_chunk_len) ≡ false → IsAfter k p old new ((number + 1) % 256))
within-next k p old now new number rest a b n h parts which e w =
    (λ t. within-more k p old now new number rest a b h parts (whole-then a b n e t) w, λ f. after-last k p old now new number rest a b h parts (last-then a b n e f which) w)
