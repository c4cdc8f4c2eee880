-- Bytes that wait to be written.
use Rattle.std.proofs.Common.{◌≡◌, ℕ, Bool, true, false, not, List, [], ◌++◌, length, Option, Some, None, refl, sym, ap, subst, ◌∙◌, append_assoc}
use Rattle.std.specs.Io.KnownBytes.{Appends, append_known}
use Rattle.std.proofs.KnownBytes.{Appends-nil, Appends-trans}
use Rattle.std.proofs.lemmas.List.{append-nil, append_cancel_left, length-take-le}
use Rattle.feed_checks.specs.declared.verdict.Verdict.{Verdict}
use Rattle.feed_transactions.specs.Waiting.{bytes_of, WritesSome}
use Rattle.feed_transactions.specs.InterruptedWrites.{IsInterruptedWrite}
use Rattle.feed_transactions.specs.declared.waiting.WaitingBytes.{WaitingBytes}

-- the source has to read if no event is at hand
pub reads_then : (has_next at_hand : Bool) → has_next ≡ at_hand → (at_hand ≡ true → ⊥) → not has_next ≡ true
reads_then has_next true e h = absurd (h refl)
reads_then has_next false e h = rw e refl

-- ---- waiting bytes

-- all of them were written
pub all_written : (old new : Option (List ℕ)) (texts : List ℕ) → Appends old new texts → Appends (append_known old texts) new []
all_written None new texts p = tt
all_written (Some x) None texts p = absurd p
all_written (Some x) (Some y) texts p = p ∙ sym (append-nil (x ++ texts))

-- no next was written
pub writes_none : (old : Option (List ℕ)) (texts : List ℕ) → WritesSome old old texts [] texts
writes_none old texts = record { bytes = []; written = Appends-nil old; joined = append-nil texts }

pub writes_all : (old new : Option (List ℕ)) (texts after : List ℕ) → Appends old new texts → after ≡ [] → WritesSome old new texts [] after
writes_all old new texts after w e = record { bytes = texts; written = w; joined = ap (λ (l : List ℕ). texts ++ l) (sym e) }

-- the next next was written after all of them
pub writes_next : (old mid new : Option (List ℕ)) (texts next after : List ℕ) → Appends old mid texts → Appends mid new next → after ≡ [] → WritesSome old new texts next after
writes_next old mid new texts next after w v e = record {
  bytes = texts ++ next;
  written = Appends-trans old mid new texts next w v;
  joined = sym (append-nil (texts ++ next)) ∙ ap (λ (l : List ℕ). (texts ++ next) ++ l) (sym e);
}

-- the next next waits
pub writes_later : (old new : Option (List ℕ)) (before waiting next after : List ℕ) → WritesSome old new before [] waiting → after ≡ waiting ++ next → WritesSome old new before next after
writes_later old new before waiting next after h e = record {
  bytes = h.bytes;
  written = h.written;
  joined =
      ap (λ (l : List ℕ). l ++ next) (sym (append-nil before) ∙ h.joined) ∙ append_assoc h.bytes waiting next ∙ ap (λ (l : List ℕ). h.bytes ++ l) (sym e);
}

-- more bytes were written
abbrev pub Extends : Option (List ℕ) → Option (List ℕ) → Type 0
Extends old new = (bytes : List ℕ) × Appends old new bytes

pub extends_none : (old : Option (List ℕ)) → Extends old old
extends_none old = ([], Appends-nil old)

pub extends_more : (old mid new : Option (List ℕ)) (before next after : List ℕ) → Extends old mid → WritesSome mid new before next after → Extends old new
extends_more old mid new before next after g h = (g.0 ++ h.bytes, Appends-trans old mid new g.0 h.bytes g.1 h.written)

-- a prefix of them was written: this is a prefix of all bytes that were to be written
pub some_before : (old mid new : Option (List ℕ)) (texts prefix suffix all : List ℕ) → Extends old mid → Appends old (append_known mid texts) all → prefix ++ suffix ≡ texts → Appends mid new prefix
    → (bytes : List ℕ) × (rest : List ℕ) × Appends old new bytes × (bytes ++ rest ≡ all)
some_before None mid new texts prefix suffix all g p parts w = ([], all, tt, refl)
some_before (Some x) None new texts prefix suffix all g p parts w = absurd g.1
some_before (Some x) (Some y) None texts prefix suffix all g p parts w = absurd w
some_before (Some x) (Some y) (Some z) texts prefix suffix all g p parts w =
    let same : x ++ ((g.0 ++ prefix) ++ suffix) ≡ x ++ all =
    ap (λ (l : List ℕ). x ++ l) (append_assoc g.0 prefix suffix ∙ ap (λ (l : List ℕ). g.0 ++ l) parts) ∙ sym (append_assoc x g.0 texts) ∙ ap (λ (l : List ℕ). l ++ texts) (sym g.1) ∙ p in
    (g.0 ++ prefix, suffix, w ∙ ap (λ (l : List ℕ). l ++ prefix) g.1 ∙ append_assoc x g.0 prefix, append_cancel_left x ((g.0 ++ prefix) ++ suffix) all same)

-- there are none
pub none_wait : (old : Option (List ℕ)) (texts : List ℕ) → texts ≡ [] → Appends (append_known old texts) old []
none_wait old texts e = all_written old old texts (subst (Appends old old) (sym e) (Appends-nil old))

pub some_written : (old new : Option (List ℕ)) (before next after : List ℕ) → WritesSome old new before next after → Appends (append_known old before) (append_known new after) next
some_written None new before next after h = tt
some_written (Some x) None before next after h = absurd h.written
some_written (Some x) (Some y) before next after h =
    ap (λ (l : List ℕ). l ++ after) h.written ∙ append_assoc x h.bytes after ∙ ap (λ (l : List ℕ). x ++ l) (sym h.joined) ∙ sym (append_assoc x before next)

-- bytes that are appended to those that wait
pub appended : (now : Option (List ℕ)) (before more : List ℕ) → Appends (append_known now before) (append_known now (before ++ more)) more
appended None before more = tt
appended (Some x) before more = sym (append_assoc x before more)

pub none_before : (old : Option (List ℕ)) (texts : List ℕ) → texts ≡ [] → Appends old (append_known old texts) []
none_before None texts e = tt
none_before (Some x) texts e = ap (λ (l : List ℕ). x ++ l) e

-- how many bytes wait
pub waiting_len : (w : WaitingBytes) → length (bytes_of w) ≡ w.len
unfolding bytes_of
waiting_len w = length-take-le w.len w.buffer.items w.within

-- ---- interrupted writes

-- within the first bytes
pub interrupted_before : (old new : Option (List ℕ)) (first next : List ℕ) (failed : Bool) (v : Verdict) → IsInterruptedWrite old new first failed v → IsInterruptedWrite old new (first ++ next) failed v
interrupted_before old new first next failed v h =
    (h.0, record { prefix = h.1.prefix; suffix = h.1.suffix ++ next; parts = sym (append_assoc h.1.prefix h.1.suffix next) ∙ ap (λ (l : List ℕ). l ++ next) h.1.parts; written = h.1.written }, h.2)

-- within the next ones
pub interrupted_after : (old mid new : Option (List ℕ)) (first next : List ℕ) (failed : Bool) (v : Verdict) → Appends old mid first → IsInterruptedWrite mid new next failed v → IsInterruptedWrite old new (first ++ next) failed v
interrupted_after old mid new first next failed v w h =
    (h.0, record { prefix = first ++ h.1.prefix; suffix = h.1.suffix; parts = append_assoc first h.1.prefix h.1.suffix ∙ ap (λ (l : List ℕ). first ++ l) h.1.parts; written = Appends-trans old mid new first h.1.prefix w h.1.written }, h.2)
