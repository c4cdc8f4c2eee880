-- How many bytes of a file its items take, its end, and its errors.
use Rattle.std.proofs.Common.{◌≡◌, ◌≤◌, ◌+◌, ◌*◌, ℕ, Bool, true, false, true≢false, List, length, Option, Some, None, inl, inr, refl, sym, ap, ◌∙◌, arith}
use Rattle.std.specs.Prelude.{◌&&◌}
use Rattle.std.specs.Io.KnownBytes.{Consumes}
use Rattle.std.proofs.lemmas.Bool.{leb-true}
use Rattle.std.proofs.lemmas.List.{length-append}
use Rattle.events_frames.specs.Events.{IsWholeEvent}
use Rattle.events_frames.specs.EventParts.{Parts}
use Rattle.events_frames.specs.declared.event_error.EventError.{EventError}
use Rattle.events_owned.specs.OwnedEvents.{IsNextFault, NoFrame, Refused, NoMemory}
use Rattle.events_frames.specs.LogReadings.{IsAcceptError}
use Rattle.events_owned.specs.Files.{File, ReturnsEvent, ReturnsError, ReturnsNothing, ReturnsItems, NoItem, OneEvent, OneFault, IsFileError}

first_true : (a b : Bool) → (a && b) ≡ true → a ≡ true
first_true true b h = refl
first_true false b h = h

-- a whole event has a header
pub whole_long : (bytes : List ℕ) → IsWholeEvent bytes → 19 ≤ length bytes
whole_long bytes w = leb-true 19 (length bytes) (first_true _ _ (first_true _ _ w.whole))

-- if the remaining bytes after a read are known, so are those before it
taken_left : (old new : Option (List ℕ)) (bytes : List ℕ) (remaining : List ℕ) → Consumes old new bytes → new ≡ Some remaining → (all : List ℕ) → old ≡ Some all → length all ≡ length bytes + length remaining
taken_left (Some xs) (Some ys) bytes remaining h is all was =
    let a : all ≡ xs = cc was in
    let b : ys ≡ remaining = cc is in
    rw (a, h, b) (length-append bytes remaining)
taken_left (Some xs) None bytes remaining h is all was = absurd h
taken_left None new bytes remaining h is all was = absurd (cc was)

still_known : (old new : Option (List ℕ)) (bytes all : List ℕ) → Consumes old new bytes → old ≡ Some all → (remaining : List ℕ) × (new ≡ Some remaining)
still_known (Some xs) (Some ys) bytes all h was = (ys, refl)
still_known (Some xs) None bytes all h was = absurd h
still_known None new bytes all h was = absurd (cc was)

fault_bytes : (old new : File) (error : EventError) → (f : ReturnsError old new error) → IsFileError error → Consumes old.remaining new.remaining f.bytes × (19 ≤ length f.bytes)
fault_bytes old new error f own = elim f.why as (λ _. Consumes old.remaining new.remaining f.bytes × (19 ≤ length f.bytes)) [
  | inl refused_event ↦ (refused_event.consumed, whole_long f.bytes refused_event.whole)
  | inr (inl broken) ↦ (broken.1.consumed, omega (arith, broken.1.header))
  | inr (inr (inl memory, cut)) ↦ absurd (own.0 memory)
  | inr (inr (inr read, cut)) ↦ absurd (own.1 read.0)
]

known_after : (first last : File) (count : ℕ) (bytes : List ℕ) → first.remaining ≡ Some bytes → ReturnsItems first count last → (remaining : List ℕ) × (last.remaining ≡ Some remaining)
known_after first last count bytes was NoItem = (bytes, was)
known_after first last count bytes was (OneEvent n old new p items e) = let h = known_after first old n bytes was items in still_known old.remaining new.remaining e.event h.0 e.consumed h.1
known_after first last count bytes was (OneFault n old new error items f own) = let h = known_after first old n bytes was items in still_known old.remaining new.remaining f.bytes h.0 (fault_bytes old new error f own).0 h.1

pub few_items : (first last : File) (count : ℕ) (bytes remaining : List ℕ) → first.remaining ≡ Some bytes → last.remaining ≡ Some remaining → ReturnsItems first count last → 19 * count + length remaining ≤ length bytes
few_items first last count bytes remaining was is NoItem = let same : bytes ≡ remaining = cc (sym was ∙ is) in omega (arith, ap length same)
few_items first last count bytes remaining was is (OneEvent n old new p items e) =
    let h = known_after first old n bytes was items in
    let before = few_items first old n bytes h.0 was h.1 items in
    omega (arith, before, taken_left old.remaining new.remaining e.event remaining e.consumed is h.0 h.1, whole_long e.event e.whole)
few_items first last count bytes remaining was is (OneFault n old new error items f own) =
    let h = known_after first old n bytes was items in
    let before = few_items first old n bytes h.0 was h.1 items in
    let took = fault_bytes old new error f own in
    omega (arith, before, taken_left old.remaining new.remaining f.bytes remaining took.0 is h.0 h.1, took.1)

ended_after : (old new : File) → ReturnsNothing old new → new.ended ≡ true
ended_after old new (inl same) = ap (λ (f : File). f.ended) same.1 ∙ same.0
ended_after old new (inr ends) = ends.1.ended

pub no_event_after : (old new after : File) (p : Parts) → ReturnsNothing old new → ReturnsEvent new after p → ⊥
no_event_after old new after p h e = true≢false (sym (ended_after old new h) ∙ e.went_on)

pub no_fault_after : (old new after : File) (error : EventError) → ReturnsNothing old new → ReturnsError new after error → ⊥
no_fault_after old new after error h f = true≢false (sym (ended_after old new h) ∙ f.went_on)

pub no_event_after_fault : (old new after : File) (p : Parts) (error : EventError) → ReturnsError old new error → ReturnsEvent new after p → ⊥
no_event_after_fault old new after p error f e = true≢false (sym f.ended ∙ e.went_on)

pub one_fault : (old new after : File) (error again : EventError) → ReturnsError old new error → ReturnsError new after again → ⊥
one_fault old new after error again f g = true≢false (sym f.ended ∙ g.went_on)

-- an error of the next event ends a file
pub fault_given : (old new : File) (error : EventError) → old.ended ≡ false → new.ended ≡ true → new.reading ≡ old.reading → IsNextFault (IsAcceptError old.reading.description) new.failed old.remaining new.remaining error → ReturnsError old new error
fault_given old new error on off same (NoFrame taken fault h) = record { bytes = taken; went_on = on; why = inr h; unchanged = same; ended = off }
fault_given old new error on off same (Refused event fault consumed whole h) =
    record { bytes = event; went_on = on; why = inl (record { consumed = consumed; whole = whole; why = inl h }); unchanged = same; ended = off }
fault_given old new error on off same (NoMemory event consumed whole) =
    record { bytes = event; went_on = on; why = inl (record { consumed = consumed; whole = whole; why = inr refl }); unchanged = same; ended = off }
