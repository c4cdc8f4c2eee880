-- A whole event that can't be split is too short.
use Rattle.std.proofs.Common.{◌≡◌, ◌+◌, ◌++◌, ℕ, List, length, inl, inr, refl, sym, ap, ◌∙◌, append_assoc, arith}
use Rattle.std.proofs.lemmas.List.{length-append}
use Rattle.byteorder.specs.Endian.{little_number}
use Rattle.byteorder.specs.Numbers.{little_from-append}
use Rattle.wire_buf.proofs.EncodingLemmas.{split_prefix}
use Rattle.events_frames.specs.Events.{IsWholeEvent, header_size_field}
use Rattle.events_frames.specs.EventParts.{IsContentError, SmallSize, EndsEarly, GoesOn, TooShort, IsSplitError}
use Rattle.events_frames.specs.Footers.{ChecksumSettings}
use Rattle.events_frames.specs.HeaderLength.{header_sized}
use Rattle.events_frames.specs.Headers.{Header, IsEventHeader}
use Rattle.events_frames.specs.declared.event_error.EventError.{EventError}
use Rattle.events_frames.specs.declared.event_error.EventError.TheVariants.{Frame}
use Rattle.events_owned.proofs.FileLemmas.{whole_long}

regroup : (a b c d e x : List ℕ) → (a ++ (b ++ (c ++ (d ++ e)))) ++ x ≡ (a ++ (b ++ c)) ++ (d ++ (e ++ x))
regroup a b c d e x = simp append_assoc

-- the size in a header comes after nine bytes
size_said : (h : Header) (bytes after event : List ℕ) → IsEventHeader h bytes after → event ≡ bytes ++ after → h.event_size ≡ header_size_field event
size_said h bytes after event t joined =
    let u = t.second_is in
    let v = u.second_is in
    let w = v.second_is in
    let inner : bytes ≡ t.prefix ++ (u.prefix ++ (v.prefix ++ (w.prefix ++ w.suffix))) = rw (t.joined, u.joined, v.joined, w.joined) refl in
    let rows : event ≡ (t.prefix ++ (u.prefix ++ v.prefix)) ++ (w.prefix ++ (w.suffix ++ after)) = joined ∙ ap (λ (l : List ℕ). l ++ after) inner ∙ regroup t.prefix u.prefix v.prefix w.prefix w.suffix after in
    let nine : length (t.prefix ++ (u.prefix ++ v.prefix)) ≡ 9 =
    omega (arith, length-append t.prefix (u.prefix ++ v.prefix), length-append u.prefix v.prefix, t.first_is.size, u.first_is.size, v.first_is.size) in
    let following = (split_prefix 9 event (t.prefix ++ (u.prefix ++ v.prefix)) (w.prefix ++ (w.suffix ++ after)) nine rows).1 in
    w.first_is.value_is ∙ sym (ap (little_number 4) following ∙ little_from-append 4 w.prefix (w.suffix ++ after) (omega (arith, w.first_is.size)))

pub too_short : (in_force : ChecksumSettings) (event : List ℕ) (fault : EventError) → IsWholeEvent event → IsSplitError in_force event fault → fault ≡ Frame
too_short in_force event fault whole (inl short) = absurd (omega (arith, short.1, whole_long event whole))
too_short in_force event fault whole (inr following) = by_content fault following.holds
  where
    size : following.value.event_size ≡ 19 + length following.after
    size =
        let b = following.begins in
        size_said following.value b.bytes following.after event b.is b.joined ∙ whole.size
        ∙ omega (arith, ap length b.joined, length-append b.bytes following.after, header_sized following.value b.bytes following.after b.is)

    by_content : (error : EventError) → IsContentError in_force following.value following.after error → error ≡ Frame
    by_content error (SmallSize small) = refl
    by_content error (EndsEarly early) = absurd (omega (arith, early, size))
    by_content error (GoesOn low on) = absurd (omega (arith, on, size))
    by_content error (TooShort is few) = refl
