-- The events of a file, each written, are its bytes.
use Rattle.std.proofs.Common.{◌≡◌, ◌++◌, ◌∙◌, ℕ, List, Option, Some, None, refl, sym, ap, subst, append_assoc}
use Rattle.std.specs.Io.KnownBytes.{Consumes}
use Rattle.wire_buf.specs.Encoding.{AreBytes}
use Rattle.wire_buf.proofs.WritingLemmas.{AreBytes-prefix, AreBytes-suffix}
use Rattle.events_owned.specs.Files.{File}
use Rattle.mysql_binlog_events.specs.WrittenAgain.{WritesAll, NoEvent, OneMore, IsFileWrittenBack}
use Rattle.mysql_binlog_events.proofs.WrittenAgainLemmas.{written_back}

-- the bytes before a read are those that were read, and then the remaining ones
after_read : (old new : Option (List ℕ)) (event all : List ℕ) → Consumes old new event → old ≡ Some all → (remaining : List ℕ) × (new ≡ Some remaining) × (all ≡ event ++ remaining)
after_read (Some xs) (Some ys) event all h was = let a : all ≡ xs = cc was in (ys, refl, a ∙ h)
after_read (Some xs) None event all h was = absurd h
after_read None new event all h was = absurd (cc was)

known : (is_sum : List ℕ → ℕ → Type 0) (first last : File) (bytes written : List ℕ) → first.remaining ≡ Some bytes → WritesAll is_sum first written last → (remaining : List ℕ) × (last.remaining ≡ Some remaining)
known is_sum first last bytes written was NoEvent = (bytes, was)
known is_sum first last bytes written was (OneMore older more old new p h e own w) =
    let k = known is_sum first old bytes older was h in
    let r = after_read old.remaining new.remaining e.event k.0 e.consumed k.1 in
    (r.0, r.1)

pub file_written_back : (is_sum : List ℕ → ℕ → Type 0) → IsFileWrittenBack is_sum
file_written_back is_sum first last bytes remaining written are was is NoEvent = let same : bytes ≡ remaining = cc (sym was ∙ is) in same
file_written_back is_sum first last bytes remaining written are was is (OneMore older more old new p h e own w) =
    let k = known is_sum first old bytes older was h in
    let before : bytes ≡ older ++ k.0 = file_written_back is_sum first old bytes k.0 older are was k.1 h in
    let r = after_read old.remaining new.remaining e.event k.0 e.consumed k.1 in
    let same : r.0 ≡ remaining = cc (sym r.1 ∙ is) in
    let joined : bytes ≡ older ++ (e.event ++ remaining) = before ∙ ap (λ (l : List ℕ). older ++ l) (r.2 ∙ ap (λ (l : List ℕ). e.event ++ l) same) in
    let event_are : AreBytes e.event = AreBytes-prefix e.event remaining (AreBytes-suffix older (e.event ++ remaining) (subst AreBytes joined are)) in
    let again : more ≡ e.event = written_back is_sum _ p e.event more event_are e.taken.takes.is own w in
    joined ∙ sym (append_assoc older e.event remaining) ∙ ap (λ (l : List ℕ). (older ++ l) ++ remaining) (sym again)
