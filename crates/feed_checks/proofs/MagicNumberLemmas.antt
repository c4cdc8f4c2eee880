-- The magic number as the first four bytes of a reader.
use Rattle.std.proofs.Common.{◌≡◌, inl, inr, ℕ, ◌<◌, ◌≤◌, Bool, true, false, List, [], ◌++◌, length, take, Option, Some, None, refl, sym, ap, subst, ◌∙◌, arith, eqb}
use Rattle.std.specs.Io.KnownBytes.{Consumes, IsAtEnd}
use Rattle.std.specs.Cmp.Lexicographic.{pointwise}
use Rattle.std.proofs.lemmas.Bool.{cases_lt}
use Rattle.std.proofs.lemmas.Bool.Decides.{Decides-eqb}
use Rattle.std.proofs.lemmas.Slice.Eq.{slice_eq-Decides}
use Rattle.std.proofs.lemmas.List.{append-nil, take_all}
use Rattle.std.proofs.Math.Seq.{take-append_seam}
use Rattle.events_frames.specs.Frames.{AppendsNext}
use Rattle.feed_checks.specs.LogFormat.{magic_number, has_magic_number}
use Rattle.feed_checks.specs.MagicNumbers.{ReadsMagicNumber, IsNoMagicNumber}

-- the first four of the bytes, if at most four were taken
prefix_four : (taken rest : List ℕ) → length taken ≤ 4 → (length taken < 4 → rest ≡ []) → take 4 (taken ++ rest) ≡ taken
prefix_four taken rest most all =
    elim (cases_lt (length taken) 4) [
      | inl lt ↦ ap (λ (r : List ℕ). take 4 (taken ++ r)) (all lt) ∙ ap (take 4) (append-nil taken) ∙ take_all 4 taken most
      | inr ge ↦ let e : length taken ≡ 4 = omega arith in ap (λ (n : ℕ). take n (taken ++ rest)) (sym e) ∙ take-append_seam taken rest
    ]

no_magic : (new : Option (List ℕ)) (taken : List ℕ) → length taken ≤ 4 → (length taken < 4 → IsAtEnd new) → has_magic_number taken ≡ false → IsNoMagicNumber new taken
no_magic None taken most all h = tt
no_magic (Some rest) taken most all h = ap (pointwise eqb magic_number) (prefix_four taken rest most all ∙ sym (take_all 4 taken most)) ∙ h

pub magic_read : (old new : Option (List ℕ)) (bytes : List ℕ) (same : Bool) → AppendsNext 4 old new [] bytes → same ≡ has_magic_number bytes → ReadsMagicNumber old new same
magic_read old new bytes true g h =
    let is : magic_number ≡ take 4 g.taken = (slice_eq-Decides Decides-eqb magic_number (take 4 g.taken) true (h ∙ ap has_magic_number g.appended)).0 refl in
    subst (Consumes old new) (sym (is ∙ take_all 4 g.taken g.at_most)) g.consumed
magic_read old new bytes false g h = (g.taken, g.consumed, no_magic new g.taken g.at_most g.all (sym (h ∙ ap has_magic_number g.appended)))
