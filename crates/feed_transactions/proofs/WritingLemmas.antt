-- Writing, one write after the other.
use Rattle.std.proofs.Common.{◌≡◌, ℕ, List, ◌++◌, take, drop, Option, Some, None, ap, ◌∙◌, append_assoc}
use Rattle.std.proofs.lemmas.List.{take-append-drop}
use Rattle.std.specs.Io.KnownBytes.{Appends}
use Rattle.feed_transactions.specs.InterruptedWrites.{HasWritten}

pub Appends-then : (old mid new : Option (List ℕ)) (a b : List ℕ) → Appends old mid a → Appends mid new b → Appends old new (a ++ b)
Appends-then None mid new a b p q = tt
Appends-then (Some x) None new a b p q = absurd p
Appends-then (Some x) (Some y) None a b p q = absurd q
Appends-then (Some x) (Some y) (Some z) a b p q = q ∙ ap (λ (t : List ℕ). t ++ b) p ∙ append_assoc x a b

pub HasWritten-more : (old mid new : Option (List ℕ)) (bytes rest after : List ℕ) (n : ℕ) → HasWritten old mid bytes rest → Appends mid new (take n rest) → after ≡ drop n rest → HasWritten old new bytes after
HasWritten-more old mid new bytes rest after n h w e = record {
  prefix = h.prefix ++ take n rest;
  parts = append_assoc h.prefix (take n rest) after ∙ ap (λ (t : List ℕ). h.prefix ++ (take n rest ++ t)) e ∙ ap (λ (t : List ℕ). h.prefix ++ t) (take-append-drop n rest) ∙ h.parts;
  written = Appends-then old mid new h.prefix (take n rest) h.written w;
}
