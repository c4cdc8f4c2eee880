-- Writing, one write after the other.
use Rattle.std.proofs.Common.{◌≡◌, ℕ, List, ◌++◌, length, take, drop, Option, Some, None, sym, subst, ap, ◌∙◌, append_assoc}
use Rattle.std.proofs.Math.Seq.{take-append_seam}
use Rattle.std.proofs.lemmas.List.{take-append-drop}
use Rattle.std.proofs.KnownBytes.{Appends-kept}
use Rattle.std.specs.Io.KnownBytes.{Appends, Keeps}
use Rattle.wire_buf.specs.Transfers.{WritesPrefix}

-- all of the bytes but the rest were written
pub record HasWritten (old new : Option (List ℕ)) (bytes rest : List ℕ) : Type 0 where
  pub prefix : List ℕ
  pub parts : prefix ++ rest ≡ bytes
  pub written : Appends old new prefix

appends_then : (old mid new : Option (List ℕ)) (a b : List ℕ) → Appends old mid a → Appends mid new b → Appends old new (a ++ b)
appends_then None mid new a b p q = tt
appends_then (Some x) None new a b p q = absurd p
appends_then (Some x) (Some y) None a b p q = absurd q
appends_then (Some x) (Some y) (Some z) a b p q = q ∙ ap (λ (t : List ℕ). t ++ b) p ∙ append_assoc x a b

pub writes_more : (old mid new : Option (List ℕ)) (bytes rest after : List ℕ) (n : ℕ) → HasWritten old mid bytes rest → Appends mid new (take n rest) → after ≡ drop n rest → HasWritten old new bytes after
writes_more old mid new bytes rest after n h w e = record {
  prefix = h.prefix ++ take n rest;
  parts = append_assoc h.prefix (take n rest) after ∙ ap (λ (t : List ℕ). h.prefix ++ (take n rest ++ t)) e ∙ ap (λ (t : List ℕ). h.prefix ++ t) (take-append-drop n rest) ∙ h.parts;
  written = appends_then old mid new h.prefix (take n rest) h.written w;
}

-- the writer failed
pub writes_prefix : (old mid new : Option (List ℕ)) (bytes rest : List ℕ) → HasWritten old mid bytes rest → Keeps mid new → WritesPrefix bytes old new
writes_prefix old mid new bytes rest h k = record {
  count = length h.prefix;
  appended = subst (λ (l : List ℕ). Appends old new (take (length h.prefix) l)) h.parts (subst (λ (l : List ℕ). Appends old new l) (sym (take-append_seam h.prefix rest)) (Appends-kept old mid new h.prefix h.written k));
}
