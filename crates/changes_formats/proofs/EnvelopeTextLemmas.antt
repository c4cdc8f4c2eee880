-- Strings in pieces.
use Rattle.std.proofs.Common.{◌≡◌, ℕ, List, ◌++◌, take, drop, sym, ap, ap₂, ◌∙◌, append_assoc}
use Rattle.std.specs.List.{flat_map}
use Rattle.std.proofs.lemmas.List.{take-append-drop}
use Rattle.std.proofs.lemmas.List.Concat.{flat_map-append}
use Rattle.changes_writers.specs.JsonStrings.{json_byte}

-- a piece of n bytes was written, and the others remain
pub piece_more : (n : ℕ) (base new all rest piece after : List ℕ) → piece ≡ take n rest → after ≡ drop n rest → new ≡ base ++ flat_map json_byte piece → base ++ flat_map json_byte rest ≡ all → new ++ flat_map json_byte after ≡ all
piece_more n base new all rest piece after p a e h =
    ap₂ (λ (s t : List ℕ). s ++ flat_map json_byte t) (e ∙ ap (λ (t : List ℕ). base ++ flat_map json_byte t) p) a
    ∙ append_assoc base (flat_map json_byte (take n rest)) (flat_map json_byte (drop n rest))
    ∙ ap (λ (t : List ℕ). base ++ t) (sym (flat_map-append json_byte (take n rest) (drop n rest)) ∙ ap (flat_map json_byte) (take-append-drop n rest)) ∙ h
