-- The groups of a UUID, appended in sequence.
use Rattle.std.proofs.Common.{◌≡◌, ℕ, List, ◌∷◌, ◌++◌, length, take, drop, ap, ◌∙◌, append_assoc, arith}
use Rattle.std.proofs.lemmas.List.{take_all}
use Rattle.std.proofs.Math.ListN.{length-drop}
use Rattle.hex.specs.Hex.{encode_lower}
use Rattle.feed_text.specs.Uuids.{uuid_text}

-- one text, and then another
joined : (old mid new a b : List ℕ) → mid ≡ old ++ a → new ≡ mid ++ b → new ≡ old ++ (a ++ b)
joined old mid new a b first second = second ∙ ap (λ (t : List ℕ). t ++ b) first ∙ append_assoc old a b

-- the five groups of a UUID
pub uuid_put : (u old t0 t1 t2 t3 new : List ℕ) → length u ≡ 16 → t0 ≡ old ++ encode_lower (take 4 u) → t1 ≡ t0 ++ 45 ∷ encode_lower (take 2 (drop 4 u)) → t2 ≡ t1 ++ 45 ∷ encode_lower (take 2 (drop 6 u))
    → t3 ≡ t2 ++ 45 ∷ encode_lower (take 2 (drop 8 u)) → new ≡ t3 ++ 45 ∷ encode_lower (take 6 (drop 10 u)) → new ≡ old ++ uuid_text u
uuid_put u old t0 t1 t2 t3 new sixteen a b c d e =
    let all : take 6 (drop 10 u) ≡ drop 10 u = take_all 6 (drop 10 u) (omega (arith, sixteen, length-drop 10 u)) in
    joined old t3 new _ _ (joined old t2 t3 _ _ (joined old t1 t2 _ _ (joined old t0 t1 _ _ a b) c) d) (e ∙ ap (λ (l : List ℕ). t3 ++ 45 ∷ encode_lower l) all)
