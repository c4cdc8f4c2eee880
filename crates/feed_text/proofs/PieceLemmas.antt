-- Pieces that are appended in sequence.
use Rattle.std.proofs.Common.{◌≡◌, ◌<◌, ℕ, ◌+◌, List, [], ◌∷◌, ◌++◌, length, take, get_or, sym, ap, ◌∙◌, append_assoc}
use Rattle.std.proofs.lemmas.List.{append-nil, take_more}
use Rattle.std.proofs.lemmas.List.Concat.{flat_map-append}
use Rattle.std.specs.Borrow.{Bor}
use Rattle.feed_text.specs.TextPieces.{pieces_text}

pub pieces_more : (pieces : List (Bor (List ℕ))) (i : ℕ) (d : Bor (List ℕ)) → i < length pieces → pieces_text (take (i + 1) pieces) ≡ pieces_text (take i pieces) ++ (get_or pieces i d).now
pieces_more pieces i d h =
    ap (λ (q : List (Bor (List ℕ))). pieces_text q) (take_more pieces i d h)
    ∙ flat_map-append (λ (p : Bor (List ℕ)). p.now) (take i pieces) (get_or pieces i d ∷ [])
    ∙ ap (λ (v : List ℕ). pieces_text (take i pieces) ++ v) (append-nil (get_or pieces i d).now)

-- one more piece was appended
pub piece_put : (old now new : List ℕ) (pieces : List (Bor (List ℕ))) (i : ℕ) (d : Bor (List ℕ)) → i < length pieces → now ≡ old ++ pieces_text (take i pieces) → new ≡ now ++ (get_or pieces i d).now
    → new ≡ old ++ pieces_text (take (i + 1) pieces)
piece_put old now new pieces i d within was put =
    put ∙ ap (λ (t : List ℕ). t ++ (get_or pieces i d).now) was ∙ append_assoc old (pieces_text (take i pieces)) (get_or pieces i d).now
    ∙ ap (λ (t : List ℕ). old ++ t) (sym (pieces_more pieces i d within))
