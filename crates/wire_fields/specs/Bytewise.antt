-- Integers of one byte each: a whole slice of them is read and written at once.
use Rattle.std.specs.Prelude.{◌≡◌, ℕ, List, [], ◌∷◌, Option, Some}
use Rattle.wire_buf.specs.Encoding.{Reads, Alone, IsShortest}

-- each integer is the one that its byte encodes, whatever follows
abbrev pub AreBytewise : {N : Type 0} → (N → List ℕ → Type 0) → List N → List ℕ → Type 0
AreBytewise encodes [] [] = Unit {0}
AreBytewise encodes (v ∷ vs) (b ∷ bs) = ((rest : List ℕ) → Reads (Alone encodes) v (b ∷ rest) rest) × AreBytewise encodes vs bs
AreBytewise encodes vs bs = ⊥

-- each byte is what is written for its integer, and a shortest encoding of it
abbrev pub AreWrittenBytewise : {N : Type 0} → (N → Option (List ℕ)) → (N → List ℕ → Type 0) → (N → N) → List N → List ℕ → Type 0
AreWrittenBytewise encoded encodes kept [] [] = Unit {0}
AreWrittenBytewise encoded encodes kept (v ∷ vs) (b ∷ bs) =
    (encoded (kept v) ≡ Some (b ∷ [])) × IsShortest encodes (kept v) (b ∷ []) × AreWrittenBytewise encoded encodes kept vs bs
AreWrittenBytewise encoded encodes kept vs bs = ⊥
