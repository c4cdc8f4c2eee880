-- Sequences of fields: an encoded count, then that many elements.
use Rattle.std.specs.Prelude.{◌≡◌, ℕ, List, [], ◌∷◌, length, Option, Some, ◌⊎◌, ◌<◌}
use Rattle.wire_buf.specs.Encoding.{Encoding, IsSequence, ◌⨾◌, Alone, Lacks, BeginsWith}
use Rattle.wire_buf.specs.Writing.{concat_some}
use Rattle.wire_buf.specs.declared.fault.WireFault.{WireFault}
use Rattle.wire_buf.specs.declared.fault.WireFault.TheVariants.{Eof, Memory}
use Rattle.wire_buf.specs.ReadErrors.{BeginsThen, ParseFails}

-- as many values as the list has, in sequence
abbrev pub IsSequenceOf : {A : Type 0} → Encoding A → Encoding (List A)
IsSequenceOf encodes vs = IsSequence (length vs) encodes vs

-- the number of elements, then the elements
abbrev pub IsCountedSequence : {A : Type 0} → (ℕ → List ℕ → Type 0) → Encoding A → Encoding (List A)
IsCountedSequence counts encodes vs = Alone counts (length vs) ⨾ IsSequenceOf encodes vs

-- the bytes of the values in sequence; None if one of them has none
abbrev pub joined_encoded : {A : Type 0} → (A → Option (List ℕ)) → List A → Option (List ℕ)
joined_encoded encoded [] = Some []
joined_encoded encoded (v ∷ vs) = concat_some (encoded v) (joined_encoded encoded vs)

-- the bytes written for values: the count, then their bytes
abbrev pub sequence_encoded : {A : Type 0} → (ℕ → List ℕ) → (A → Option (List ℕ)) → List A → Option (List ℕ)
sequence_encoded count_encoded encoded vs = concat_some (Some (count_encoded (length vs))) (joined_encoded encoded vs)

-- the bytes begin with fewer than n whole values; reading the next one returns the fault, or the next one is there too and the fault is out of memory
pub record ItemsFail {A E : Type 0} (n : ℕ) (encodes : A → List ℕ → List ℕ → Type 0) (fails_with : List ℕ → E → Type 0) (no_memory : E → Type 0) (x : List ℕ) (fault : E) : Type 0 where
  pub count : ℕ
  pub fewer : count < n
  pub next : BeginsThen (IsSequence count encodes) (λ vs rest. fails_with rest fault ⊎ (BeginsWith encodes rest × no_memory fault)) x

-- the bytes begin with no count, or with a count and reading the values after it returns the fault
abbrev pub SequenceFails : {E : Type 0} → (ℕ → List ℕ → Type 0) → (E → Type 0) → (ℕ → List ℕ → E → Type 0) → List ℕ → E → Type 0
SequenceFails counts no_count items x fault =
    (Lacks (Alone counts) x × no_count fault) ⊎ BeginsThen (Alone counts) (λ n rest. items n rest fault) x

-- the bytes begin with no number, and the fault is that of the number; or they are fewer than its size, and the fault is `Eof`
abbrev pub NumberFails : {N : Type 0} → Option ℕ → (N → List ℕ → Type 0) → (List ℕ → WireFault) → List ℕ → WireFault → Type 0
NumberFails size encodes fault_at =
    ParseFails size (λ x fault. Lacks (Alone encodes) x × (fault ≡ fault_at x)) (λ fault. fault ≡ Eof)

-- the same after fewer than n whole numbers, or out of memory for the next one
abbrev pub NumbersFail : {N : Type 0} → ℕ → Option ℕ → (N → List ℕ → Type 0) → (List ℕ → WireFault) → List ℕ → WireFault → Type 0
NumbersFail n size encodes fault_at =
    ItemsFail n (Alone encodes) (NumberFails size encodes fault_at) (λ fault. fault ≡ Memory)
