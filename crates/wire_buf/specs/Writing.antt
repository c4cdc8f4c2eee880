-- What writing a value appends, and what an error leaves.
use Rattle.std.specs.Prelude.{◌≡◌, ◌++◌, ◌⊎◌, ◌≤◌, ℕ, List, length, Option, Some, None, option_map}
use Rattle.wire_buf.specs.declared.fault.WireFault.{WireFault}
use Rattle.wire_buf.specs.declared.fault.WireFault.TheVariants.{Memory, Form}
use Rattle.wire_buf.specs.Encoding.{IsShortest, AreBytes}

-- nothing is appended: out of memory, or the encoding can't hold v
pub record WriteFails {A : Type 0} (encoded : A → Option (List ℕ)) (v : A) (fault : WireFault) (old new : List ℕ) : Type 0 where
  pub unchanged : new ≡ old
  pub why : fault ≡ Memory ⊎ ((fault ≡ Form) × (encoded v ≡ None))

-- the bytes of v are appended, and no encoding of v is shorter
pub record Writes {A : Type 0} (encoded : A → Option (List ℕ)) (encodes : A → List ℕ → Type 0) (v : A) (old new : List ℕ) : Type 0 where
  pub bytes : List ℕ
  pub is : encoded v ≡ Some bytes
  pub appended : new ≡ old ++ bytes
  pub least : IsShortest encodes v bytes

-- The bytes of v are appended: they encode it before each rest that `allows_rest` allows, and no encoding of it is shorter.
pub record WritesField {A : Type 0} (encoded : A → Option (List ℕ)) (encoding : A → List ℕ → List ℕ → Type 0) (allows_rest : List ℕ → Type 0) (v : A) (old new : List ℕ) : Type 0 where
  pub bytes : List ℕ
  pub is : encoded v ≡ Some bytes
  pub appended : new ≡ old ++ bytes
  pub encodes : (rest : List ℕ) → allows_rest rest → encoding v bytes rest
  pub least : (other rest : List ℕ) → encoding v other rest → AreBytes other → length bytes ≤ length other

-- the bytes of one value, then those of another
abbrev pub concat_some : Option (List ℕ) → Option (List ℕ) → Option (List ℕ)
concat_some None rest = None
concat_some (Some prefix) rest = option_map (λ suffix. prefix ++ suffix) rest

-- the bytes written for a pair: those of the first part, then those of the second; None if one of them has none
abbrev pub both_encoded : {A B : Type 0} → (A → Option (List ℕ)) → (B → Option (List ℕ)) → A × B → Option (List ℕ)
both_encoded first second p = concat_some (first p.0) (second p.1)
