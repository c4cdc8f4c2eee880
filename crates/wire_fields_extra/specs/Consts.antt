-- Which error comes when a constant is read.
use Rattle.std.specs.Prelude.{◌≡◌, ◌⊎◌, ℕ, List}
use Rattle.wire_buf.specs.declared.fault.WireFault.{WireFault}
use Rattle.wire_buf.specs.declared.fault.WireFault.TheVariants.{BadConst}
use Rattle.wire_buf.specs.Encoding.{Alone, Lacks}
use Rattle.wire_buf.specs.ReadErrors.{BeginsThen}

-- the bytes begin with no number, and the fault is that of the number; or they begin with a number that no constant has, and the fault is `BadConst`
abbrev pub ConstFails : {N : Type 0} → (N → Type 0) → (N → List ℕ → Type 0) → (List ℕ → WireFault) → List ℕ → WireFault → Type 0
ConstFails unknown encodes fault_at x fault =
    (Lacks (Alone encodes) x × (fault ≡ fault_at x)) ⊎ (BeginsThen (Alone encodes) (λ n rest. unknown n) x × (fault ≡ BadConst))

-- the number of a constant, encoded
pub record IsConstant {C N : Type 0} (number : C → N) (encodes : N → List ℕ → List ℕ → Type 0) (n : N) (bytes rest : List ℕ) : Type 0 where
  pub constant : C
  pub number_is : number constant ≡ n
  pub encoding_is : encodes n bytes rest
