-- Values read from a reader whose bytes may be known.
use Rattle.std.specs.Prelude.{◌≡◌, ℕ, List, length, Option, Some, None, ⊤}
use Rattle.std.specs.Io.KnownBytes.{Consumes, IsAtEnd}
use Rattle.wire_buf.specs.declared.fault.WireFault.{WireFault}
use Rattle.wire_buf.specs.declared.fault.WireFault.TheVariants.{Eof, BadNumber, Memory, Read}
use Rattle.wire_buf.specs.Encoding.{Encoding, Reads, Lacks}

-- v is the one value that the reader's bytes begin with, if they are known, and the bytes after it remain
abbrev pub ReadsFrom : {A : Type 0} → Encoding A → A → Option (List ℕ) → Option (List ℕ) → Type 0
ReadsFrom encodes v None new = ⊤
ReadsFrom encodes v (Some xs) None = ⊥
ReadsFrom encodes v (Some xs) (Some ys) = Reads encodes v xs ys

-- the known bytes begin with no value
abbrev pub LacksIn : {A : Type 0} → Encoding A → Option (List ℕ) → Type 0
LacksIn encodes None = ⊤
LacksIn encodes (Some xs) = Lacks encodes xs

-- why no value was read: at `Eof` there is none and no byte remains; at `BadNumber` there is none and one byte is taken; `Read` says nothing about the bytes
abbrev pub IsCause : {A : Type 0} → Encoding A → WireFault → List ℕ → Option (List ℕ) → Option (List ℕ) → Type 0
IsCause encodes Eof taken old new = LacksIn encodes old × IsAtEnd new
IsCause encodes BadNumber taken old new = LacksIn encodes old × (length taken ≡ 1)
IsCause encodes Read taken old new = ⊤
IsCause encodes fault taken old new = ⊥

-- some bytes were taken, and the fault is why no value was read
pub record FailsFrom {A : Type 0} (encodes : A → List ℕ → List ℕ → Type 0) (fault : WireFault) (old new : Option (List ℕ)) : Type 0 where
  pub taken : List ℕ
  pub consumed : Consumes old new taken
  pub cause : IsCause encodes fault taken old new

-- some bytes were taken before memory ran out
pub record RunsOutOfMemory (fault : WireFault) (old new : Option (List ℕ)) : Type 0 where
  pub is : fault ≡ Memory
  pub taken : List ℕ
  pub consumed : Consumes old new taken
