-- Byte strings as bytes: the rest of a packet, null-terminated strings, strings of fixed length, and the bytes written for them. `Numbers` of wire_buf defines strings with a length prefix.
use Rattle.std.specs.Prelude.{◌≡◌, ◌≢◌, ◌++◌, ◌<◌, ◌-◌, ◌⊎◌, ℕ, List, [], ◌∷◌, length, take, take_while, replicate, slice_index, not, ◌==◌}
use Rattle.wire_buf.specs.Encoding.{Alone, BeginsWith, Lacks}
use Rattle.wire_buf.specs.declared.fault.WireFault.{WireFault}
use Rattle.wire_buf.specs.declared.fault.WireFault.TheVariants.{Eof}
use Rattle.wire_fields.specs.Sevens.{varlen_encoded}

-- all remaining bytes
pub record IsAll (v bytes rest : List ℕ) : Type 0 where
  pub bytes_are : v ≡ bytes
  pub ends : rest ≡ []

-- bytes that aren't zero, followed by a zero
pub record IsNullTerminated (v bytes : List ℕ) : Type 0 where
  pub joined : bytes ≡ v ++ (0 ∷ [])
  pub no_zero : (k : ℕ) → k < length v → slice_index v k ≢ 0

-- the bytes before the first zero
abbrev pub before_zero : List ℕ → List ℕ
before_zero v = take_while (λ b. not (b == 0)) v

-- the first n bytes; a shorter string is padded with zeros up to n
abbrev pub padded_bytes : ℕ → List ℕ → List ℕ
padded_bytes n v = take n v ++ replicate (n - length v) 0

-- the length as a `VarLen` integer, then the bytes
abbrev pub varlen_string_encoded : List ℕ → List ℕ
varlen_string_encoded v = varlen_encoded (length v) ++ v

-- the error at bytes that begin with no length-prefixed string: that of the length if there is none, or `Eof` if there is a length but its bytes are missing
abbrev pub CountedFails : (ℕ → List ℕ → Type 0) → (List ℕ → WireFault) → List ℕ → WireFault → Type 0
CountedFails counts fault_at x fault =
    (Lacks (Alone counts) x × (fault ≡ fault_at x)) ⊎ (BeginsWith (Alone counts) x × (fault ≡ Eof))

-- n bytes without meaning
abbrev pub IsSkipped : ℕ → List ℕ → List ℕ → Type 0
IsSkipped n bytes rest = length bytes ≡ n
