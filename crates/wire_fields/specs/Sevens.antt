-- `VarLen` integers: seven bits a byte, the lowest first, the top bit set if more bytes follow; at most five bytes and 32 bits (MySQL's source, json_binary.cc, read_variable_length).
use Rattle.std.specs.Prelude.{◌<◌, ◌≤◌, ◌+◌, ◌*◌, ◌-◌, ◌/◌, ◌%◌, ◌^◌, ℕ, zero, suc, List, [], ◌∷◌, Option, Some, None, nat_lt, if◌then◌else◌, option_map}

-- v in at most k bytes: the low seven bits of byte i count 128 ^ i, and all bytes but the last have their top bit set
pub data IsSevens : ℕ → ℕ → List ℕ → Type 0 where
  last : {k b : ℕ} → b < 128 → IsSevens (suc k) b (b ∷ [])
  more : {k d v : ℕ} {bytes : List ℕ} → 128 ≤ d → IsSevens k v bytes → IsSevens (suc k) ((d - 128) + 128 * v) (d ∷ bytes)

-- at most five bytes, and an integer of 32 bits
pub record IsVarLen (v : ℕ) (bytes : List ℕ) : Type 0 where
  pub sevens : IsSevens 5 v bytes
  pub fits : v < 2 ^ 32

-- the shortest encoding, in at most k bytes
unfoldable pub sevens_encoded : ℕ → ℕ → List ℕ
sevens_encoded zero v = []
sevens_encoded (suc k) v = if nat_lt v 128 then v ∷ [] else (v % 128 + 128) ∷ sevens_encoded k (v / 128)

abbrev pub varlen_encoded : ℕ → List ℕ
varlen_encoded v = sevens_encoded 5 v

-- the number in at most k bytes at the start, and the bytes after it
unfoldable pub sevens_split : ℕ → List ℕ → Option (ℕ × List ℕ)
sevens_split zero x = None
sevens_split (suc k) [] = None
sevens_split (suc k) (b ∷ x) = if nat_lt b 128 then Some (b, x) else option_map (λ p. ((b - 128) + 128 * p.0, p.1)) (sevens_split k x)
