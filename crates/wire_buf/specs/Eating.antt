-- What the calls of a `ParseBuf` take from the start of the remaining bytes.
use Rattle.std.specs.Prelude.{◌≡◌, ◌≢◌, ◌≤◌, ◌<◌, ◌+◌, ℕ, List, length, take, drop, slice_index}

-- at least n bytes were there; n are taken, and v is their value
pub record Eats {A : Type 0} (value : List ℕ → A) (n : ℕ) (v : A) (before after : List ℕ) : Type 0 where
  pub room : n ≤ length before
  pub value_is : v ≡ value before
  pub rest : after ≡ drop n before

-- fewer than n bytes were there, and nothing is taken
pub record IsShort (n : ℕ) (before after : List ℕ) : Type 0 where
  pub missing : length before < n
  pub unchanged : after ≡ before

-- the bytes before the first zero are taken and the zero is skipped; all bytes are taken if there is no zero
pub record TakesToZero (taken before after : List ℕ) : Type 0 where
  pub at : ℕ
  pub within : at ≤ length before
  pub taken_is : taken ≡ take at before
  pub rest : after ≡ drop (at + 1) before
  pub before_zero : (k : ℕ) → k < at → slice_index before k ≢ 0
  pub zero_at : at < length before → slice_index before at ≡ 0
