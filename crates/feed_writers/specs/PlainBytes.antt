-- Bytes that need no escape between quotes.
use Rattle.std.specs.Prelude.{◌≡◌, ◌<◌, ℕ, List, slice_index, true}
use Rattle.feed_writers.specs.Quoting.{is_plain_byte}

-- the first n bytes need no escape
abbrev pub IsPlainPrefix : List ℕ → ℕ → Type 0
IsPlainPrefix bytes n = (k : ℕ) → k < n → is_plain_byte (slice_index bytes k) ≡ true
