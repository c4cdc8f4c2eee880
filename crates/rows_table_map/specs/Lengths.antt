-- The results of the `len` methods of events.
use Rattle.std.specs.Prelude.{◌≡◌, ℕ, List, length, min, Option, IfSome}

-- n is the number of bytes that are written, if the value can be written, and at most 4294967276
abbrev pub IsEventLen : Option (List ℕ) → ℕ → Type 0
IsEventLen encoding_is n = IfSome encoding_is (λ bytes. n ≡ min (length bytes) 4294967276)
