-- Numbers of n bytes in a byte order that is given by its two functions.
use Rattle.std.proofs.Common.{◌≡◌, ◌++◌, ℕ, List, [], length, refl, sym, ap, ◌∙◌, Option, Some}
use Rattle.std.specs.Prelude.{option_map}
use Rattle.std.proofs.lemmas.List.{append-nil}
use Rattle.wire_buf.specs.Encoding.{IsFixed}
use Rattle.wire_buf.specs.Writing.{Writes}
use Rattle.wire_buf.proofs.EncodingLemmas.{IsShortest-fixed}

pub fixed_writes : {A : Type 0} (value_of : ℕ → A) (number_of : List ℕ → ℕ) (bytes_of : ℕ → List ℕ) (bits_of : A → Option ℕ) (n b : ℕ) (v : A) (old new : List ℕ)
    → bits_of v ≡ Some b → v ≡ value_of b → number_of (bytes_of b ++ []) ≡ b → length (bytes_of b) ≡ n → new ≡ old ++ bytes_of b
    → Writes (λ w. option_map bytes_of (bits_of w)) (IsFixed (λ bytes. value_of (number_of bytes)) n) v old new
fixed_writes value_of number_of bytes_of bits_of n b v old new has is back size appended = record {
  bytes = bytes_of b;
  is = rw has refl;
  appended = appended;
  least = IsShortest-fixed (λ bytes. value_of (number_of bytes)) n v (bytes_of b) size
      (is ∙ ap value_of (sym back ∙ ap number_of (append-nil (bytes_of b))));
}
