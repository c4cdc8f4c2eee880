-- The zeros that are written for bytes without meaning are a shortest encoding of them.
use Rattle.std.proofs.Common.{◌≡◌, ◌++◌, ℕ, List, length, replicate, Some, arith, refl}
use Rattle.std.specs.Bool.{⊤}
use Rattle.std.proofs.lemmas.List.{length-replicate}
use Rattle.wire_buf.specs.Writing.{WritesField}
use Rattle.wire_fields.specs.ByteStrings.{IsSkipped}

-- n zeros for bytes without meaning
pub zeros_written : (n : ℕ) (old new : List ℕ) → new ≡ old ++ replicate n 0
    → WritesField {A = Unit {0}} (λ w. Some (replicate n 0)) (λ w. IsSkipped n) (λ rest. ⊤) tt old new
zeros_written n old new appended =
    let size : length (replicate n 0) ≡ n = length-replicate n 0 in
    record {
      bytes = replicate n 0;
      is = refl;
      appended = appended;
      encodes = λ rest s. size;
      least = λ other rest h are. omega (arith, size, h);
    }
