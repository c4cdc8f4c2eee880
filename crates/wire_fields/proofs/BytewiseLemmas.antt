-- Bytes are numbers of one byte each.
use Rattle.std.proofs.Common.{◌≡◌, ◌<◌, ◌%◌, ◌^◌, inl, inr, ℕ, suc, List, [], ◌∷◌, length, slice_index, add-zero, arith, refl, sym}
use Rattle.std.proofs.lemmas.Bool.Decides.{leb_tells}
use Rattle.wire_buf.specs.Numbers.{IsLittle}
use Rattle.wire_buf.proofs.NumberLemmas.{byte_reads}
use Rattle.wire_buf.proofs.EncodingLemmas.{IsShortest-fixed}
use Rattle.byteorder.specs.Endian.{little_number}
use Rattle.wire_fields.specs.Ints.{little_encoded}
use Rattle.wire_fields.specs.Bytewise.{AreBytewise, AreWrittenBytewise}

pub bytes_are_read : (bs : List ℕ) → AreBytewise (IsLittle 1) bs bs
bytes_are_read [] = tt
bytes_are_read (b ∷ bs) = ((λ rest. byte_reads b (b ∷ rest) rest (omega arith) refl refl), bytes_are_read bs)

pub bytes_are_written : (bs : List ℕ) → ((k : ℕ) → k < length bs → slice_index bs k < 256) → AreWrittenBytewise (little_encoded 1) (IsLittle 1) (λ v. v) bs bs
bytes_are_written [] h = tt
bytes_are_written (b ∷ bs) h =
    let small : b < 256 = h 0 (omega arith) in
    let same : b % 256 ≡ b = omega (arith, small) in (
      elim (leb_tells (suc b) (256 ^ 1)) [
        | inl t ↦ rw (t.0, same) refl
        | inr t ↦ absurd (omega (arith, t.1, small))
      ],
      IsShortest-fixed (little_number 1) 1 b (b ∷ []) refl (sym (add-zero b)),
      bytes_are_written bs (λ k l. h (suc k) (omega (arith, l))),
    )
