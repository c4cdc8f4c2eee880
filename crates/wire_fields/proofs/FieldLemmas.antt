-- Raw bytes, and bytes without meaning.
use Rattle.std.proofs.Common.{◌≡◌, ◌≤◌, ℕ, List, length, take, drop, refl, sym, ◌∙◌}
use Rattle.std.proofs.lemmas.List.{take-append-drop, length-take-le}
use Rattle.wire_buf.specs.Encoding.{Reads, Alone, IsBytes}
use Rattle.wire_buf.proofs.EncodingLemmas.{split_prefix}
use Rattle.wire_fields.specs.ByteStrings.{IsSkipped}

-- n raw bytes
pub bytes_read : (n : ℕ) (v x r : List ℕ) → n ≤ length x → v ≡ take n x → r ≡ drop n x → Reads (Alone (IsBytes n)) v x r
bytes_read n v x r room is rest =
    let size = length-take-le n x room in
    record {
      begins = record {
        bytes = take n x;
        joined = rw rest (sym (take-append-drop n x));
        is = record { size = size; bytes_are = is };
      };
      only = λ w s t. let p = split_prefix n x t.bytes s t.is.size t.joined in ((sym p.1 ∙ sym rest), (is ∙ p.0 ∙ sym t.is.bytes_are));
    }

-- n bytes without meaning
pub skipped : (n : ℕ) (x r : List ℕ) → n ≤ length x → r ≡ drop n x → Reads {A = Unit {0}} (λ v. IsSkipped n) tt x r
skipped n x r room rest = record {
  begins = record { bytes = take n x; joined = rw rest (sym (take-append-drop n x)); is = length-take-le n x room };
  only = λ w s t. let p = split_prefix n x t.bytes s t.is t.joined in ((sym p.1 ∙ sym rest), refl);
}
