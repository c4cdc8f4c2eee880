-- Fields whose bytes are constant: what is read, and that what is written is a shortest encoding.
use Rattle.std.proofs.Common.{◌≡◌, ◌<◌, ◌^◌, ◌++◌, ℕ, List, length, Some, arith, inr, refl, subst}
use Rattle.std.specs.Bool.{⊤}
use Rattle.byteorder.specs.Endian.{little_bytes}
use Rattle.wire_buf.specs.Encoding.{Begins, Reads, Lacks, Alone, IsBytes}
use Rattle.wire_buf.specs.Numbers.{IsLittle}
use Rattle.wire_buf.specs.Writing.{WritesField}
use Rattle.wire_buf.specs.declared.fault.WireFault.{WireFault}
use Rattle.wire_buf.specs.declared.fault.WireFault.TheVariants.{BadConst}
use Rattle.wire_buf.proofs.LenencLemmas.{little_bytes-sound}
use Rattle.wire_fields_extra.specs.Consts.{ConstFails}

-- the bytes begin with a value that is no constant
pub unknown_begins : {N : Type 0} (unknown : N → Type 0) (encodes : N → List ℕ → Type 0) (fault_at : List ℕ → WireFault) (v : N) (x r : List ℕ)
    → Reads (Alone encodes) v x r → unknown v → ConstFails unknown encodes fault_at x BadConst
unknown_begins unknown encodes fault_at v x r p none = inr (record { value = v; after = r; begins = p.begins; holds = none }, refl)

-- a value that must be v
module _ {A : Type 0} (encodes : A → List ℕ → List ℕ → Type 0) (v : A) where
  pub constant_reads : (w : A) (x r : List ℕ) → w ≡ v → Reads encodes w x r → Reads {A = Unit {0}} (λ u. encodes v) tt x r
  constant_reads w x r e p = record {
    begins = subst (λ (a : A). Begins (encodes a) x r) e p.begins;
    only = λ u s t. ((p.only v s t).0, refl);
  }

  pub constant_lacks : (w : A) (x r : List ℕ) → (w ≡ v → ⊥) → Reads encodes w x r → Lacks {A = Unit {0}} (λ u. encodes v) x
  constant_lacks w x r other p u s t = other (p.only v s t).1

-- a number in n bytes
pub number_written : (n k : ℕ) (old new : List ℕ) → k < 256 ^ n → new ≡ old ++ little_bytes n k
    → WritesField {A = Unit {0}} (λ v. Some (little_bytes n k)) (λ v. Alone (IsLittle n) k) (λ rest. ⊤) tt old new
number_written n k old new fits appended = let is = little_bytes-sound n k fits in record {
  bytes = little_bytes n k;
  is = refl;
  appended = appended;
  encodes = λ rest s. is;
  least = λ other rest h are. let size = is.size in let e = h.size in omega (arith, size, e);
}

-- n raw bytes
pub constant_written : (n : ℕ) (v old new : List ℕ) → length v ≡ n → new ≡ old ++ v
    → WritesField {A = Unit {0}} (λ w. Some v) (λ w. Alone (IsBytes n) v) (λ rest. ⊤) tt old new
constant_written n v old new size appended = record {
  bytes = v;
  is = refl;
  appended = appended;
  encodes = λ rest s. record { size = size; bytes_are = refl };
  least = λ other rest h are. let e = h.size in omega (arith, size, e);
}
