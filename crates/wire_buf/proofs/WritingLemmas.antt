-- The bytes written for fields in sequence.
use Rattle.std.proofs.Common.{◌≡◌, ◌++◌, ◌⊎◌, inl, inr, ℕ, suc, List, [], ◌∷◌, append_assoc, sym, ap, ◌∙◌, refl, subst, ◌≤◌, ◌<◌, length, take, arith, Option, Some, None, Result, Ok, Err, OnOk, OnErr, IfErr, IsErr, IsErrAnd}
use Rattle.std.specs.Bool.{⊤}
use Rattle.std.proofs.lemmas.List.{length-append, get_or_past}
use Rattle.std.proofs.lemmas.Bool.Decides.{leb_tells}
use Rattle.std.proofs.lemmas.Result.{err_from_is_err_and}
use Rattle.std.proofs.Math.ListN.{get_or-append}
use Rattle.std.proofs.Math.Seq.{take-append_seam}
use Rattle.wire_buf.specs.Encoding.{AreBytes, Alone, Both, IsBytes}
use Rattle.wire_buf.specs.Writing.{Writes, WritesField, WriteFails, both_encoded}
use Rattle.wire_buf.specs.declared.fault.WireFault.{WireFault}
use Rattle.wire_buf.specs.declared.fault.WireFault.TheVariants.{Memory, Form}

pub AreBytes-prefix : (a b : List ℕ) → AreBytes (a ++ b) → AreBytes a
AreBytes-prefix a b h k = elim (leb_tells (length a) k) [
  | inl t ↦ rw (get_or_past a k 0 t.1) (omega arith)
  | inr t ↦ subst (λ (n : ℕ). n < 256) (get_or-append a b 0 k (omega (arith, t.1))) (h k)
]

pub AreBytes-suffix : (a b : List ℕ) → AreBytes (a ++ b) → AreBytes b
AreBytes-suffix [] b h k = h k
AreBytes-suffix (x ∷ a) b h k = AreBytes-suffix a b (λ j. h (suc j)) k

-- a number in its fewest bytes
pub writes_field : {A : Type 0} {encoded : A → Option (List ℕ)} {encodes : A → List ℕ → Type 0} {v : A} {old new : List ℕ}
    → Writes encoded encodes v old new → WritesField encoded (Alone encodes) (λ rest. ⊤) v old new
writes_field w = record {
  bytes = w.bytes;
  is = w.is;
  appended = w.appended;
  encodes = λ rest s. w.least.is;
  least = λ other rest h are. w.least.least other h are;
}

-- n raw bytes
pub bytes_written : (n : ℕ) (v old new : List ℕ) → length v ≡ n → new ≡ old ++ v → WritesField (λ (w : List ℕ). Some w) (Alone (IsBytes n)) (λ rest. ⊤) v old new
bytes_written n v old new size appended = record {
  bytes = v;
  is = refl;
  appended = appended;
  encodes = λ rest s. record { size = size; bytes_are = refl };
  least = λ other rest h are. let e = h.size in omega (arith, size, e);
}

-- raw bytes of their own length
pub all_written : (v old new : List ℕ) → new ≡ old ++ v → WritesField (λ (w : List ℕ). Some w) (λ w. Alone (IsBytes (length w)) w) (λ rest. ⊤) v old new
all_written v old new appended = record {
  bytes = v;
  is = refl;
  appended = appended;
  encodes = λ rest s. record { size = refl; bytes_are = refl };
  least = λ other rest h are. let e = h.size in omega (arith, e);
}

-- one field, then another
module _ {A B : Type 0} (f : A → List ℕ → List ℕ → Type 0) (g : B → List ℕ → List ℕ → Type 0) (pf : A → Option (List ℕ)) (pg : B → Option (List ℕ))
    (sf sg : List ℕ → Type 0) (v : A) (w : B) where
  pub pair_written : (old mid new : List ℕ) → ((rest : List ℕ) → sf rest) → WritesField pf f sf v old mid → WritesField pg g sg w mid new
      → WritesField (both_encoded pf pg) (Both f g) sg (v, w) old new
  pair_written old mid new any h k = record {
    bytes = h.bytes ++ k.bytes;
    is = rw (h.is, k.is) refl;
    appended = k.appended ∙ ap (λ (l : List ℕ). l ++ k.bytes) h.appended ∙ append_assoc old h.bytes k.bytes;
    encodes = λ rest s. record { prefix = h.bytes; suffix = k.bytes; joined = refl; first_is = h.encodes _ (any _); second_is = k.encodes rest s };
    least = λ other rest t are.
        let joined = t.joined in
        let all : AreBytes (t.prefix ++ t.suffix) = subst AreBytes joined are in
        let a = h.least t.prefix _ t.first_is (AreBytes-prefix t.prefix t.suffix all) in
        let b = k.least t.suffix rest t.second_is (AreBytes-suffix t.prefix t.suffix all) in
        omega (arith, a, b, ap length joined, length-append t.prefix t.suffix, length-append h.bytes k.bytes);
  }

  pub first_kept : (e : WireFault) (old new : List ℕ) → WriteFails pf v e old new → WriteFails (both_encoded pf pg) (v, w) e old new
  first_kept e old new k = record {
    unchanged = k.unchanged;
    why = elim k.why as (λ _. e ≡ Memory ⊎ ((e ≡ Form) × (both_encoded pf pg (v, w) ≡ None))) [
      | inl m ↦ inl m
      | inr n ↦ inr (n.0, rw n.1 refl)
    ];
  }

  pub second_kept : (e : WireFault) (old mid now new : List ℕ) (start : ℕ) → WritesField pf f sf v old mid → WriteFails pg w e mid now → start ≡ length old → new ≡ take start now
      → WriteFails (both_encoded pf pg) (v, w) e old new
  second_kept e old mid now new start h k size cut = record {
    unchanged = cut ∙ ap (λ n. take n now) size ∙ ap (take (length old)) (k.unchanged ∙ h.appended) ∙ take-append_seam old h.bytes;
    why = elim k.why as (λ _. e ≡ Memory ⊎ ((e ≡ Form) × (both_encoded pf pg (v, w) ≡ None))) [
      | inl m ↦ inl m
      | inr n ↦ inr (n.0, rw (h.is, n.1) refl)
    ];
  }

-- the whole pair, from the result of the second part, which truncated its own bytes at an error
module _ {A B : Type 0} (f : A → List ℕ → List ℕ → Type 0) (g : B → List ℕ → List ℕ → Type 0) (pf : A → Option (List ℕ)) (pg : B → Option (List ℕ))
    (sf sg : List ℕ → Type 0) (v : A) (w : B) (old mid now new : List ℕ) where
  pub pair_ok : (any : (rest : List ℕ) → sf rest) (r written : Result (Unit {0}) WireFault) → r ≡ written → OnOk r (new ≡ now)
      → WritesField pf f sf v old mid → OnOk written (WritesField pg g sg w mid now) → OnOk r (WritesField (both_encoded pf pg) (Both f g) sg (v, w) old new)
  pair_ok any (Ok u) (Ok t) e same h k = pair_written f g pf pg sf sg v w old mid new any h (subst (WritesField pg g sg w mid) (sym same) k)
  pair_ok any (Ok u) (Err t) e same h k = absurd (cc e)
  pair_ok any (Err u) written e same h k = tt

  pub pair_err : (r written : Result (Unit {0}) WireFault) (start : ℕ) → r ≡ written → OnErr r (new ≡ take start now) → start ≡ length old
      → WritesField pf f sf v old mid → IfErr written (λ e. WriteFails pg w e mid now) → IfErr r (λ e. WriteFails (both_encoded pf pg) (v, w) e old new)
  pair_err (Ok u) written start e cut size h k = tt
  pair_err (Err u) (Ok t) start e cut size h k = absurd (cc e)
  pair_err (Err u) (Err t) start e cut size h k =
      let same : u ≡ t = cc e in
      rw same (second_kept f g pf pg sf sg v w t old mid now new start h k size cut)
