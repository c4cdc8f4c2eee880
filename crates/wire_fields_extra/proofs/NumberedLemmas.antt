-- Constants by their numbers.
use Rattle.std.proofs.Common.{◌≡◌, List, ℕ, sym, ◌∙◌}
use Rattle.wire_buf.specs.Encoding.{Begins, Reads, Lacks}
use Rattle.wire_fields_extra.specs.Consts.{IsConstant}

-- the number of a constant
module _ {C N : Type 0} (number : C → N) (encodes : N → List ℕ → List ℕ → Type 0) where
  number_begins : (n : N) (x r : List ℕ) → Begins (IsConstant number encodes n) x r → Begins (encodes n) x r
  number_begins n x r t = record { bytes = t.bytes; joined = t.joined; is = t.is.encoding_is }

  pub number_reads : (c : C) (n : N) (x r : List ℕ) → number c ≡ n → Reads encodes n x r → Reads (IsConstant number encodes) (number c) x r
  number_reads c n x r e p = rw e (record {
    begins = record { bytes = p.begins.bytes; joined = p.begins.joined; is = record { constant = c; number_is = e; encoding_is = p.begins.is } };
    only = λ w s t. p.only w s (number_begins w x s t);
  })

  pub number_lacks : (x : List ℕ) → Lacks encodes x → Lacks (IsConstant number encodes) x
  number_lacks x lacks w s t = lacks w s (number_begins w x s t)

  pub unknown_lacks : (n : N) (x r : List ℕ) → Reads encodes n x r → ((c : C) → number c ≡ n → ⊥) → Lacks (IsConstant number encodes) x
  unknown_lacks n x r p none w s t = none t.is.constant (t.is.number_is ∙ sym (p.only w s (number_begins w x s t)).1)
