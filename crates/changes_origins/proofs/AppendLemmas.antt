-- Texts that are appended in sequence.
use Rattle.std.proofs.Common.{◌≡◌, ◌≤◌, ◌+◌, ℕ, List, ◌++◌, length, take, sym, ap, ◌∙◌, append_assoc, arith}
use Rattle.std.proofs.Math.Seq.{take-append-add}
use Rattle.std.proofs.lemmas.List.{length-take-le, take-take}

-- one text, and another after it
pub appended_both : (old mid new a b : List ℕ) → mid ≡ old ++ a → new ≡ mid ++ b → new ≡ old ++ (a ++ b)
appended_both old mid new a b first second = second ∙ ap (λ (t : List ℕ). t ++ b) first ∙ append_assoc old a b

-- the first bytes of a text were written with the others of it
pub first_written : (at n m end : ℕ) (old new text first : List ℕ) → at ≤ length old → n ≤ m → end ≡ at + m → take end new ≡ take at old ++ text → take n text ≡ first → take (at + n) new ≡ take at old ++ first
first_written at n m end old new text first within few is written begins =
    let long = length-take-le at old within in
    sym (take-take (at + n) end new (omega (arith, few, is)))
    ∙ ap (take (at + n)) written
    ∙ ap (λ (k : ℕ). take (k + n) (take at old ++ text)) (sym long)
    ∙ take-append-add (take at old) text n
    ∙ ap (λ (l : List ℕ). take at old ++ l) begins
