-- Strings after a count of their bytes.
use Rattle.std.proofs.Common.{◌≡◌, ◌≤◌, ◌<◌, ◌++◌, ℕ, List, length, take, drop, append_assoc, arith, refl, sym, ap, subst, ◌∙◌}
use Rattle.std.proofs.lemmas.List.{take-append-drop, length-take-le, length-append}
use Rattle.wire_buf.specs.Encoding.{Begins, Reads, Lacks, Alone}
use Rattle.wire_buf.specs.Numbers.{IsCounted}
use Rattle.wire_buf.proofs.EncodingLemmas.{split_prefix}

module _ (count : ℕ → List ℕ → Type 0) where
  -- the count before a counted string
  count_at : (w x s : List ℕ) (t : Begins (Alone (IsCounted count) w) x s) → Begins (Alone count (length w)) x (w ++ s)
  count_at w x s t = record {
    bytes = t.is.prefix;
    joined = t.joined ∙ ap (λ b. b ++ s) t.is.joined ∙ append_assoc t.is.prefix w s;
    is = t.is.prefix_is;
  }

  -- the bytes begin with no count
  pub Lacks-count : (x : List ℕ) → Lacks (Alone count) x → Lacks (Alone (IsCounted count)) x
  Lacks-count x lacks w s t = lacks (length w) (w ++ s) (count_at w x s t)

  -- the bytes begin with a count, and fewer bytes follow it
  pub Lacks-counted : (n : ℕ) (x m : List ℕ) → Reads (Alone count) n x m → length m < n → Lacks (Alone (IsCounted count)) x
  Lacks-counted n x m r short w s t =
      let e = r.only (length w) (w ++ s) (count_at w x s t) in
      omega (arith, ap length e.0, e.1, length-append w s)

  -- a count, then as many bytes
  pub Reads-counted : (n : ℕ) (x m v r : List ℕ) → Reads (Alone count) n x m → n ≤ length m → v ≡ take n m → r ≡ drop n m → Reads (Alone (IsCounted count)) v x r
  Reads-counted n x m v r c room is rest =
      let size : length v ≡ n = ap length is ∙ length-take-le n m room in
      let whole : m ≡ v ++ r = rw (is, rest) (sym (take-append-drop n m)) in
      record {
        begins = record {
          bytes = c.begins.bytes ++ v;
          joined = c.begins.joined ∙ ap (λ b. c.begins.bytes ++ b) whole ∙ sym (append_assoc c.begins.bytes v r);
          is = record { prefix = c.begins.bytes; prefix_is = subst (λ k. count k c.begins.bytes) (sym size) c.begins.is; joined = refl };
        };
        only = λ w s t.
            let e = c.only (length w) (w ++ s) (count_at w x s t) in
            let p = split_prefix n m w s (sym e.1) (sym e.0) in
            ((sym p.1 ∙ sym rest), (is ∙ p.0));
      }
