-- Sequences of numbers of one byte each, read and written at once.
use Rattle.std.proofs.Common.{map, ◌≡◌, ◌++◌, ◌+◌, ℕ, zero, suc, List, [], ◌∷◌, length, take, drop, append_assoc, add-zero, arith, refl, sym, ap, subst, ◌∙◌, Option}
use Rattle.std.specs.Bool.{⊤}
use Rattle.std.proofs.lemmas.List.{append-nil, take-append-drop, length-take-le}
use Rattle.wire_buf.specs.Encoding.{Reads, Alone, IsSequence}
use Rattle.wire_buf.specs.Eating.{Eats}
use Rattle.wire_buf.specs.Writing.{WritesField}
use Rattle.wire_buf.proofs.EncodingLemmas.{Sequence-none, Sequence-more}
use Rattle.wire_fields.specs.Bytewise.{AreBytewise, AreWrittenBytewise}
use Rattle.wire_fields_extra.proofs.SequenceLemmas.{WritesSequence, row_none, row_more}

-- the first n bytes were taken
pub eaten_joined : (n : ℕ) (s x y : List ℕ) → Eats (take n) n s x y → (x ≡ s ++ y) × (length s ≡ n)
eaten_joined n s x y e = (
  (sym (take-append-drop n x) ∙ ap (λ l. l ++ drop n x) (sym e.value_is) ∙ ap (λ l. s ++ l) (sym e.rest)),
  (ap length e.value_is ∙ length-take-le n x e.room),
)

moved : (n m : ℕ) → suc n + m ≡ n + suc m
moved n m = omega arith

module _ {N : Type 0} (encodes : N → List ℕ → Type 0) where
  -- there are as many numbers as bytes
  pub bytewise_length : (vs : List N) (bs : List ℕ) → AreBytewise encodes vs bs → length vs ≡ length bs
  bytewise_length [] [] h = refl
  bytewise_length (v ∷ vs) (b ∷ bs) h = ap suc (bytewise_length vs bs h.1)
  bytewise_length [] (b ∷ bs) h = absurd h
  bytewise_length (v ∷ vs) [] h = absurd h

  -- more numbers after those that were read
  reads_after : (n : ℕ) (prefix : List N) (x : List ℕ) (vs : List N) (bs rest : List ℕ) → Reads (IsSequence n (Alone encodes)) prefix x (bs ++ rest) → AreBytewise encodes vs bs
      → Reads (IsSequence (n + length vs) (Alone encodes)) (prefix ++ vs) x rest
  reads_after n prefix x [] [] rest p h =
      subst (λ (k : ℕ). Reads (IsSequence k (Alone encodes)) (prefix ++ []) x rest) (sym (add-zero n))
      (subst (λ (l : List N). Reads (IsSequence n (Alone encodes)) l x rest) (sym (append-nil prefix)) p)
  reads_after n prefix x (v ∷ vs) (b ∷ bs) rest p h =
      let more = Sequence-more (Alone encodes) n prefix v x (b ∷ (bs ++ rest)) (bs ++ rest) p (h.0 (bs ++ rest)) in
      let all = reads_after (suc n) (prefix ++ (v ∷ [])) x vs bs rest more h.1 in
      subst (λ (k : ℕ). Reads (IsSequence k (Alone encodes)) (prefix ++ (v ∷ vs)) x rest) (moved n (length vs))
      (subst (λ (l : List N). Reads (IsSequence (suc n + length vs) (Alone encodes)) l x rest) (append_assoc prefix (v ∷ []) vs) all)
  reads_after n prefix x [] (b ∷ bs) rest p h = absurd h
  reads_after n prefix x (v ∷ vs) [] rest p h = absurd h

  pub reads_bytewise : (n : ℕ) (vs : List N) (bs x rest : List ℕ) → x ≡ bs ++ rest → length bs ≡ n → AreBytewise encodes vs bs → Reads (IsSequence n (Alone encodes)) vs x rest
  reads_bytewise n vs bs x rest joined size h =
      let count : zero + length vs ≡ n = ap (λ k. zero + k) (bytewise_length vs bs h ∙ size) ∙ zero_plus n in
      subst (λ (k : ℕ). Reads (IsSequence k (Alone encodes)) vs x rest) count
      (reads_after zero [] x vs bs rest (subst (λ (y : List ℕ). Reads (IsSequence zero (Alone encodes)) [] x y) joined (Sequence-none (Alone encodes) x)) h)
    where
      zero_plus : (n : ℕ) → zero + n ≡ n
      zero_plus n = omega arith

module _ {N : Type 0} (encoded : N → Option (List ℕ)) (encodes : N → List ℕ → Type 0) (kept : N → N) where
  row_after : (prefix : List N) (a : List ℕ) (vs : List N) (bs old : List ℕ) → WritesSequence encoded (Alone encodes) prefix old (old ++ a) → AreWrittenBytewise encoded encodes kept vs bs
      → WritesSequence encoded (Alone encodes) (prefix ++ map kept vs) old (old ++ (a ++ bs))
  row_after prefix a [] [] old p h = rw (append-nil prefix, append-nil a) p
  row_after prefix a (v ∷ vs) (b ∷ bs) old p h =
      let one : WritesField encoded (Alone encodes) (λ rest. ⊤) (kept v) (old ++ a) ((old ++ a) ++ (b ∷ [])) = record {
        bytes = b ∷ [];
        is = h.0;
        appended = refl;
        encodes = λ rest s. h.1.is;
        least = λ other rest o are. h.1.least other o are;
      } in
      let more = row_more encoded (Alone encodes) (λ rest. ⊤) prefix (kept v) old (old ++ a) ((old ++ a) ++ (b ∷ [])) (λ rest. tt) p one in
      let longer = subst (λ (l : List ℕ). WritesSequence encoded (Alone encodes) (prefix ++ (kept v ∷ [])) old l) (append_assoc old a (b ∷ [])) more in
      let all = row_after (prefix ++ (kept v ∷ [])) (a ++ (b ∷ [])) vs bs old longer h.2 in
      subst (λ (l : List ℕ). WritesSequence encoded (Alone encodes) (prefix ++ (kept v ∷ map kept vs)) old (old ++ l)) (append_assoc a (b ∷ []) bs)
      (subst (λ (l : List N). WritesSequence encoded (Alone encodes) l old (old ++ ((a ++ (b ∷ [])) ++ bs))) (append_assoc prefix (kept v ∷ []) (map kept vs)) all)
  row_after prefix a [] (b ∷ bs) old p h = absurd h
  row_after prefix a (v ∷ vs) [] old p h = absurd h

  -- a slice of them is written at once
  pub sequence_bytewise : (vs : List N) (bs old new : List ℕ) → new ≡ old ++ bs → AreWrittenBytewise encoded encodes kept vs bs → WritesSequence encoded (Alone encodes) (map kept vs) old new
  sequence_bytewise vs bs old new e h =
      rw e (row_after [] [] vs bs old (subst (λ (l : List ℕ). WritesSequence encoded (Alone encodes) [] old l) (sym (append-nil old)) (row_none encoded (Alone encodes) old)) h)
