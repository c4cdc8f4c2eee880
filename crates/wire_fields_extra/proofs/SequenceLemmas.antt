-- Counted sequences at the start of bytes, and the bytes of values in sequence.
use Rattle.std.proofs.Common.{Err, OnErr, OnOk, map, ◌+◌, ◌≡◌, ◌++◌, ℕ, zero, suc, List, [], ◌∷◌, length, take, append_assoc, arith, refl, sym, ap, subst, ◌∙◌, Option, Some, None, Result, IsErr, IsErrAnd, IfErr, ◌⊎◌, inl, inr, ◌<◌, ◌≤◌, get_or, drop, drop-cons}
use Rattle.std.specs.Bool.{⊤}
use Rattle.std.proofs.lemmas.List.{length-append, append-nil, take-append-drop, take_all, map-append, map_more}
use Rattle.std.proofs.Math.Seq.{take-append_seam}
use Rattle.wire_buf.specs.Writing.{WritesField, WriteFails, concat_some, both_encoded}
use Rattle.wire_buf.proofs.WritingLemmas.{AreBytes-prefix, AreBytes-suffix, pair_ok}
use Rattle.wire_buf.specs.declared.fault.WireFault.{WireFault}
use Rattle.wire_buf.specs.declared.fault.WireFault.TheVariants.{Eof, Memory, Form}
use Rattle.std.proofs.lemmas.Result.{err_from_is_err_and, on_ok_weaker}
use Rattle.wire_buf.proofs.EncodingLemmas.{IfErr-of_same}
use Rattle.wire_buf.specs.Encoding.{Begins, Reads, Lacks, Alone, Both, AreBytes, IsSequence}
use Rattle.wire_fields_extra.specs.Sequences.{IsSequenceOf, IsCountedSequence, joined_encoded, sequence_encoded, ItemsFail, SequenceFails}

-- a sequence has as many values as its count says
pub Sequence-length : {A : Type 0} (encodes : A → List ℕ → List ℕ → Type 0) (n : ℕ) (vs : List A) (bytes rest : List ℕ)
    → IsSequence n encodes vs bytes rest → length vs ≡ n
Sequence-length encodes zero vs bytes rest h = ap length h.0
Sequence-length encodes (suc n) vs bytes rest h =
    let first = Sequence-length encodes n h.prefix h.encoding_is.prefix (h.encoding_is.suffix ++ rest) h.encoding_is.first_is in
    let all = ap length h.items ∙ length-append h.prefix (h.last ∷ []) in
    omega (arith, first, all)

module _ {A : Type 0} (counts : ℕ → List ℕ → Type 0) (encodes : A → List ℕ → List ℕ → Type 0) where
  -- the count before a counted sequence
  count_at : (ws : List A) (x s : List ℕ) (t : Begins (IsCountedSequence counts encodes ws) x s) → Begins (Alone counts (length ws)) x (t.is.suffix ++ s)
  count_at ws x s t = record {
    bytes = t.is.prefix;
    joined = t.joined ∙ ap (λ b. b ++ s) t.is.joined ∙ append_assoc t.is.prefix t.is.suffix s;
    is = t.is.first_is;
  }

  -- the values after the count
  items_at : (ws : List A) (x s : List ℕ) (t : Begins (IsCountedSequence counts encodes ws) x s) → Begins (IsSequence (length ws) encodes ws) (t.is.suffix ++ s) s
  items_at ws x s t = record { bytes = t.is.suffix; joined = refl; is = t.is.second_is }

  -- the bytes begin with no count
  pub Lacks-count : (x : List ℕ) → Lacks (Alone counts) x → Lacks (IsCountedSequence counts encodes) x
  Lacks-count x lacks ws s t = lacks (length ws) (t.is.suffix ++ s) (count_at ws x s t)

  items_after : (n : ℕ) (x m : List ℕ) → Reads (Alone counts) n x m → (ws : List A) (s : List ℕ) → Begins (IsCountedSequence counts encodes ws) x s
      → Begins (IsSequence n encodes ws) m s
  items_after n x m p ws s t =
      let e = p.only (length ws) (t.is.suffix ++ s) (count_at ws x s t) in
      subst (λ (y : List ℕ). Begins (IsSequence n encodes ws) y s) e.0
      (subst (λ (k : ℕ). Begins (IsSequence k encodes ws) (t.is.suffix ++ s) s) (sym e.1) (items_at ws x s t))

  -- the bytes begin with a count, and fewer values follow it
  pub Lacks-items : (n : ℕ) (x m : List ℕ) → Reads (Alone counts) n x m → Lacks (IsSequence n encodes) m → Lacks (IsCountedSequence counts encodes) x
  Lacks-items n x m p lacks ws s t = lacks ws s (items_after n x m p ws s t)

  -- a count, then as many values
  pub Reads-sequence : (n : ℕ) (vs : List A) (x m r : List ℕ) → Reads (Alone counts) n x m → Reads (IsSequence n encodes) vs m r
      → Reads (IsCountedSequence counts encodes) vs x r
  Reads-sequence n vs x m r p q =
      let size = Sequence-length encodes n vs q.begins.bytes r q.begins.is in
      record {
        begins = record {
          bytes = p.begins.bytes ++ q.begins.bytes;
          joined = p.begins.joined ∙ ap (λ (b : List ℕ). p.begins.bytes ++ b) q.begins.joined ∙ sym (append_assoc p.begins.bytes q.begins.bytes r);
          is = record {
            prefix = p.begins.bytes;
            suffix = q.begins.bytes;
            joined = refl;
            first_is = subst (λ (k : ℕ). counts k p.begins.bytes) (sym size) p.begins.is;
            second_is = subst (λ (k : ℕ). IsSequence k encodes vs q.begins.bytes r) (sym size) q.begins.is;
          };
        };
        only = λ ws s t. q.only ws s (items_after n x m p ws s t);
      }

-- after fewer than n whole values, reading the next one returns an error or is out of memory
module _ {A E : Type 0} (encodes : A → List ℕ → List ℕ → Type 0) (fails_with : List ℕ → E → Type 0) (no_memory : E → Type 0)
    (n i : ℕ) (below : i < n) (vs : List A) (x m : List ℕ) (read : Reads (IsSequence i encodes) vs x m) (fault : E) where
  pub next_failed : fails_with m fault → ItemsFail n encodes fails_with no_memory x fault
  next_failed why = record {
    count = i;
    fewer = below;
    next = record { value = vs; after = m; begins = read.begins; holds = inl why };
  }

  pub next_unstored : (v : A) (r : List ℕ) → Reads encodes v m r → no_memory fault → ItemsFail n encodes fails_with no_memory x fault
  next_unstored v r item why = record {
    count = i;
    fewer = below;
    next = record { value = vs; after = m; begins = read.begins; holds = inr (record { value = v; after = r; begins = item.begins }, why) };
  }

-- the bytes begin with no count
pub no_count : {T E : Type 0} (counts : ℕ → List ℕ → Type 0) (gives : WireFault → E → Type 0) (items : ℕ → List ℕ → E → Type 0) (x : List ℕ) (r : Result T E) (fault : WireFault)
    → IsErr r × IsErrAnd r (λ y. gives fault y) → Lacks (Alone counts) x × (fault ≡ Eof) → IfErr r (SequenceFails counts (gives Eof) items x)
no_count counts gives items x r fault h l =
    let p = err_from_is_err_and r h.1 in
    rw p.1 (inl (l.0, subst (λ f. gives f p.0) l.1 p.2))

-- reading the values after a count returns an error
pub items_failed : {T E : Type 0} (counts : ℕ → List ℕ → Type 0) (none : E → Type 0) (items : ℕ → List ℕ → E → Type 0) (n : ℕ) (x m : List ℕ) (r : Result T E) (e : E)
    → IsErr r × IsErrAnd r (λ y. y ≡ e) → Reads (Alone counts) n x m → items n m e → IfErr r (SequenceFails counts none items x)
items_failed counts none items n x m r e h p why =
    IfErr-of_same (SequenceFails counts none items x) r e h (inr (record { value = n; after = m; begins = p.begins; holds = why }))

prefix_more : (o r r' : Option (List ℕ)) (prefix back : List ℕ) → ((tail : List ℕ) → r ≡ Some tail → r' ≡ Some (tail ++ back))
    → concat_some o r ≡ Some prefix → concat_some o r' ≡ Some (prefix ++ back)
prefix_more None r r' prefix back h e = absurd (cc e)
prefix_more (Some a) None r' prefix back h e = absurd (cc e)
prefix_more (Some a) (Some t) r' prefix back h e =
    let f : a ++ t ≡ prefix = cc e in
    rw (h t refl, ← f) (ap (λ (l : List ℕ). Some l) (sym (append_assoc a t back)))

-- the bytes of the values and one more
joined_more : {A : Type 0} (encoded : A → Option (List ℕ)) (vs : List A) (v : A) (prefix back : List ℕ)
    → joined_encoded encoded vs ≡ Some prefix → encoded v ≡ Some back → joined_encoded encoded (vs ++ (v ∷ [])) ≡ Some (prefix ++ back)
joined_more encoded [] v prefix back none last =
    let e : [] ≡ prefix = cc none in
    rw (last, ← e) (ap (λ (l : List ℕ). Some l) (append-nil back))
joined_more encoded (w ∷ vs) v prefix back all last =
    prefix_more (encoded w) (joined_encoded encoded vs) (joined_encoded encoded (vs ++ (v ∷ []))) prefix back
    (λ t e. joined_more encoded vs v t back e last) all

prefix_none : (o : Option (List ℕ)) → concat_some o None ≡ None
prefix_none None = refl
prefix_none (Some a) = refl

-- a value that has no bytes
joined_none : {A : Type 0} (encoded : A → Option (List ℕ)) (vs : List A) (v : A) (rest : List A)
    → encoded v ≡ None → joined_encoded encoded (vs ++ (v ∷ rest)) ≡ None
joined_none encoded [] v rest last = rw last refl
joined_none encoded (w ∷ vs) v rest last = rw (joined_none encoded vs v rest last) (prefix_none (encoded w))

pub take_more : {A : Type 0} (xs : List A) (i : ℕ) (v : A) → i < length xs → take (suc i) xs ≡ take i xs ++ (get_or xs i v ∷ [])
take_more [] i v h = absurd (omega (arith, h))
take_more (x ∷ xs) zero v h = refl
take_more (x ∷ xs) (suc i) v h = ap (λ l. x ∷ l) (take_more xs i v (omega (arith, h)))

snoc_same : {A : Type 0} (vs ws : List A) (v w : A) → vs ++ (v ∷ []) ≡ ws ++ (w ∷ []) → (vs ≡ ws) × (v ≡ w)
snoc_same [] [] v w e = (refl, cc)
snoc_same (a ∷ vs) (b ∷ ws) v w e =
    let tail : vs ++ (v ∷ []) ≡ ws ++ (w ∷ []) = cc in
    let head : a ≡ b = cc in
    let rest = snoc_same vs ws v w tail in
    (rw (head, rest.0) refl, rest.1)
snoc_same [] (b ∷ []) v w e = absurd cc
snoc_same [] (b ∷ c ∷ ws) v w e = absurd cc
snoc_same (a ∷ []) [] v w e = absurd cc
snoc_same (a ∷ c ∷ vs) [] v w e = absurd cc

-- a sequence of fields is written
module _ {A : Type 0} (encoded : A → Option (List ℕ)) (encoding : A → List ℕ → List ℕ → Type 0) where
  abbrev pub WritesSequence : List A → List ℕ → List ℕ → Type 0
  WritesSequence = WritesField (joined_encoded encoded) (IsSequenceOf encoding) (λ rest. ⊤)

  pub row_none : (old : List ℕ) → WritesSequence [] old old
  row_none old = record {
    bytes = [];
    is = refl;
    appended = sym (append-nil old);
    encodes = λ rest s. (refl, refl);
    least = λ other rest h are. omega arith;
  }

  pub row_more : (allows_rest : List ℕ → Type 0) (vs : List A) (v : A) (old mid new : List ℕ) → ((rest : List ℕ) → allows_rest rest) → WritesSequence vs old mid → WritesField encoded encoding allows_rest v mid new
      → WritesSequence (vs ++ (v ∷ [])) old new
  row_more allows_rest vs v old mid new any p q =
      let size : length (vs ++ (v ∷ [])) ≡ suc (length vs) = omega (arith, length-append vs (v ∷ [])) in
      record {
        bytes = p.bytes ++ q.bytes;
        is = joined_more encoded vs v p.bytes q.bytes p.is q.is;
        appended = q.appended ∙ ap (λ (l : List ℕ). l ++ q.bytes) p.appended ∙ append_assoc old p.bytes q.bytes;
        encodes = λ rest s.
            let whole : IsSequence (suc (length vs)) encoding (vs ++ (v ∷ [])) (p.bytes ++ q.bytes) rest = record {
              prefix = vs;
              last = v;
              items = refl;
              encoding_is = record { prefix = p.bytes; suffix = q.bytes; joined = refl; first_is = p.encodes (q.bytes ++ rest) tt; second_is = q.encodes rest (any rest) };
            } in
            subst (λ (k : ℕ). IsSequence k encoding (vs ++ (v ∷ [])) (p.bytes ++ q.bytes) rest) (sym size) whole;
        least = λ other rest h are.
            let t : IsSequence (suc (length vs)) encoding (vs ++ (v ∷ [])) other rest = subst (λ (k : ℕ). IsSequence k encoding (vs ++ (v ∷ [])) other rest) size h in
            let same = snoc_same vs t.prefix v t.last t.items in
            let joined = t.encoding_is.joined in
            let all : AreBytes (t.encoding_is.prefix ++ t.encoding_is.suffix) = subst AreBytes joined are in
            let a = p.least t.encoding_is.prefix (t.encoding_is.suffix ++ rest)
            (subst (λ (l : List A). IsSequence (length vs) encoding l t.encoding_is.prefix (t.encoding_is.suffix ++ rest)) (sym same.0) t.encoding_is.first_is)
            (AreBytes-prefix t.encoding_is.prefix t.encoding_is.suffix all) in
            let b = q.least t.encoding_is.suffix rest (subst (λ (w : A). encoding w t.encoding_is.suffix rest) (sym same.1) t.encoding_is.second_is)
            (AreBytes-suffix t.encoding_is.prefix t.encoding_is.suffix all) in
            omega (arith, a, b, ap length joined, length-append t.encoding_is.prefix t.encoding_is.suffix, length-append p.bytes q.bytes);
      }

  -- all values are written
  pub row_whole : {X : Type 0} (view : X → A) (xs : List X) (i : ℕ) (old new : List ℕ) → length xs ≤ i → WritesSequence (map view (take i xs)) old new → WritesSequence (map view xs) old new
  row_whole view xs i old new all p = subst (λ l. WritesSequence (map view l) old new) (take_all i xs all) p

  -- value i of xs is x
  module _ {X : Type 0} (view : X → A) (xs : List X) (i : ℕ) (x : X) (inside : i < length xs) (is : x ≡ get_or xs i x) where
    pub row_step : (allows_rest : List ℕ → Type 0) (old mid new : List ℕ) → ((rest : List ℕ) → allows_rest rest) → WritesSequence (map view (take i xs)) old mid → WritesField encoded encoding allows_rest (view x) mid new
        → WritesSequence (map view (take (i + 1) xs)) old new
    row_step allows_rest old mid new any p q =
        let e = map_more view xs i x inside ∙ ap (λ y. map view (take i xs) ++ (view y ∷ [])) (sym is) in
        rw e (row_more allows_rest (map view (take i xs)) (view x) old mid new any p q)

    pub row_failed : (fault : WireFault) (old mid now last : List ℕ) (start : ℕ) → WritesSequence (map view (take i xs)) old mid
        → WriteFails encoded (view x) fault mid now → start ≡ length old → last ≡ take start now → WriteFails (joined_encoded encoded) (map view xs) fault old last
    row_failed fault old mid now last start p r size cut =
        let whole : xs ≡ take i xs ++ (x ∷ drop (suc i) xs) =
        sym (take-append-drop i xs) ∙ ap (λ l. take i xs ++ l) (drop-cons xs i x inside ∙ ap (λ y. y ∷ drop (suc i) xs) (sym is)) in
        let parts : map view xs ≡ map view (take i xs) ++ (view x ∷ map view (drop (suc i) xs)) = ap (map view) whole ∙ map-append view (take i xs) (x ∷ drop (suc i) xs) in
        let none : encoded (view x) ≡ None → joined_encoded encoded (map view xs) ≡ None =
        λ e. ap (joined_encoded encoded) parts ∙ joined_none encoded (map view (take i xs)) (view x) (map view (drop (suc i) xs)) e in
        record {
          unchanged = cut ∙ ap (λ k. take k now) size ∙ ap (take (length old)) (r.unchanged ∙ p.appended) ∙ take-append_seam old p.bytes;
          why = elim r.why as (λ _. fault ≡ Memory ⊎ ((fault ≡ Form) × (joined_encoded encoded (map view xs) ≡ None))) [
            | inl m ↦ inl m
            | inr f ↦ inr (f.0, none f.1)
          ];
        }

-- a count, then a sequence of as many values
module _ {A : Type 0} (count_encoded : ℕ → List ℕ) (counts : ℕ → ℕ → List ℕ → Type 0) (encoded : A → Option (List ℕ)) (encoding : A → List ℕ → List ℕ → Type 0) (n : ℕ) (vs : List A) (size : n ≡ length vs)
    (old mid now new : List ℕ) where
  sequence_written : WritesField (both_encoded (λ k. Some (count_encoded k)) (joined_encoded encoded)) (Both (λ k. Alone (counts k) k) (IsSequenceOf encoding)) (λ rest. ⊤) (n, vs) old new
      → WritesField (sequence_encoded count_encoded encoded) (λ ws. IsCountedSequence (counts (length ws)) encoding ws) (λ rest. ⊤) vs old new
  sequence_written w =
      let same = subst (λ (k : ℕ). WritesField (both_encoded (λ k. Some (count_encoded k)) (joined_encoded encoded)) (Both (λ k. Alone (counts k) k) (IsSequenceOf encoding)) (λ rest. ⊤) (k, vs) old new) size w in
      record { bytes = same.bytes; is = same.is; appended = same.appended; encodes = same.encodes; least = same.least }

  pub sequence_ok : (r written : Result (Unit {0}) WireFault) → r ≡ written → OnOk r (new ≡ now) → WritesField (λ k. Some (count_encoded k)) (λ k. Alone (counts k) k) (λ rest. ⊤) n old mid
      → OnOk written (WritesSequence encoded encoding vs mid now) → OnOk r (WritesField (sequence_encoded count_encoded encoded) (λ ws. IsCountedSequence (counts (length ws)) encoding ws) (λ rest. ⊤) vs old new)
  sequence_ok r written e same h k =
      on_ok_weaker r sequence_written
      (pair_ok (λ k. Alone (counts k) k) (IsSequenceOf encoding) (λ k. Some (count_encoded k)) (joined_encoded encoded) (λ rest. ⊤) (λ rest. ⊤) n vs old mid now new (λ rest. tt) r written e same h k)

-- a result that is passed on and is known to be an error
pub IfErr-known : {T E : Type 0} (r : Result T E) (e : E) (P : E → Type 0) → r ≡ Err e → P e → IfErr r P
IfErr-known r e P same h = rw same h

pub OnOk-known : {T E : Type 0} (r : Result T E) (e : E) (P : Type 0) → r ≡ Err e → OnOk r P
OnOk-known r e P same = rw same tt

pub OnErr-known : {T E : Type 0} (r : Result T E) (e : E) (P : Type 0) → r ≡ Err e → OnErr r P → P
OnErr-known r e P same h = rw same at h
