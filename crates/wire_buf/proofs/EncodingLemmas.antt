-- Lemmas on values encoded at the start of bytes.
use Rattle.std.proofs.Common.{◌≡◌, ◌++◌, ◌⊎◌, inl, inr, ℕ, zero, suc, ◌+◌, [], ◌∷◌, List, append_assoc, sym, ap, ◌∙◌, refl, subst, ◌≤◌, length, take, drop, arith, Result, IsErr, IsErrAnd, IfErr, IfNone, IsSome, Option, Some, None}
use Rattle.std.proofs.lemmas.List.{take-append-drop, length-take-le}
use Rattle.std.proofs.Math.Seq.{take-append_seam, drop-append_seam}
use Rattle.std.proofs.lemmas.Result.{err_from_is_err_and}
use Rattle.wire_buf.specs.Encoding.{BeginsWith, Begins, Lacks, Reads, ◌⨾◌, Both, Alone, IsFixed, IsShortest, IsSequence}

-- `cc` doesn't take pairs apart
pair_same : {A B : Type 0} (a b : A) (c d : B) → a ≡ b → c ≡ d → ◌≡◌ {A = A × B} (a, c) (b, d)
pair_same {A = A} {B = B} a b c d p q = rw (p, q) refl

module _ {A B : Type 0} (first : A → List ℕ → List ℕ → Type 0) (second : B → List ℕ → List ℕ → Type 0) where
  pub Begins-both : (v : A) (w : B) (x m r : List ℕ) → Begins (first v) x m → Begins (second w) m r → Begins (Both first second (v, w)) x r
  Begins-both v w x m r p q = record {
    bytes = p.bytes ++ q.bytes;
    joined = p.joined ∙ ap (λ (t : List ℕ). p.bytes ++ t) q.joined ∙ sym (append_assoc p.bytes q.bytes r);
    is = record {
      prefix = p.bytes;
      suffix = q.bytes;
      joined = refl;
      first_is = subst (λ (t : List ℕ). first v p.bytes t) q.joined p.is;
      second_is = q.is;
    };
  }

  -- the middle of a pair
  pub Both-first : (v : A) (w : B) (x r : List ℕ) (t : Begins (Both first second (v, w)) x r) → Begins (first v) x (t.is.suffix ++ r)
  Both-first v w x r t = record {
    bytes = t.is.prefix;
    joined = t.joined ∙ ap (λ (b : List ℕ). b ++ r) t.is.joined ∙ append_assoc t.is.prefix t.is.suffix r;
    is = t.is.first_is;
  }

  pub Both-second : (v : A) (w : B) (x r : List ℕ) (t : Begins (Both first second (v, w)) x r) → Begins (second w) (t.is.suffix ++ r) r
  Both-second v w x r t = record { bytes = t.is.suffix; joined = refl; is = t.is.second_is }

  pub Lacks-both : (v : A) (x m : List ℕ) → Reads first v x m → Lacks second m → Lacks (Both first second) x
  Lacks-both v x m p lacks (w1, w2) r t =
      let e = (p.only w1 (t.is.suffix ++ r) (Both-first w1 w2 x r t)).0 in
      lacks w2 r (subst (λ (y : List ℕ). Begins (second w2) y r) e (Both-second w1 w2 x r t))

  pub Reads-both : (v : A) (w : B) (x m r : List ℕ) → Reads first v x m → Reads second w m r → Reads (Both first second) (v, w) x r
  Reads-both v w x m r p q = record {
    begins = Begins-both v w x m r p.begins q.begins;
    only = λ (w1, w2) rest t.
        let e = p.only w1 (t.is.suffix ++ rest) (Both-first w1 w2 x rest t) in
        let f = q.only w2 rest (subst (λ (y : List ℕ). Begins (second w2) y rest) e.0 (Both-second w1 w2 x rest t)) in
        (f.0, pair_same v w1 w w2 e.1 f.1);
  }

  pub Lacks-both_first : (x : List ℕ) → Lacks first x → Lacks (Both first second) x
  Lacks-both_first x lacks (w1, w2) r t = lacks w1 (t.is.suffix ++ r) (Both-first w1 w2 x r t)

-- a sequence grows at its end
module _ {A : Type 0} (encodes : A → List ℕ → List ℕ → Type 0) where
  Ends-both : (n : ℕ) (ws : List A) (x r : List ℕ) (t : Begins (IsSequence (suc n) encodes ws) x r) → Begins (Both (IsSequence n encodes) encodes (t.is.prefix, t.is.last)) x r
  Ends-both n ws x r t = record { bytes = t.bytes; joined = t.joined; is = t.is.encoding_is }

  pub Sequence-none : (x : List ℕ) → Reads (IsSequence zero encodes) [] x x
  Sequence-none x = record {
    begins = record { bytes = []; joined = refl; is = (refl, refl) };
    only = λ ws r t.
        let e : x ≡ r = t.joined ∙ ap (λ b. b ++ r) t.is.1 in
        (sym e, sym t.is.0);
  }

  pub Sequence-more : (n : ℕ) (vs : List A) (v : A) (x m r : List ℕ) → Reads (IsSequence n encodes) vs x m → Reads encodes v m r
      → Reads (IsSequence (suc n) encodes) (vs ++ (v ∷ [])) x r
  Sequence-more n vs v x m r p q =
      let whole = Reads-both (IsSequence n encodes) encodes vs v x m r p q in
      record {
        begins = record {
          bytes = whole.begins.bytes;
          joined = whole.begins.joined;
          is = record { prefix = vs; last = v; items = refl; encoding_is = whole.begins.is };
        };
        only = λ ws s t.
            let e = whole.only (t.is.prefix, t.is.last) s (Ends-both n ws x s t) in
            (e.0, ap (λ (p : List A × A). p.0 ++ (p.1 ∷ [])) e.1 ∙ sym t.is.items);
      }

  pub Sequence-lacks : (n : ℕ) (vs : List A) (x m : List ℕ) → Reads (IsSequence n encodes) vs x m → Lacks encodes m → Lacks (IsSequence (suc n) encodes) x
  Sequence-lacks n vs x m p lacks ws r t =
      Lacks-both (IsSequence n encodes) encodes vs x m p lacks (t.is.prefix, t.is.last) r (Ends-both n ws x r t)

  Sequence-lacks_suc : (n : ℕ) (x : List ℕ) → Lacks (IsSequence n encodes) x → Lacks (IsSequence (suc n) encodes) x
  Sequence-lacks_suc n x lacks ws r t = Lacks-both_first (IsSequence n encodes) encodes x lacks (t.is.prefix, t.is.last) r (Ends-both n ws x r t)

  pub Sequence-lacks_more : (n k j : ℕ) (x : List ℕ) → j ≡ k + n → Lacks (IsSequence n encodes) x → Lacks (IsSequence j encodes) x
  Sequence-lacks_more n zero j x e lacks = let f : j ≡ n = omega (arith, e) in rw f lacks
  Sequence-lacks_more n (suc k) j x e lacks =
      let f : j ≡ suc (k + n) = omega (arith, e) in
      rw f (Sequence-lacks_suc (k + n) x (Sequence-lacks_more n k (k + n) x refl lacks))

-- the clause of a `?` whose error the caller passes on: an error of the part is one of the whole
pub IfErr-of_part : {T E : Type 0} (M : E → Type 0) (P Q : Type 0) (r : Result T E) (e : E) → IsErr r × IsErrAnd r (λ y. y ≡ e) → M e ⊎ P → (P → Q) → IfErr r (λ y. M y ⊎ Q)
IfErr-of_part M P Q r e h part wider =
    let p = err_from_is_err_and r h.1 in
    rw (p.1, p.2) (elim part as (λ _. M e ⊎ Q) [ inl m ↦ inl m | inr l ↦ inr (wider l) ])

-- the same for a fact about the error itself
pub IfErr-of_same : {T E : Type 0} (P : E → Type 0) (r : Result T E) (e : E) → IsErr r × IsErrAnd r (λ y. y ≡ e) → P e → IfErr r P
IfErr-of_same P r e h p = let f = err_from_is_err_and r h.1 in rw f.1 (subst P (sym f.2) p)

-- the two halves of a list
pub split_prefix : (n : ℕ) (x bytes rest : List ℕ) → length bytes ≡ n → x ≡ bytes ++ rest → (take n x ≡ bytes) × (drop n x ≡ rest)
split_prefix n x bytes rest size joined = rw (joined, ← size) (take-append_seam bytes rest, drop-append_seam bytes rest)

-- n bytes are read by their value
pub Reads-fixed : {A : Type 0} (value : List ℕ → A) (n : ℕ) (v : A) (x y : List ℕ)
    → ((a b : List ℕ) → n ≤ length a → value (a ++ b) ≡ value a) → n ≤ length x → v ≡ value x → y ≡ drop n x
    → Reads (Alone (IsFixed value n)) v x y
Reads-fixed value n v x y local room is rest =
    let size = length-take-le n x room in
    let whole = take-append-drop n x in
    let enough : n ≤ length (take n x) = omega (arith, size) in
    let cut : (b r : List ℕ) → length b ≡ n → x ≡ b ++ r → value x ≡ value b =
    λ b r s j. let e : n ≤ length b = omega (arith, s) in rw j (local b r e) in
    record {
      begins = record {
        bytes = take n x;
        joined = rw rest (sym whole);
        is = record { size = size; value_is = is ∙ cut (take n x) (drop n x) size (sym whole) };
      };
      only = λ w r t. (
        (sym (split_prefix n x t.bytes r t.is.size t.joined).1 ∙ sym rest),
        (is ∙ cut t.bytes r t.is.size t.joined ∙ sym t.is.value_is),
      );
    }

-- all encodings of n bytes have the same length
pub IsShortest-fixed : {A : Type 0} (value : List ℕ → A) (n : ℕ) (v : A) (bytes : List ℕ) → length bytes ≡ n → v ≡ value bytes → IsShortest (IsFixed value n) v bytes
IsShortest-fixed value n v bytes size is = record {
  is = record { size = size; value_is = is };
  least = λ other h _. let e = h.size in omega (arith, size, e);
}

-- the same if the part's error is never out of memory
pub IfErr-of_lack : {T E : Type 0} (M : E → Type 0) (P : Type 0) (r : Result T E) (Q : E → Type 0) → IsErr r × IsErrAnd r Q → P → IfErr r (λ y. M y ⊎ P)
IfErr-of_lack M P r Q h l = let p = err_from_is_err_and r h.1 in rw p.1 (inr l)

-- `cc` doesn't take pairs apart
pub same_parts : {A B : Type 0} (a c : A) (b d : B) → ◌≡◌ {A = Option (A × B)} (Some (a, b)) (Some (c, d)) → (a ≡ c) × (b ≡ d)
same_parts {A = A} {B = B} a c b d e =
    let p : ◌≡◌ {A = A × B} (a, b) (c, d) = cc in (ap (λ (q : A × B). q.0) p, ap (λ (q : A × B). q.1) p)

-- a function that finds the value at the start, and the bytes after it
module _ {A : Type 0} (encodes : A → List ℕ → Type 0) (prefix : List ℕ → Option (A × List ℕ))
    (complete : (v : A) (bytes r : List ℕ) → encodes v bytes → prefix (bytes ++ r) ≡ Some (v, r)) where
  Begins-prefix : (v : A) (x r : List ℕ) → Begins (Alone encodes v) x r → prefix x ≡ Some (v, r)
  Begins-prefix v x r t = rw t.joined (complete v t.bytes r t.is)

  pub Reads-prefix : (v : A) (x r : List ℕ) → Begins (Alone encodes v) x r → Reads (Alone encodes) v x r
  Reads-prefix v x r t = record {
    begins = t;
    only = λ w s u.
        let e : ◌≡◌ {A = Option (A × List ℕ)} (Some (w, s)) (Some (v, r)) = sym (Begins-prefix w x s u) ∙ Begins-prefix v x r t in
        let f = same_parts w v s r e in (f.1, sym f.0);
  }

  pub Lacks-prefix : (x : List ℕ) → prefix x ≡ None → Lacks (Alone encodes) x
  Lacks-prefix x none v r t = let e : ◌≡◌ {A = Option (A × List ℕ)} (Some (v, r)) None = sym (Begins-prefix v x r t) ∙ none in absurd cc

-- a second part whose context the first gives, for a value `whole` made of both
module _ {H T Q : Type 0} (head : Q → H) (tail : Q → T) (whole : H → T → Q) (again : (q : Q) → whole (head q) (tail q) ≡ q)
    (first : H → List ℕ → List ℕ → Type 0) (second : H → T → List ℕ → List ℕ → Type 0) where
  abbrev Led : Q → List ℕ → List ℕ → Type 0
  Led q = first (head q) ⨾ second (head q) (tail q)

  led_head : (q : Q) (x r : List ℕ) (t : Begins (Led q) x r) → Begins (first (head q)) x (t.is.suffix ++ r)
  led_head q x r t = record {
    bytes = t.is.prefix;
    joined = t.joined ∙ ap (λ (b : List ℕ). b ++ r) t.is.joined ∙ append_assoc t.is.prefix t.is.suffix r;
    is = t.is.first_is;
  }

  led_tail : (h : H) (q : Q) (x m r : List ℕ) (t : Begins (Led q) x r) → t.is.suffix ++ r ≡ m → h ≡ head q → Begins (second h (tail q)) m r
  led_tail h q x m r t e f =
      let s : Begins (second (head q) (tail q)) (t.is.suffix ++ r) r = record { bytes = t.is.suffix; joined = refl; is = t.is.second_is } in
      subst (λ (k : H). Begins (second k (tail q)) m r) (sym f) (subst (λ (y : List ℕ). Begins (second (head q) (tail q)) y r) e s)

  pub Lacks-led_head : (x : List ℕ) → Lacks first x → Lacks Led x
  Lacks-led_head x lacks q r t = lacks (head q) _ (led_head q x r t)

  pub Lacks-led_tail : (h : H) (x m : List ℕ) → Reads first h x m → Lacks (second h) m → Lacks Led x
  Lacks-led_tail h x m p lacks q r t = let o = p.only (head q) _ (led_head q x r t) in lacks (tail q) r (led_tail h q x m r t o.0 o.1)

  -- if the second part shows that its context is the head
  pub Reads-led : (h : H) (t : T) (x m r : List ℕ) → Reads first h x m → Reads (second h) t m r
      → ((bytes rest : List ℕ) → second h t bytes rest → head (whole h t) ≡ h) → tail (whole h t) ≡ t → Reads Led (whole h t) x r
  Reads-led h t x m r p q is_head is_tail =
      let e : h ≡ head (whole h t) = sym (is_head q.begins.bytes r q.begins.is) in
      let f : t ≡ tail (whole h t) = sym is_tail in
      let both = Begins-both first (second h) h t x m r p.begins q.begins in
      record {
        begins = subst (λ (k : H). Begins (first k ⨾ second k (tail (whole h t))) x r) e (subst (λ (k : T). Begins (first h ⨾ second h k) x r) f both);
        only = λ w s u.
            let o = p.only (head w) _ (led_head w x s u) in
            let n = q.only (tail w) s (led_tail h w x m s u o.0 o.1) in
            (n.0, ap (whole h) n.1 ∙ ap (λ (k : H). whole k (tail w)) o.1 ∙ again w);
      }

-- a body whose fields are exactly those that `parts` returns
module _ {A Q : Type 0} (parts : Q → A) (whole : A → Q) (again : (q : Q) → whole (parts q) ≡ q) {encoding : A → List ℕ → List ℕ → Type 0} where
  pub Lacks-as : (x : List ℕ) → Lacks encoding x → Lacks (λ (q : Q). encoding (parts q)) x
  Lacks-as x lacks q r t = lacks (parts q) r t

  pub Reads-as : (a : A) (x r : List ℕ) → Reads encoding a x r → parts (whole a) ≡ a → Reads (λ (q : Q). encoding (parts q)) (whole a) x r
  Reads-as a x r p e = record {
    begins = subst (λ (y : A). Begins (encoding y) x r) (sym e) p.begins;
    only = λ w s t. let o = p.only (parts w) s t in (o.0, ap whole o.1 ∙ again w);
  }

-- the value that was read, rewritten by an equality
pub Reads-is : {A : Type 0} {encodes : A → List ℕ → List ℕ → Type 0} {v w : A} {x r : List ℕ} → v ≡ w → Reads encodes v x r → Reads encodes w x r
Reads-is {encodes = encodes} {x = x} {r = r} e p = subst (λ y. Reads encodes y x r) e p

-- a reader that returns None only if no value is encoded at the start finds the one that is
pub is_some_unless_lacks : {A B : Type 0} (encodes : A → List ℕ → List ℕ → Type 0) (x : List ℕ) (P : Type 0) (r : Option B)
    → BeginsWith encodes x → IfNone r (Lacks encodes x × P) → IsSome r
is_some_unless_lacks encodes x P None represents none = absurd (none.0 represents.value represents.after represents.begins)
is_some_unless_lacks encodes x P (Some b) represents none = refl
