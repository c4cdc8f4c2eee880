-- Fields that are read one after the other.
use Rattle.std.proofs.Common.{◌≡◌, ℕ, suc, ◌+◌, ◌*◌, ◌<◌, ◌≤◌, ◌%◌, List, [], ◌∷◌, ◌++◌, length, take, drop, refl, sym, ap, ◌∙◌, subst, append_assoc, length-append, arith}
use Rattle.std.specs.Prelude.{IfNone, IsTrue, Option, None, Some}
use Rattle.std.specs.List.{list_all}
use Rattle.std.proofs.lemmas.List.{length-take-le, take-append-drop, take_all}
use Rattle.std.proofs.Math.ListN.{set}
use Rattle.std.proofs.Math.Seq.{take-suc-set}
use Rattle.wire_buf.specs.Encoding.{Begins, Both, IsSequence, Lacks, Reads}
use Rattle.wire_buf.proofs.EncodingLemmas.{Both-first, Lacks-both, Lacks-both_first, Reads-both, split_prefix, Sequence-lacks, Sequence-lacks_more, Sequence-more}
use Rattle.changes_origins.specs.TaggedGtids.{IsBody, IsInteger, IsField, IsByte, IsUuidField, IsNumberField, IsTagField, IsTaggedTime, IsTimes, is_of_tag}

-- ---- a field, by its number
module _ {A : Type 0} (n : ℕ) (content : A → List ℕ → List ℕ → Type 0) where
  pub Reads-field : (m : ℕ) (v : A) (x y r : List ℕ) → m ≡ n → Reads IsInteger m x y → Reads content v y r → Reads (IsField n content) v x r
  Reads-field m v x y r e p q =
      let both = Reads-both IsInteger content n v x y r (subst (λ (k : ℕ). Reads IsInteger k x y) e p) q in
      record { begins = both.begins; only = λ w rest t. let o = both.only (n, w) rest t in (o.0, ap (λ (z : ℕ × A). z.1) o.1) }

  pub Lacks-field_number : (x : List ℕ) → Lacks IsInteger x → Lacks (IsField n content) x
  Lacks-field_number x lacks = λ w r t. Lacks-both_first IsInteger content x lacks (n, w) r t

  pub Lacks-field_other : (m : ℕ) (x y : List ℕ) → Reads IsInteger m x y → (m ≡ n → ⊥) → Lacks (IsField n content) x
  Lacks-field_other m x y p other = λ w r t. other (p.only n (t.is.suffix ++ r) (Both-first IsInteger content n w x r t)).1

  pub Lacks-field_content : (m : ℕ) (x y : List ℕ) → m ≡ n → Reads IsInteger m x y → Lacks content y → Lacks (IsField n content) x
  Lacks-field_content m x y e p lacks = λ w r t. Lacks-both IsInteger content n x y (subst (λ (k : ℕ). Reads IsInteger k x y) e p) lacks (n, w) r t

-- ---- bytes
pub Reads-byte : (v : ℕ) (x y : List ℕ) → v < 256 → Reads IsInteger v x y → Reads IsByte v x y
Reads-byte v x y lt p = record {
  begins = record { bytes = p.begins.bytes; joined = p.begins.joined; is = (lt, p.begins.is) };
  only = λ w r t. p.only w r (record { bytes = t.bytes; joined = t.joined; is = t.is.1 });
}

pub Lacks-byte : (x : List ℕ) → Lacks IsInteger x → Lacks IsByte x
Lacks-byte x lacks = λ w r t. lacks w r (record { bytes = t.bytes; joined = t.joined; is = t.is.1 })

pub Lacks-byte_large : (v : ℕ) (x y : List ℕ) → Reads IsInteger v x y → 255 < v → Lacks IsByte x
Lacks-byte_large v x y p lt = λ w r t.
    let o = p.only w r (record { bytes = t.bytes; joined = t.joined; is = t.is.1 }) in
    let below = t.is.0 in
    omega (arith, lt, below, o.1)

-- the bytes of a UUID of which one can't be read
pub Lacks-uuid : (i j : ℕ) (vs : List ℕ) (x m : List ℕ) → j + suc i ≡ 16 → Reads (IsSequence i IsByte) vs x m → Lacks IsByte m → Lacks (IsSequence 16 IsByte) x
Lacks-uuid i j vs x m e p lacks = Sequence-lacks_more IsByte (suc i) j 16 x (sym e) (Sequence-lacks IsByte i vs x m p lacks)

-- one byte more of a UUID
pub byte_more : (i j : ℕ) (v : ℕ) (us vs : List ℕ) (x m r : List ℕ) → j ≡ i + 1 → i < length us → vs ≡ set us i v → Reads (IsSequence i IsByte) (take i us) x m → Reads IsByte v m r → Reads (IsSequence j IsByte) (take j vs) x r
byte_more i j v us vs x m r is lt e p q =
    let more = Sequence-more IsByte i (take i us) v x m r p q in
    let next : suc i ≡ j = omega (arith, is) in
    let items : take i us ++ v ∷ [] ≡ take (suc i) vs = sym (take-suc-set us i v lt) ∙ ap (take (suc i)) (sym e) in
    subst (λ (k : ℕ). Reads (IsSequence k IsByte) (take k vs) x r) next (subst (λ (l : List ℕ). Reads (IsSequence (suc i) IsByte) l x r) items more)

-- all of them
pub bytes_all : (i : ℕ) (us x r : List ℕ) → 16 ≤ i → i ≤ 16 → length us ≡ 16 → Reads (IsSequence i IsByte) (take i us) x r → Reads (IsSequence 16 IsByte) us x r
bytes_all i us x r low high long p =
    let same : i ≡ 16 = omega (arith, low, high) in
    let all : take 16 us ≡ us = take_all 16 us (omega (arith, long)) in
    subst (λ (l : List ℕ). Reads (IsSequence 16 IsByte) l x r) all (subst (λ (k : ℕ). Reads (IsSequence k IsByte) (take k us) x r) same p)

-- ---- the number of the transaction
pub Reads-number : (twice n : ℕ) (x y : List ℕ) → twice ≡ 2 * n → Reads (IsField 2 IsInteger) twice x y → Reads IsNumberField n x y
Reads-number twice n x y e p =
    let q : Reads (IsField 2 IsInteger) (2 * n) x y = subst (λ (k : ℕ). Reads (IsField 2 IsInteger) k x y) e p in
    record { begins = q.begins; only = λ w r t. let o = q.only (2 * w) r t in let same = o.1 in (o.0, omega (arith, same)) }

pub Lacks-number : (x : List ℕ) → Lacks (IsField 2 IsInteger) x → Lacks IsNumberField x
Lacks-number x lacks = λ w r t. lacks (2 * w) r t

pub Lacks-number_odd : (v : ℕ) (x y : List ℕ) → Reads (IsField 2 IsInteger) v x y → (v % 2 ≡ 0 → ⊥) → Lacks IsNumberField x
Lacks-number_odd v x y p odd = λ w r t. let o = p.only (2 * w) r t in let same = o.1 in odd (omega (arith, same))

-- ---- the tag
tag_parts : (w : List ℕ) (x r : List ℕ) (t : Begins (IsTagField w) x r) → Begins (IsField 3 IsInteger (length w)) x (w ++ r)
tag_parts w x r t =
    let first : Begins (IsField 3 IsInteger (length w)) x (t.is.suffix ++ r) = record { bytes = t.is.prefix; joined = t.joined ∙ ap (λ (b : List ℕ). b ++ r) t.is.joined ∙ append_assoc t.is.prefix t.is.suffix r; is = t.is.first_is } in
    subst (λ (s : List ℕ). Begins (IsField 3 IsInteger (length w)) x (s ++ r)) t.is.second_is.0 first

pub Reads-tag : (len : ℕ) (v x m r : List ℕ) → Reads (IsField 3 IsInteger) len x m → len ≤ length m → v ≡ take len m → r ≡ drop len m → IsTrue (list_all is_of_tag v) → Reads IsTagField v x r
Reads-tag len v x m r p room is rest all =
    let size : length v ≡ len = ap length is ∙ length-take-le len m room in
    let whole : m ≡ v ++ r = sym (take-append-drop len m) ∙ ap (λ (t : List ℕ). t ++ drop len m) (sym is) ∙ ap (λ (t : List ℕ). v ++ t) (sym rest) in
    record {
      begins = record {
        bytes = p.begins.bytes ++ v;
        joined = p.begins.joined ∙ ap (λ (t : List ℕ). p.begins.bytes ++ t) whole ∙ sym (append_assoc p.begins.bytes v r);
        is = record {
          prefix = p.begins.bytes;
          suffix = v;
          joined = refl;
          first_is = subst (λ (t : List ℕ). IsField 3 IsInteger (length v) p.begins.bytes t) whole (subst (λ (k : ℕ). IsField 3 IsInteger k p.begins.bytes m) (sym size) p.begins.is);
          second_is = (refl, all);
        };
      };
      only = λ w s t.
          let o = p.only (length w) (w ++ s) (tag_parts w x s t) in
          let halves = split_prefix len m w s (sym o.1) (sym o.0) in
          (sym halves.1 ∙ sym rest, is ∙ halves.0);
    }

pub Lacks-tag_number : (x : List ℕ) → Lacks (IsField 3 IsInteger) x → Lacks IsTagField x
Lacks-tag_number x lacks = λ w r t. lacks (length w) (w ++ r) (tag_parts w x r t)

pub Lacks-tag_short : (len : ℕ) (x m : List ℕ) → Reads (IsField 3 IsInteger) len x m → length m < len → Lacks IsTagField x
Lacks-tag_short len x m p short = λ w r t.
    let o = p.only (length w) (w ++ r) (tag_parts w x r t) in
    let whole = ap length o.0 ∙ refl in
    let long = length-append w r in
    let same = o.1 in
    omega (arith, whole, long, same, short)

pub Lacks-tag_other : (len : ℕ) (v x m : List ℕ) → Reads (IsField 3 IsInteger) len x m → v ≡ take len m → (IsTrue (list_all is_of_tag v) → ⊥) → Lacks IsTagField x
Lacks-tag_other len v x m p is other = λ w r t.
    let o = p.only (length w) (w ++ r) (tag_parts w x r t) in
    let halves = split_prefix len m w r (sym o.1) (sym o.0) in
    other (subst (λ (l : List ℕ). IsTrue (list_all is_of_tag l)) (sym (is ∙ halves.0)) t.is.second_is.1)

-- a fact that holds in any case
pub none_then : {A P : Type 0} (r : Option A) → P → IfNone r P
none_then None h = h
none_then (Some x) h = tt

pub IfNone_then : {A P Q : Type 0} (r : Option A) → IfNone r P → (P → Q) → IfNone r Q
IfNone_then None h f = f h
IfNone_then (Some x) h f = tt

-- ---- the body, from one of its fields on
abbrev pub FromNumber : ℕ × List ℕ → List ℕ → List ℕ → Type 0
FromNumber = Both IsNumberField IsTagField

abbrev pub FromUuid : List ℕ × (ℕ × List ℕ) → List ℕ → List ℕ → Type 0
FromUuid = Both IsUuidField FromNumber

abbrev pub FromFlags : ℕ × (List ℕ × (ℕ × List ℕ)) → List ℕ → List ℕ → Type 0
FromFlags = Both (IsField 0 IsInteger) FromUuid

abbrev pub FromLast : ℕ × (ℕ × (List ℕ × (ℕ × List ℕ))) → List ℕ → List ℕ → Type 0
FromLast = Both IsInteger FromFlags

abbrev pub FromSequence : ℕ × ℕ → List ℕ → List ℕ → Type 0
FromSequence = Both (IsField 5 IsInteger) (IsField 6 IsInteger)

-- a time that can't be read
pub no_time : (body : List ℕ) (r : Option ℕ) → r ≡ None → Lacks (Both IsBody IsTimes) body → IsTaggedTime body r
no_time body r e lacks = subst (IsTaggedTime body) (sym e) lacks
