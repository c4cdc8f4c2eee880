-- The members of a column are written as their count and their strings in order, and no encoding of them is shorter.
use Rattle.std.proofs.Common.{◌≡◌, ℕ, ◌+◌, ◌<◌, List, [], ◌∷◌, ◌++◌, length, map, take, get_or, Option, Some, inl, inr, refl, sym, ap, subst, ◌∙◌, arith, append_assoc, append-nil}
use Rattle.std.specs.Bool.{⊤}
use Rattle.std.proofs.lemmas.List.{length-append, map_more}
use Rattle.std.proofs.Math.Seq.{take-append_seam}
use Rattle.wire_buf.specs.Encoding.{AreBytes, Alone}
use Rattle.wire_buf.specs.Numbers.{IsLenenc, IsLenencString}
use Rattle.wire_buf.specs.Writing.{Writes, WritesField, WriteFails}
use Rattle.wire_buf.specs.declared.fault.WireFault.{WireFault}
use Rattle.wire_buf.specs.declared.fault.WireFault.TheVariants.{Memory}
use Rattle.wire_buf.proofs.WritingLemmas.{AreBytes-prefix, AreBytes-suffix}
use Rattle.wire_fields.specs.Strings.{lenenc_string_encoded}
use Rattle.rows_table_map.specs.Members.{AreStrings, MembersEncoding}
use Rattle.rows_table_map.specs.FieldEncodings.{number_encoded, string_encoded, joined_strings, members_encoded}

-- consecutive strings are appended
abbrev pub WritesStrings : List (List ℕ) → List ℕ → List ℕ → Type 0
WritesStrings = WritesField (λ vs. Some (joined_strings vs)) (Alone AreStrings) (λ rest. ⊤)

joined-snoc : (vs : List (List ℕ)) (v : List ℕ) → joined_strings (vs ++ (v ∷ [])) ≡ joined_strings vs ++ lenenc_string_encoded v
joined-snoc [] v = append-nil (lenenc_string_encoded v)
joined-snoc (w ∷ vs) v =
    ap (λ (l : List ℕ). lenenc_string_encoded w ++ l) (joined-snoc vs v) ∙ sym (append_assoc (lenenc_string_encoded w) (joined_strings vs) (lenenc_string_encoded v))

strings-snoc : (vs : List (List ℕ)) (v a b : List ℕ) → AreStrings vs a → IsLenencString v b → AreStrings (vs ++ (v ∷ [])) (a ++ b)
strings-snoc [] v a b h s = (b, [], ap (λ (l : List ℕ). l ++ b) h ∙ sym (append-nil b), s, refl)
strings-snoc (w ∷ vs) v a b h s = (h.0, h.1 ++ b, ap (λ (l : List ℕ). l ++ b) h.2 ∙ append_assoc h.0 h.1 b, h.3, strings-snoc vs v h.1 b h.4 s)

strings-split : (vs : List (List ℕ)) (v c : List ℕ) → AreStrings (vs ++ (v ∷ [])) c → (a : List ℕ) × (b : List ℕ) × (c ≡ a ++ b) × AreStrings vs a × IsLenencString v b
strings-split [] v c h = ([], h.0, h.2 ∙ ap (λ (l : List ℕ). h.0 ++ l) h.4 ∙ append-nil h.0, refl, h.3)
strings-split (w ∷ vs) v c h =
    let t = strings-split vs v h.1 h.4 in
    (h.0 ++ t.0, t.1, h.2 ∙ ap (λ (l : List ℕ). h.0 ++ l) t.2 ∙ sym (append_assoc h.0 t.0 t.1), (h.0, t.0, refl, h.3, t.3), t.4)

some-same : (a b : List ℕ) → (let x : Option (List ℕ) = Some a in x ≡ Some b) → a ≡ b
some-same a b h = cc

pub strings_none : (vs : List (List ℕ)) (old : List ℕ) → vs ≡ [] → WritesStrings vs old old
strings_none vs old e = rw e (record {
  bytes = [];
  is = refl;
  appended = sym (append-nil old);
  encodes = λ rest s. refl;
  least = λ other rest h are. omega arith;
})

strings_more : (vs : List (List ℕ)) (v old mid new : List ℕ) → WritesStrings vs old mid → WritesField string_encoded (Alone IsLenencString) (λ rest. ⊤) v mid new → WritesStrings (vs ++ (v ∷ [])) old new
strings_more vs v old mid new p q = record {
  bytes = p.bytes ++ q.bytes;
  is = ap (λ (l : List ℕ). Some l) (joined-snoc vs v ∙ rw (some-same _ _ p.is, some-same _ _ q.is) refl);
  appended = q.appended ∙ ap (λ (l : List ℕ). l ++ q.bytes) p.appended ∙ append_assoc old p.bytes q.bytes;
  encodes = λ rest s. strings-snoc vs v p.bytes q.bytes (p.encodes rest tt) (q.encodes rest tt);
  least = λ other rest h are.
      let t = strings-split vs v other h in
      let joined = t.2 in
      let all : AreBytes (t.0 ++ t.1) = subst AreBytes joined are in
      let a = p.least t.0 rest t.3 (AreBytes-prefix t.0 t.1 all) in
      let b = q.least t.1 rest t.4 (AreBytes-suffix t.0 t.1 all) in
      omega (arith, a, b, ap length joined, length-append t.0 t.1, length-append p.bytes q.bytes);
}

-- one more member of xs is written
pub member_written : {X : Type 0} (view : X → List ℕ) (xs : List X) (i : ℕ) (x : X) (v old mid new : List ℕ) → i < length xs → x ≡ get_or xs i x → v ≡ view x
    → WritesStrings (map view (take i xs)) old mid → WritesField string_encoded (Alone IsLenencString) (λ rest. ⊤) v mid new → WritesStrings (map view (take (i + 1) xs)) old new
member_written view xs i x v old mid new inside is e p q =
    let more = map_more view xs i x inside ∙ ap (λ y. map view (take i xs) ++ (view y ∷ [])) (sym is) ∙ ap (λ (y : List ℕ). map view (take i xs) ++ (y ∷ [])) (sym e) in
    rw more (strings_more (map view (take i xs)) v old mid new p q)

-- the count, and then the strings
pub members_written : (n : ℕ) (vs : List (List ℕ)) (old mid new : List ℕ) → n ≡ length vs → Writes number_encoded IsLenenc n old mid → WritesStrings vs mid new
    → WritesField members_encoded MembersEncoding (λ rest. ⊤) vs old new
members_written n vs old mid new e p q = record {
  bytes = p.bytes ++ q.bytes;
  is = ap (λ (l : List ℕ). Some l) (rw (← e, some-same _ _ p.is, some-same _ _ q.is) refl);
  appended = q.appended ∙ ap (λ (l : List ℕ). l ++ q.bytes) p.appended ∙ append_assoc old p.bytes q.bytes;
  encodes = λ rest s. record { count = p.bytes; strings = q.bytes; joined = refl; count_is = subst (λ (k : ℕ). IsLenenc k p.bytes) e p.least.is; strings_are = q.encodes rest tt };
  least = λ other rest h are.
      let joined = h.joined in
      let all : AreBytes (h.count ++ h.strings) = subst AreBytes joined are in
      let a = p.least.least h.count (subst (λ (k : ℕ). IsLenenc k h.count) (sym e) h.count_is) (AreBytes-prefix h.count h.strings all) in
      let b = q.least h.strings rest h.strings_are (AreBytes-suffix h.count h.strings all) in
      omega (arith, a, b, ap length joined, length-append h.count h.strings, length-append p.bytes q.bytes);
}

-- the bytes that were there before are unchanged
pub members_kept : (n : ℕ) (vs : List (List ℕ)) (old mid new : List ℕ) → Writes number_encoded IsLenenc n old mid → WritesStrings vs mid new → take (length old) new ≡ old
members_kept n vs old mid new p q =
    ap (take (length old)) (q.appended ∙ ap (λ (l : List ℕ). l ++ q.bytes) p.appended ∙ append_assoc old p.bytes q.bytes) ∙ take-append_seam old (p.bytes ++ q.bytes)

-- every count has an encoding, so only memory can be missing
pub count_fails : (n : ℕ) (e : WireFault) (old new : List ℕ) → WriteFails number_encoded n e old new → e ≡ Memory
count_fails n e old new w = elim w.why [
  | inl memory ↦ memory
  | inr form ↦ absurd (cc (form.1))
]
