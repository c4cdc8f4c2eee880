-- The error for bytes that aren't a table map.
use Rattle.std.proofs.Common.{◌≡◌, ◌⊎◌, inl, inr, ℕ, ◌<◌, List, [], ◌∷◌, ◌++◌, length, Some, None, refl, sym, ap, subst, ◌∙◌, arith, append_assoc, length-append}
use Rattle.std.proofs.lemmas.Bool.Decides.{eqb_tells}
use Rattle.wire_buf.specs.Encoding.{Begins, Lacks, ◌⨾◌, Both, Alone, IsFixed, IsBytes}
use Rattle.wire_buf.specs.ReadErrors.{BeginsThen, EndsBefore, ParseFails, PairFails}
use Rattle.wire_buf.specs.Numbers.{IsLenenc, IsLittle, IsShortString, IsLenencString, one, two, three, eight}
use Rattle.wire_buf.specs.LenencSplit.{split_lenenc}
use Rattle.wire_buf.specs.declared.fault.WireFault.{WireFault}
use Rattle.wire_buf.specs.declared.fault.WireFault.TheVariants.{Eof, BadNumber}
use Rattle.wire_buf.proofs.LenencLemmas.{split_lenenc-complete}
use Rattle.wire_buf.proofs.EncodingLemmas.{split_prefix, same_parts, Begins-both, Both-first, Both-second, Lacks-both_first}
use Rattle.wire_fields.specs.IntFaults.{lenenc_fault}
use Rattle.wire_fields.specs.ByteStrings.{IsAll, CountedFails}
use Rattle.rows_table_map.specs.TableMaps.{little_endian, plain_bytes, id_width, Names, Skipped, IsNames, IsTypes, BeginsNoLenenc, HasBadNumber, IsMapFault}
use Rattle.rows_table_map.proofs.TableMapParts.{Head, bytes_length}

-- ---- the encoded prefix determines the rest

abbrev pub OneRest : {A : Type 0} → (A → List ℕ → List ℕ → Type 0) → Type 0
OneRest {A} encodes = (v w : A) (x r s : List ℕ) → Begins (encodes v) x r → Begins (encodes w) x s → r ≡ s

one-fixed : {A : Type 0} (value : List ℕ → A) (n : ℕ) → OneRest (Alone (IsFixed value n))
one-fixed value n v w x r s p q = sym (split_prefix n x p.bytes r p.is.size p.joined).1 ∙ (split_prefix n x q.bytes s q.is.size q.joined).1

one-bytes : (n : ℕ) → OneRest (Alone (IsBytes n))
one-bytes n v w x r s p q = sym (split_prefix n x p.bytes r p.is.size p.joined).1 ∙ (split_prefix n x q.bytes s q.is.size q.joined).1

one-skipped : OneRest Skipped
one-skipped v w x r s p q = sym (split_prefix 1 x p.bytes r p.is p.joined).1 ∙ (split_prefix 1 x q.bytes s q.is q.joined).1

length-at : (v x r : List ℕ) → Begins (Alone IsShortString v) x r → Begins (Alone (IsLittle 1) (length v)) x (v ++ r)
length-at v x r t = record { bytes = t.is.prefix; joined = t.joined ∙ ap (λ (b : List ℕ). b ++ r) t.is.joined ∙ append_assoc t.is.prefix v r; is = t.is.prefix_is }

one-little_endian : (v w : ℕ) (x r s : List ℕ) → Begins (Alone (IsLittle 1) v) x r → Begins (Alone (IsLittle 1) w) x s → v ≡ w
one-little_endian v w x r s p q =
    let a = (split_prefix 1 x p.bytes r p.is.size p.joined).0 in
    let b = (split_prefix 1 x q.bytes s q.is.size q.joined).0 in
    let e : p.bytes ≡ q.bytes = sym a ∙ b in
    p.is.value_is ∙ rw e (sym q.is.value_is)

one-short : OneRest (Alone IsShortString)
one-short v w x r s p q =
    let a = length-at v x r p in
    let b = length-at w x s q in
    let size : length w ≡ length v = sym (one-little_endian (length v) (length w) x (v ++ r) (w ++ s) a b) in
    let rests : v ++ r ≡ w ++ s = one-fixed _ 1 (length v) (length w) x (v ++ r) (w ++ s) a b in
    sym (split_prefix (length v) (v ++ r) v r refl refl).1 ∙ (split_prefix (length v) (v ++ r) w s size rests).1

one-both : {A B : Type 0} (f : A → List ℕ → List ℕ → Type 0) (g : B → List ℕ → List ℕ → Type 0) → OneRest f → OneRest g → OneRest (Both f g)
one-both f g one_f one_g v w x r s p q =
    let m = one_f w.0 v.0 x _ _ (Both-first f g w.0 w.1 x s q) (Both-first f g v.0 v.1 x r p) in
    one_g v.1 w.1 _ r s (Both-second f g v.0 v.1 x r p) (subst (λ (y : List ℕ). Begins (g w.1) y s) m (Both-second f g w.0 w.1 x s q))

one-lenenc : (v w : ℕ) (x r s : List ℕ) → Begins (Alone IsLenenc v) x r → Begins (Alone IsLenenc w) x s → (v ≡ w) × (r ≡ s)
one-lenenc v w x r s p q =
    let a : split_lenenc x ≡ Some (v, r) = ap split_lenenc p.joined ∙ split_lenenc-complete v p.bytes r p.is in
    let b : split_lenenc x ≡ Some (w, s) = ap split_lenenc q.joined ∙ split_lenenc-complete w q.bytes s q.is in
    same_parts v w r s (sym a ∙ b)

one-names : (ph : ℕ) → OneRest (IsNames ph)
one-names ph =
    one-both (little_endian (id_width ph)) _ (one-fixed _ (id_width ph)) (one-both (little_endian 2) _ (one-fixed _ 2) (one-both (Alone IsShortString) _ one-short
    (one-both Skipped _ one-skipped (one-both (Alone IsShortString) Skipped one-short one-skipped))))

-- the column count, and the types after it
types-count : (types x r : List ℕ) → Begins (IsTypes types) x r → (m : List ℕ) × Begins (Alone IsLenenc (length types)) x m × Begins (plain_bytes (length types) types) m r
types-count types x r t =
    (_, Both-first (Alone IsLenenc) (plain_bytes (length types)) (length types) types x r t, Both-second (Alone IsLenenc) (plain_bytes (length types)) (length types) types x r t)

-- ---- a length-encoded integer is read without an error

little_endian-whole : (n : ℕ) (bytes m : List ℕ) → IsLenenc n bytes → lenenc_fault (bytes ++ m) ≡ Eof
little_endian-whole n _ m (one h) = elim (eqb_tells n 251) [
  | inl t ↦ absurd (omega (arith, t.1, h))
  | inr t ↦ elim (eqb_tells n 255) [ inl u ↦ absurd (omega (arith, u.1, h)) | inr u ↦ rw (t.0, u.0) refl ]
]
little_endian-whole n _ m (two h) = refl
little_endian-whole n _ m (three h) = refl
little_endian-whole n _ m (eight h) = refl

little_endian-eof : (n : ℕ) (x m : List ℕ) → Begins (Alone IsLenenc n) x m → lenenc_fault x ≡ Eof
little_endian-eof n x m t = rw t.joined (little_endian-whole n t.bytes m t.is)

two_faults : (x : List ℕ) → (lenenc_fault x ≡ Eof) ⊎ (lenenc_fault x ≡ BadNumber)
two_faults [] = inl refl
two_faults (b ∷ x) = elim (eqb_tells b 251) [
  | inl t ↦ inr (rw t.0 refl)
  | inr t ↦ elim (eqb_tells b 255) [ inl u ↦ inr (rw (t.0, u.0) refl) | inr u ↦ inl (rw (t.0, u.0) refl) ]
]

not_both : (x : List ℕ) → lenenc_fault x ≡ Eof → lenenc_fault x ≡ BadNumber → ⊥
not_both x e f = let same : ◌≡◌ {A = WireFault} Eof BadNumber = sym e ∙ f in absurd (cc same)

-- ---- errors after what was read

short_lacks : {A : Type 0} (value : List ℕ → A) (n : ℕ) (x : List ℕ) → length x < n → Lacks (Alone (IsFixed value n)) x
short_lacks value n x h v r t = omega (arith, h, t.is.size, ap length t.joined, length-append t.bytes r)

-- a number of n bytes can't be read
pub number_failed : (n : ℕ) (x : List ℕ) (e : WireFault) → ParseFails (Some n) (λ y f. Lacks (little_endian n) y × (f ≡ Eof)) (λ f. f ≡ Eof) x e → Lacks (little_endian n) x × (e ≡ Eof)
number_failed n x e h = elim h as (λ _. Lacks (little_endian n) x × (e ≡ Eof)) [ inl p ↦ p | inr s ↦ (short_lacks _ n x s.0, s.1) ]

skip_failed : (x : List ℕ) (e : WireFault) → ParseFails (Some 1) (EndsBefore 1) (λ f. f ≡ Eof) x e → Lacks Skipped x × (e ≡ Eof)
skip_failed x e h =
    let lacks : length x < 1 → Lacks Skipped x = λ s v r t. omega (arith, s, t.is, ap length t.joined, length-append t.bytes r) in
    elim h as (λ _. Lacks Skipped x × (e ≡ Eof)) [ inl p ↦ (lacks p.0, p.1) | inr s ↦ (lacks s.0, s.1) ]

-- the error of an encoding without a fixed size is its own
own : (P Q : Type 0) → P ⊎ (⊥ × Q) → P
own P Q h = elim h as (λ _. P) [ inl p ↦ p | inr q ↦ absurd q.0 ]

-- an error of an encoding without a fixed size
abbrev pub Whole : (List ℕ → WireFault → Type 0) → List ℕ → WireFault → Type 0
Whole fails_with = ParseFails None fails_with (λ f. f ≡ Eof)

-- bytes are missing before the encoding's end, or it was read and the fact holds for the bytes after it
abbrev pub EndsOr : {A : Type 0} → (A → List ℕ → List ℕ → Type 0) → (List ℕ → Type 0) → List ℕ → WireFault → Type 0
EndsOr encodes fact x e = (Lacks encodes x × (e ≡ Eof)) ⊎ BeginsThen encodes (λ v rest. fact rest) x

module _ {A B : Type 0} (f : A → List ℕ → List ℕ → Type 0) (g : B → List ℕ → List ℕ → Type 0) (fact : List ℕ → Type 0) (e : WireFault) where
  second-lacks : OneRest f → (x : List ℕ) (v : A) (m : List ℕ) → Begins (f v) x m → Lacks g m → Lacks (Both f g) x
  second-lacks one_f x v m b lacks w s t =
      lacks w.1 s (subst (λ (y : List ℕ). Begins (g w.1) y s) (one_f w.0 v x _ m (Both-first f g w.0 w.1 x s t) b) (Both-second f g w.0 w.1 x s t))

  ends_more : OneRest f → (x : List ℕ) → EndsOr f (λ rest. EndsOr g fact rest e) x e → EndsOr (Both f g) fact x e
  ends_more one_f x h = elim h as (λ _. EndsOr (Both f g) fact x e) [
    | inl a ↦ inl (Lacks-both_first f g x a.0, a.1)
    | inr b ↦ elim b.holds as (λ _. EndsOr (Both f g) fact x e) [
      | inl l ↦ inl (second-lacks one_f x b.value b.after b.begins l.0, l.1)
      | inr m ↦ inr (record { value = (b.value, m.value); after = m.after; begins = Begins-both f g b.value m.value x b.after m.after b.begins m.begins; holds = m.holds })
    ]
  ]

  -- the error of a pair, by the errors of its parts
  pair_ends : OneRest f → (fails_with second : List ℕ → WireFault → Type 0) → ((y : List ℕ) → fails_with y e → Lacks f y × (e ≡ Eof)) → ((y : List ℕ) → second y e → EndsOr g fact y e)
      → (x : List ℕ) → PairFails f fails_with (Whole second) x e → EndsOr (Both f g) fact x e
  pair_ends one_f fails_with second first more x h = ends_more one_f x (elim h as (λ _. EndsOr f (λ rest. EndsOr g fact rest e) x e) [
    | inl a ↦ inl (first x a)
    | inr b ↦ inr (record { value = b.value; after = b.after; begins = b.begins; holds = more b.after (own _ _ b.holds) })
  ])

-- ---- the names, and errors after them

-- the bytes don't begin with a length-encoded integer
abbrev pub NoCount : List ℕ → WireFault → Type 0
NoCount x e = Lacks (Alone IsLenenc) x × (e ≡ lenenc_fault x)

abbrev pub NumberPart : ℕ → List ℕ → WireFault → Type 0
NumberPart n = ParseFails (Some n) (λ y f. Lacks (little_endian n) y × (f ≡ Eof)) (λ f. f ≡ Eof)

abbrev pub SkipPart : List ℕ → WireFault → Type 0
SkipPart = ParseFails (Some 1) (EndsBefore 1) (λ f. f ≡ Eof)

-- an encoding without a fixed size, whose bytes are missing
abbrev pub EndPart : {A : Type 0} → (A → List ℕ → List ℕ → Type 0) → List ℕ → WireFault → Type 0
EndPart encodes = Whole (λ y f. Lacks encodes y × (f ≡ Eof))

-- the errors of the fields up to the column count
abbrev pub LastPart : List ℕ → WireFault → Type 0
LastPart = PairFails Skipped SkipPart (Whole NoCount)

abbrev pub TablePart : List ℕ → WireFault → Type 0
TablePart = PairFails (Alone IsShortString) (EndPart (Alone IsShortString)) (Whole LastPart)

abbrev pub DatabasePart : List ℕ → WireFault → Type 0
DatabasePart = PairFails (Alone IsShortString) (EndPart (Alone IsShortString)) (Whole (PairFails Skipped SkipPart (Whole TablePart)))

abbrev pub HeadPart : ℕ → List ℕ → WireFault → Type 0
HeadPart ph = PairFails (little_endian (id_width ph)) (EndPart (little_endian (id_width ph))) (Whole (PairFails (little_endian 2) (NumberPart 2) (Whole DatabasePart)))

last_ends : (e : WireFault) (x : List ℕ) → LastPart x e → EndsOr Skipped (λ r. NoCount r e) x e
last_ends e x h = elim h as (λ _. EndsOr Skipped (λ r. NoCount r e) x e) [
  | inl a ↦ inl (skip_failed x e a)
  | inr b ↦ inr (record { value = b.value; after = b.after; begins = b.begins; holds = own _ _ b.holds })
]

names_failed : (ph : ℕ) (x : List ℕ) (e : WireFault) → HeadPart ph x e → EndsOr (IsNames ph) (λ r. NoCount r e) x e
names_failed ph x e =
    let fact : List ℕ → Type 0 = λ r. NoCount r e in
    let table = pair_ends (Alone IsShortString) Skipped fact e one-short (EndPart (Alone IsShortString)) LastPart (λ y. own _ _) (last_ends e) in
    let middle = pair_ends Skipped (Both (Alone IsShortString) Skipped) fact e one-skipped SkipPart TablePart (λ y. skip_failed y e) table in
    let database = pair_ends (Alone IsShortString) _ fact e one-short (EndPart (Alone IsShortString)) (PairFails Skipped SkipPart (Whole TablePart)) (λ y. own _ _) middle in
    let flags = pair_ends (little_endian 2) _ fact e (one-fixed _ 2) (NumberPart 2) DatabasePart (λ y. number_failed 2 y e) database in
    pair_ends (little_endian (id_width ph)) _ fact e (one-fixed _ (id_width ph)) (EndPart (little_endian (id_width ph))) (PairFails (little_endian 2) (NumberPart 2) (Whole DatabasePart)) (λ y. own _ _) flags x

-- ---- no bad number

no_names : (ph : ℕ) (x : List ℕ) → Lacks (IsNames ph) x → HasBadNumber ph x → ⊥
no_names ph x lacks w = elim w [
  | inl b ↦ lacks b.value b.after b.begins
  | inr b ↦ lacks b.value.0 _ (Both-first (IsNames ph) IsTypes b.value.0 b.value.1 x b.after b.begins)
]

-- a bad number after the names that were read
at_names : (ph : ℕ) (x : List ℕ) (v : Names) (k : List ℕ) → Begins (IsNames ph v) x k → HasBadNumber ph x → BeginsNoLenenc k ⊎ BeginsThen IsTypes (λ types rest. BeginsNoLenenc rest) k
at_names ph x v k b w = elim w as (λ _. BeginsNoLenenc k ⊎ BeginsThen IsTypes (λ types rest. BeginsNoLenenc rest) k) [
  | inl u ↦ inl (subst BeginsNoLenenc (one-names ph u.value v x u.after k u.begins b) u.holds)
  | inr u ↦
      let first = Both-first (IsNames ph) IsTypes u.value.0 u.value.1 x u.after u.begins in
      inr (record {
        value = u.value.1;
        after = u.after;
        begins = subst (λ (y : List ℕ). Begins (IsTypes u.value.1) y u.after) (one-names ph u.value.0 v x _ k first b) (Both-second (IsNames ph) IsTypes u.value.0 u.value.1 x u.after u.begins);
        holds = u.holds;
      })
]

-- the types after a column count that was read
at_types : (types k r : List ℕ) (n : ℕ) (m : List ℕ) → Begins (Alone IsLenenc n) k m → Begins (IsTypes types) k r → Begins (plain_bytes n types) m r
at_types types k r n m c t =
    let s = types-count types k r t in
    let o = one-lenenc (length types) n k s.0 m s.1 c in
    subst (λ (y : List ℕ). Begins (plain_bytes n types) y r) o.1 (subst (λ (j : ℕ). Begins (plain_bytes j types) s.0 r) o.0 s.2)

-- the fields before the column count, and the count
module _ (ph : ℕ) (x : List ℕ) (v : Names) (k : List ℕ) (names : Begins (IsNames ph v) x k) where
  no_count : lenenc_fault k ≡ Eof → Lacks (Alone IsLenenc) k → HasBadNumber ph x → ⊥
  no_count eof lacks w = elim (at_names ph x v k names w) [
    | inl bad ↦ not_both k eof bad
    | inr u ↦ lacks _ _ (types-count u.value k u.after u.begins).1
  ]

  module _ (n : ℕ) (m : List ℕ) (count : Begins (Alone IsLenenc n) k m) where
    no_types : Lacks (plain_bytes n) m → HasBadNumber ph x → ⊥
    no_types lacks w = elim (at_names ph x v k names w) [
      | inl bad ↦ not_both k (little_endian-eof n k m count) bad
      | inr u ↦ lacks u.value u.after (at_types u.value k u.after n m count u.begins)
    ]

    -- and the types
    module _ (types l : List ℕ) (here : Begins (plain_bytes n types) m l) where
      no_length : lenenc_fault l ≡ Eof → HasBadNumber ph x → ⊥
      no_length eof w = elim (at_names ph x v k names w) [
        | inl bad ↦ not_both k (little_endian-eof n k m count) bad
        | inr u ↦ not_both l eof (subst BeginsNoLenenc (one-bytes n u.value types m u.after l (at_types u.value k u.after n m count u.begins) here) u.holds)
      ]

      bad_length : BeginsNoLenenc l → HasBadNumber ph x
      bad_length bad =
          let size : length types ≡ n = bytes_length here.is in
          let both : Begins (Alone IsLenenc n ⨾ plain_bytes n types) k l = Begins-both (Alone IsLenenc) (plain_bytes n) n types k m l count here in
          let whole : Begins (IsTypes types) k l = subst (λ (j : ℕ). Begins (Alone IsLenenc j ⨾ plain_bytes j types) k l) (sym size) both in
          inr (record { value = (v, types); after = l; begins = Begins-both (IsNames ph) IsTypes v types x k l names whole; holds = bad })

-- ---- which error

pub head_fault : (ph : ℕ) (x : List ℕ) (e : WireFault) → HeadPart ph x e → IsMapFault ph x e
head_fault ph x e h = elim (names_failed ph x e h) as (λ _. IsMapFault ph x e) [
  | inl a ↦ inr (a.1, no_names ph x a.0)
  | inr b ↦ elim (two_faults b.after) as (λ _. IsMapFault ph x e) [
    | inl eof ↦ inr (b.holds.1 ∙ eof, no_count ph x b.value b.after b.begins eof b.holds.0)
    | inr bad ↦ inl (b.holds.1 ∙ bad, inl (record { value = b.value; after = b.after; begins = b.begins; holds = bad }))
  ]
]

-- the errors of the fields after the column count
abbrev pub BitsPart : ℕ → List ℕ → WireFault → Type 0
BitsPart b = PairFails (plain_bytes b) (EndPart (plain_bytes b)) (EndPart IsAll)

abbrev pub MetadataPart : ℕ → List ℕ → WireFault → Type 0
MetadataPart b = PairFails (Alone IsLenencString) (Whole (λ y f. Lacks (Alone IsLenencString) y × CountedFails IsLenenc lenenc_fault y f)) (Whole (BitsPart b))

abbrev pub TailPart : ℕ → ℕ → List ℕ → WireFault → Type 0
TailPart n b = PairFails (plain_bytes n) (EndPart (plain_bytes n)) (Whole (MetadataPart b))

bits_end : (b : ℕ) (x : List ℕ) (e : WireFault) → BitsPart b x e → e ≡ Eof
bits_end b x e h = elim h as (λ _. e ≡ Eof) [ inl a ↦ (own _ _ a).1 | inr t ↦ (own _ _ t.holds).1 ]

-- the length before a string
string-length : (s x r : List ℕ) → Begins (Alone IsLenencString s) x r → Begins (Alone IsLenenc (length s)) x (s ++ r)
string-length s x r t = record { bytes = t.is.prefix; joined = t.joined ∙ ap (λ (b : List ℕ). b ++ r) t.is.joined ∙ append_assoc t.is.prefix s r; is = t.is.prefix_is }

module _ (ph : ℕ) (x : List ℕ) (v : Names) (k : List ℕ) (names : Begins (IsNames ph v) x k) (n : ℕ) (m : List ℕ) (count : Begins (Alone IsLenenc n) k m) (b : ℕ) (e : WireFault) where
  metadata_fault : (types l : List ℕ) → Begins (plain_bytes n types) m l → MetadataPart b l e → IsMapFault ph x e
  metadata_fault types l here h =
      let none = no_length ph x v k names n m count types l here in
      elim h as (λ _. IsMapFault ph x e) [
        | inl a ↦ elim (own _ _ a).1 as (λ _. IsMapFault ph x e) [
          | inl c ↦ elim (two_faults l) as (λ _. IsMapFault ph x e) [
            | inl eof ↦ inr (c.1 ∙ eof, none eof)
            | inr bad ↦ inl (c.1 ∙ bad, bad_length ph x v k names n m count types l here bad)
          ]
          | inr d ↦ inr (d.1, none (little_endian-eof d.0.value l d.0.after d.0.begins))
        ]
        | inr t ↦ inr (bits_end b t.after e (own _ _ t.holds), none (little_endian-eof (length t.value) l (t.value ++ t.after) (string-length t.value l t.after t.begins)))
      ]

  pub tail_fault : TailPart n b m e → IsMapFault ph x e
  tail_fault h = elim h as (λ _. IsMapFault ph x e) [
    | inl a ↦ let p = own _ _ a in inr (p.1, no_types ph x v k names n m count p.0)
    | inr t ↦ metadata_fault t.value t.after t.begins (own _ _ t.holds)
  ]

-- ---- the column count is the last of the fields that are read first

module _ {A B C D : Type 0} (f : A → List ℕ → List ℕ → Type 0) (whole : D → List ℕ → List ℕ → Type 0) (g : B → List ℕ → List ℕ → Type 0) (c : C → List ℕ → List ℕ → Type 0) (first : D → B) (last : D → C)
    (inner : (d : D) (x r : List ℕ) → Begins (whole d) x r → (k : List ℕ) × Begins (g (first d)) x k × Begins (c (last d)) k r) where
  split_last : (v : A × D) (x r : List ℕ) → Begins (Both f whole v) x r → (k : List ℕ) × Begins (Both f g (v.0, first v.1)) x k × Begins (c (last v.1)) k r
  split_last v x r t =
      let s = inner v.1 _ r (Both-second f whole v.0 v.1 x r t) in
      (s.0, Begins-both f g v.0 (first v.1) x _ s.0 (Both-first f whole v.0 v.1 x r t) s.1, s.2)

abbrev pub CountEncoding : ℕ → List ℕ → List ℕ → Type 0
CountEncoding = Alone IsLenenc

abbrev pub HeadEncoding : ℕ → Head → List ℕ → List ℕ → Type 0
HeadEncoding ph = Both (little_endian (id_width ph)) (Both (little_endian 2) (Both (Alone IsShortString) (Both Skipped (Both (Alone IsShortString) (Both Skipped CountEncoding)))))

abbrev pub names_of : Head → Names
names_of h = (h.0, (h.1.0, (h.1.1.0, (h.1.1.1.0, (h.1.1.1.1.0, h.1.1.1.1.1.0)))))

-- the last two fields, and then one more at a time
two_last : (d : Unit {0} × ℕ) (x r : List ℕ) → Begins (Both Skipped CountEncoding d) x r → (k : List ℕ) × Begins (Skipped d.0) x k × Begins (CountEncoding d.1) k r
two_last d x r t = (_, Both-first Skipped CountEncoding d.0 d.1 x r t, Both-second Skipped CountEncoding d.0 d.1 x r t)

abbrev pub FromTable : List ℕ × (Unit {0} × ℕ) → List ℕ → List ℕ → Type 0
FromTable = Both (Alone IsShortString) (Both Skipped CountEncoding)

abbrev pub FromDatabase : List ℕ × (Unit {0} × (List ℕ × (Unit {0} × ℕ))) → List ℕ → List ℕ → Type 0
FromDatabase = Both (Alone IsShortString) (Both Skipped FromTable)

pub head_split : (ph : ℕ) (h : Head) (x r : List ℕ) → Begins (HeadEncoding ph h) x r → (k : List ℕ) × Begins (IsNames ph (names_of h)) x k × Begins (CountEncoding h.1.1.1.1.1.1) k r
head_split ph h x r t =
    let from_table = split_last (Alone IsShortString) (Both Skipped CountEncoding) Skipped CountEncoding (λ d. d.0) (λ d. d.1) two_last in
    let from_middle = split_last Skipped FromTable (Both (Alone IsShortString) Skipped) CountEncoding (λ d. (d.0, d.1.0)) (λ d. d.1.1) from_table in
    let from_database = split_last (Alone IsShortString) (Both Skipped FromTable) (Both Skipped (Both (Alone IsShortString) Skipped)) CountEncoding (λ d. (d.0, (d.1.0, d.1.1.0))) (λ d. d.1.1.1) from_middle in
    let from_flags = split_last (little_endian 2) FromDatabase (Both (Alone IsShortString) (Both Skipped (Both (Alone IsShortString) Skipped))) CountEncoding (λ d. (d.0, (d.1.0, (d.1.1.0, d.1.1.1.0)))) (λ d. d.1.1.1.1) from_database in
    split_last (little_endian (id_width ph)) (Both (little_endian 2) FromDatabase) (Both (little_endian 2) (Both (Alone IsShortString) (Both Skipped (Both (Alone IsShortString) Skipped)))) CountEncoding
    (λ d. (d.0, (d.1.0, (d.1.1.0, (d.1.1.1.0, d.1.1.1.1.0))))) (λ d. d.1.1.1.1.1) from_flags h x r t
