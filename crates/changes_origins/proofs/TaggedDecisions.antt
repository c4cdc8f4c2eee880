-- The body of each event with a tagged GTID begins with the fields, or doesn't.
use Rattle.std.proofs.Common.{◌≡◌, ◌⊎◌, inl, inr, ℕ, zero, suc, ◌+◌, ◌-◌, ◌/◌, ◌%◌, ◌^◌, ◌<◌, ◌≤◌, Bool, true, false, List, [], ◌∷◌, ◌++◌, length, take, drop, Option, Some, None, refl, sym, ap, ◌∙◌, subst, arith}
use Rattle.std.specs.Prelude.{slice_index}
use Rattle.std.specs.List.{list_all}
use Rattle.std.proofs.lemmas.Bool.{cases_lt, false≢true}
use Rattle.std.proofs.lemmas.Bool.Decides.{eqb_tells}
use Rattle.std.proofs.Math.ListN.{get_or-append}
use Rattle.byteorder.specs.Endian.{little_number}
use Rattle.wire_buf.specs.Encoding.{Both, IsSequence, Lacks, Reads}
use Rattle.wire_buf.proofs.EncodingLemmas.{Lacks-both, Lacks-both_first, Reads-both, Sequence-none, Sequence-more, Sequence-lacks, Sequence-lacks_more}
use Rattle.wire_fields_extra.specs.TrailingOnes.{HasTrailingOnes, IsVarlenUint, short, long}
use Rattle.wire_fields_extra.proofs.OnesLemmas.{none_lacks, short_reads, short_lacks, long_reads, long_lacks}
use Rattle.changes_origins.specs.TaggedGtids.{TaggedGtid, IsBody, IsByte, IsField, IsInteger, IsNumberField, IsTaggedGtid, IsTagField, IsUuidField, gtid_in, is_of_tag}
use Rattle.changes_origins.proofs.TaggedLemmas.{Reads-field, Lacks-field_number, Lacks-field_other, Lacks-field_content, Reads-byte, Lacks-byte, Lacks-byte_large, Reads-number, Lacks-number, Lacks-number_odd, Reads-tag, Lacks-tag_number, Lacks-tag_short, Lacks-tag_other, FromFlags, FromLast, FromNumber, FromUuid}

-- bytes begin with the encoding of a value, or of none
abbrev Decided : {A : Type 0} → (A → List ℕ → List ℕ → Type 0) → List ℕ → Type 0
Decided {A} encodes x = ((v : A) × (y : List ℕ) × Reads encodes v x y) ⊎ Lacks encodes x

-- ---- integers
ones_below : (k b : ℕ) → ((n : ℕ) × (n < k) × HasTrailingOnes n b) ⊎ ((n : ℕ) → n < k → HasTrailingOnes n b → ⊥)
ones_below zero b = inr (λ n lt h. absurd (omega (arith, lt)))
ones_below (suc k) b = go (ones_below k b)
  where
    go : ((n : ℕ) × (n < k) × HasTrailingOnes n b) ⊎ ((n : ℕ) → n < k → HasTrailingOnes n b → ⊥) → ((n : ℕ) × (n < suc k) × HasTrailingOnes n b) ⊎ ((n : ℕ) → n < suc k → HasTrailingOnes n b → ⊥)
    go (inl p) = let lt = p.1 in inl (p.0, omega (arith, lt), p.2)
    go (inr p) = elim (eqb_tells (b % 2 ^ suc k) (2 ^ k - 1)) [
      | inl t ↦ inl (k, omega arith, record { ones = t.1 })
      | inr t ↦ inr (λ n lt h. elim (cases_lt n k) [
        | inl below ↦ p n below h
        | inr above ↦ let same : n ≡ k = omega (arith, lt, above) in t.1 ((subst (λ (m : ℕ). HasTrailingOnes m b) same h).ones)
      ])
    ]

begins_at : (x bytes rest : List ℕ) → x ≡ bytes ++ rest → 0 < length bytes → slice_index bytes 0 ≡ slice_index x 0
begins_at x bytes rest e some = sym (ap (λ (l : List ℕ). slice_index l 0) e ∙ get_or-append bytes rest 0 0 some)

no_integer : (x : List ℕ) → ((n : ℕ) → n < 8 → HasTrailingOnes n (slice_index x 0) → ⊥) → (slice_index x 0 ≡ 255 → ⊥) → Lacks IsInteger x
no_integer x none other = λ w r t. of w t.bytes r t.joined t.is
  where
    of : (w : ℕ) (bytes rest : List ℕ) → x ≡ bytes ++ rest → IsVarlenUint w bytes → ⊥
    of w bytes rest e (short {n = n} small h f) =
        let size = f.size in
        none n (omega (arith, small)) (subst (λ (b : ℕ). HasTrailingOnes n b) (begins_at x bytes rest e (omega (arith, size))) h)
    of w bytes rest e (long h) = other (ap (λ (l : List ℕ). slice_index l 0) e)

integer_decided : (x : List ℕ) → Decided IsInteger x
integer_decided x = elim (cases_lt (length x) 1) [
  | inl few ↦ inr (none_lacks x few)
  | inr some ↦ elim (ones_below 8 (slice_index x 0)) [
    | inl p ↦ elim (cases_lt (length x) (suc p.0)) [
      | inl few ↦ inr (let lt = p.1 in short_lacks p.0 (omega (arith, lt)) x p.2 few)
      | inr enough ↦ inl (little_number (suc p.0) x / 2 ^ suc p.0, drop (suc p.0) x, (let lt = p.1 in short_reads p.0 (omega (arith, lt)) x p.2 (little_number (suc p.0) x / 2 ^ suc p.0) (drop (suc p.0) x) enough refl refl))
    ]
    | inr none ↦ elim (eqb_tells (slice_index x 0) 255) [
      | inl t ↦ elim (cases_lt (length (drop 1 x)) 8) [
        | inl few ↦ inr (long_lacks x (drop 1 x) t.1 refl few)
        | inr enough ↦ inl (little_number 8 (drop 1 x), drop 8 (drop 1 x), long_reads (little_number 8 (drop 1 x)) x (drop 1 x) (drop 8 (drop 1 x)) (omega (arith, some)) t.1 refl enough refl refl)
      ]
      | inr t ↦ inr (no_integer x none t.1)
    ]
  ]
]

-- ---- fields
both_decided : {A B : Type 0} (first : A → List ℕ → List ℕ → Type 0) (second : B → List ℕ → List ℕ → Type 0) → ((x : List ℕ) → Decided first x) → ((x : List ℕ) → Decided second x) → (x : List ℕ) → Decided (Both first second) x
both_decided first second d e x = elim (d x) [
  | inl p ↦ elim (e p.1) [ inl q ↦ inl ((p.0, q.0), q.1, Reads-both first second p.0 q.0 x p.1 q.1 p.2 q.2) | inr l ↦ inr (Lacks-both first second p.0 x p.1 p.2 l) ]
  | inr l ↦ inr (Lacks-both_first first second x l)
]

field_decided : {A : Type 0} (n : ℕ) (content : A → List ℕ → List ℕ → Type 0) → ((x : List ℕ) → Decided content x) → (x : List ℕ) → Decided (IsField n content) x
field_decided n content d x = elim (integer_decided x) [
  | inl p ↦ elim (eqb_tells p.0 n) [
    | inl t ↦ elim (d p.1) [ inl q ↦ inl (q.0, q.1, Reads-field n content p.0 q.0 x p.1 q.1 t.1 p.2 q.2) | inr l ↦ inr (Lacks-field_content n content p.0 x p.1 t.1 p.2 l) ]
    | inr t ↦ inr (Lacks-field_other n content p.0 x p.1 p.2 t.1)
  ]
  | inr l ↦ inr (Lacks-field_number n content x l)
]

byte_decided : (x : List ℕ) → Decided IsByte x
byte_decided x = elim (integer_decided x) [
  | inl p ↦ elim (cases_lt p.0 256) [ inl lt ↦ inl (p.0, p.1, Reads-byte p.0 x p.1 lt p.2) | inr ge ↦ inr (Lacks-byte_large p.0 x p.1 p.2 (omega (arith, ge))) ]
  | inr l ↦ inr (Lacks-byte x l)
]

bytes_decided : (n : ℕ) (x : List ℕ) → Decided (IsSequence n IsByte) x
bytes_decided zero x = inl ([], x, Sequence-none IsByte x)
bytes_decided (suc n) x = elim (bytes_decided n x) [
  | inl p ↦ elim (byte_decided p.1) [ inl q ↦ inl (p.0 ++ q.0 ∷ [], q.1, Sequence-more IsByte n p.0 q.0 x p.1 q.1 p.2 q.2) | inr l ↦ inr (Sequence-lacks IsByte n p.0 x p.1 p.2 l) ]
  | inr l ↦ inr (Sequence-lacks_more IsByte n 1 (suc n) x (omega arith) l)
]

number_decided : (x : List ℕ) → Decided IsNumberField x
number_decided x = elim (field_decided 2 IsInteger integer_decided x) [
  | inl p ↦ elim (eqb_tells (p.0 % 2) 0) [ inl t ↦ inl (p.0 / 2, p.1, (let even = t.1 in Reads-number p.0 (p.0 / 2) x p.1 (omega (arith, even)) p.2)) | inr t ↦ inr (Lacks-number_odd p.0 x p.1 p.2 t.1) ]
  | inr l ↦ inr (Lacks-number x l)
]

tag_decided : (x : List ℕ) → Decided IsTagField x
tag_decided x = elim (field_decided 3 IsInteger integer_decided x) [
  | inl p ↦ elim (cases_lt (length p.1) p.0) [ inl few ↦ inr (Lacks-tag_short p.0 x p.1 p.2 few) | inr enough ↦ tag_at p.0 x p.1 p.2 enough (list_all is_of_tag (take p.0 p.1)) refl ]
  | inr l ↦ inr (Lacks-tag_number x l)
]
  where
    tag_at : (len : ℕ) (z m : List ℕ) → Reads (IsField 3 IsInteger) len z m → len ≤ length m → (b : Bool) → list_all is_of_tag (take len m) ≡ b → Decided IsTagField z
    tag_at len z m p enough true e = inl (take len m, drop len m, Reads-tag len (take len m) z m (drop len m) p enough refl refl e)
    tag_at len z m p enough false e = inr (Lacks-tag_other len (take len m) z m p refl (λ h. false≢true (sym e ∙ h)))

body_decided : (x : List ℕ) → Decided IsBody x
body_decided x =
    both_decided (IsField 1 IsInteger) FromLast (field_decided 1 IsInteger integer_decided) (both_decided IsInteger FromFlags integer_decided (both_decided (IsField 0 IsInteger) FromUuid (field_decided 0 IsInteger integer_decided)
    (both_decided IsUuidField FromNumber (field_decided 1 (IsSequence 16 IsByte) (bytes_decided 16)) (both_decided IsNumberField IsTagField number_decided tag_decided)))) x

-- the GTID in a body, if it has one
pub tagged_known : (body : List ℕ) → (g : Option TaggedGtid) × IsTaggedGtid body g
tagged_known body = elim (body_decided body) [ inl p ↦ (Some (gtid_in p.0), (p.1, record { fields = p.0; read = p.2; gtid = refl })) | inr l ↦ (None, l) ]
