-- Bodies of GTID events: those that are taken are those in the format. The bytes after the number are never a fault.
use Rattle.std.proofs.Common.{◌≡◌, ◌⊎◌, inl, inr, ℕ, Bool, true, false, List, [], ◌++◌, Option, Some, None, refl, sym, ap, ◌∙◌, append_assoc}
use Rattle.std.specs.Prelude.{is_some}
use Rattle.std.proofs.lemmas.Bool.Decides.{leb_tells, eqb_tells}
use Rattle.wire_buf.specs.LenencSplit.{split_number, split_lenenc}
use Rattle.wire_buf.specs.Numbers.{IsLenenc}
use Rattle.wire_buf.specs.Encoding.{Begins, Reads, Lacks, Alone}
use Rattle.rows_table_map.specs.TableMaps.{little_endian}
use Rattle.events_bodies.specs.Gtids.{GtidBody, IsClock, IsGtid}
use Rattle.events_bodies.specs.OptionalFields.{ReadsOptional}
use Rattle.events_bodies.specs.Stamps.{IsStamp, top_bit}
use Rattle.events_bodies.proofs.ClockLemmas.{clock_reads, numbers_lack, other_typecode}
use Rattle.events_bodies.proofs.GtidLemmas.{IsHead, Fields, FieldsRow, FieldsSettled, fields_read, gtid_reads, whole}
use Rattle.events_bodies.proofs.OptionalLemmas.{Tail}
use Rattle.events_bodies.proofs.AnnouncedPairLemmas.{alone_reads, twice_reads, first_lacks, second_lacks}
use Rattle.feed_checks.specs.BodyReaders.{gtid_in}
use Rattle.feed_checks.specs.Readers.{Reader, IsReaderOf}
use Rattle.feed_checks.proofs.BodyKindLemmas.{IsGtidHead, gtid_here, gtid_none, whole_read}
use Rattle.feed_checks.proofs.ReaderLemmas.{number_reader, lenenc_reader, text_reader, both_reader, some_is}

-- the flags, the UUID and the number precede the optional fields
prefix_here : (g : GtidBody) (body : List ℕ) (h : IsGtid g body []) → IsGtidHead (g.flags, (g.sid, (g.gno, h.0.suffix))) body []
prefix_here g body h =
    let i = h.0.first_is in
    let j = i.second_is in
    record {
      prefix = i.prefix;
      suffix = i.suffix ++ h.0.suffix;
      joined = h.0.joined ∙ ap (λ (l : List ℕ). l ++ h.0.suffix) i.joined ∙ append_assoc i.prefix i.suffix h.0.suffix;
      first_is = i.first_is;
      second_is = record {
        prefix = j.prefix;
        suffix = j.suffix ++ h.0.suffix;
        joined = ap (λ (l : List ℕ). l ++ h.0.suffix) j.joined ∙ append_assoc j.prefix j.suffix h.0.suffix;
        first_is = j.first_is;
        second_is = record { prefix = j.suffix; suffix = h.0.suffix; joined = refl; first_is = j.second_is; second_is = record { bytes_are = refl; ends = refl } };
      };
    }

pub gtid_found : (g : GtidBody) (body : List ℕ) → IsGtid g body [] → gtid_in body ≡ Some (g.sid, g.gno)
gtid_found g body h = gtid_here (g.flags, (g.sid, (g.gno, h.0.suffix))) body (prefix_here g body h)

-- the bytes begin with a value, or with none
abbrev Decided : {A : Type 0} → (A → List ℕ → List ℕ → Type 0) → List ℕ → Type 0
Decided {A} format x = ((v : A) × (r : List ℕ) × Reads format v x r) ⊎ Lacks format x

decided : {A : Type 0} (format : A → List ℕ → List ℕ → Type 0) (read : Reader A) → IsReaderOf format read → (x : List ℕ) → Decided format x
decided {A = A} format read is x = by (read x) refl
  where
    by : (o : Option (A × List ℕ)) → read x ≡ o → Decided format x
    by None e = inr (λ v rest t. absurd (cc (sym e ∙ ap read t.joined ∙ is.here v t.bytes rest t.is)))
    by (Some (v, r)) e = inl (
      v,
      r,
      record {
        begins = is.found v x r e;
        only = λ w rest t.
            let q : ◌≡◌ {A = A × List ℕ} (v, r) (w, rest) = some_is (v, r) (w, rest) (sym e ∙ ap read t.joined ∙ is.here w t.bytes rest t.is) in
            (ap (λ (p : A × List ℕ). p.1) (sym q), ap (λ (p : A × List ℕ). p.0) q);
      },
    )

number_decided : (n : ℕ) (x : List ℕ) → Decided (little_endian n) x
number_decided n = decided (little_endian n) (split_number n) (number_reader n)

-- ---- the optional fields

clock_decided : (x : List ℕ) → Decided IsClock x
clock_decided x = elim (decided _ _ (both_reader _ _ _ _ (number_reader 1) (both_reader _ _ _ _ (number_reader 8) (number_reader 8))) x) [
  | inl p ↦ elim (eqb_tells p.0.0 2) [
    | inl t ↦ inl (record { last_committed = p.0.1.0; sequence_number = p.0.1.1 }, p.1, clock_reads p.0.0 p.0.1.0 p.0.1.1 x p.1 t.1 p.2)
    | inr t ↦ inr (other_typecode p.0.0 p.0.1.0 p.0.1.1 x p.1 t.1 p.2)
  ]
  | inr lacks ↦ inr (numbers_lack x lacks)
]

stamp_decided : (n : ℕ) (x : List ℕ) → Decided (IsStamp n) x
stamp_decided n x = elim (number_decided n x) [
  | inl p ↦ elim (leb_tells (top_bit n) p.0) [
    | inl t ↦ elim (number_decided n p.1) [
      | inl q ↦ inl (_, q.1, twice_reads n p.0 q.0 x p.1 q.1 t.1 p.2 q.2)
      | inr lacks ↦ inr (second_lacks n p.0 x p.1 t.1 p.2 lacks)
    ]
    | inr t ↦ inl (_, p.1, alone_reads n p.0 x p.1 t.1 p.2)
  ]
  | inr lacks ↦ inr (first_lacks n x lacks)
]

-- a field is read if the one before it was present
next_there : {A : Type 0} (format : A → List ℕ → List ℕ → Type 0) (on : Bool) (x : List ℕ) → Decided format x → (o : Option A) × (y : List ℕ) × ReadsOptional format on o x y
next_there format false x d = (None, x, (refl, refl))
next_there format true x (inl p) = (Some p.0, p.1, p.2)
next_there format true x (inr lacks) = (None, x, (lacks, refl))

fields_there : (x : List ℕ) → (f : Fields) × Reads (Tail FieldsRow FieldsSettled) f x []
fields_there x =
    let c = next_there IsClock true x (clock_decided x) in
    let t = next_there (IsStamp 7) (is_some c.0) c.1 (stamp_decided 7 c.1) in
    let l = next_there (Alone IsLenenc) (is_some t.0) t.1 (decided (Alone IsLenenc) split_lenenc lenenc_reader t.1) in
    let v = next_there (IsStamp 4) (is_some l.0) l.1 (stamp_decided 4 l.1) in
    let k = next_there (little_endian 8) (is_some v.0) v.1 (number_decided 8 v.1) in (
      (c.0, (t.0, (l.0, (v.0, (k.0, k.1))))),
      fields_read c.0 t.0 l.0 v.0 k.0 (is_some c.0) (is_some t.0) (is_some l.0) (is_some v.0) k.1 x c.1 t.1 l.1 v.1 k.1 refl refl refl refl c.2 t.2 l.2 v.2 k.2 refl,
    )

-- ---- bodies

head_decided : (x : List ℕ) → Decided IsHead x
head_decided = decided IsHead _ (both_reader _ _ _ _ (number_reader 1) (both_reader _ _ _ _ (text_reader 16) (number_reader 8)))

-- what a body begins with
head_begins : (v : ℕ × (List ℕ × (ℕ × List ℕ))) (body : List ℕ) → IsGtidHead v body [] → Begins (IsHead (v.0, (v.1.0, v.1.1.0))) body v.1.1.1
head_begins v body h =
    let i = h.second_is in
    let j = i.second_is in
    let last = j.second_is.bytes_are in
    record {
      bytes = h.prefix ++ (i.prefix ++ j.prefix);
      joined =
          h.joined ∙ ap (λ (l : List ℕ). h.prefix ++ l) (i.joined ∙ ap (λ (l : List ℕ). i.prefix ++ l) (j.joined ∙ ap (λ (l : List ℕ). j.prefix ++ l) (sym last)) ∙ sym (append_assoc i.prefix j.prefix v.1.1.1))
          ∙ sym (append_assoc h.prefix (i.prefix ++ j.prefix) v.1.1.1);
      is = record {
        prefix = h.prefix;
        suffix = i.prefix ++ j.prefix;
        joined = refl;
        first_is = h.first_is;
        second_is = record { prefix = i.prefix; suffix = j.prefix; joined = refl; first_is = i.first_is; second_is = j.first_is };
      };
    }

pub gtid_there : (body : List ℕ) (x : List ℕ × ℕ) → gtid_in body ≡ Some x → (g : GtidBody) × IsGtid g body []
gtid_there body x e = elim (head_decided body) [
  | inl p ↦ let f = fields_there p.1 in (whole (p.0, f.0), whole_read IsGtid (whole (p.0, f.0)) body (gtid_reads p.0 f.0 body p.1 p.2 f.1))
  | inr lacks ↦ absurd (cc (sym e ∙ gtid_none body (λ v h. lacks (v.0, (v.1.0, v.1.1.0)) v.1.1.1 (head_begins v body h))))
]
