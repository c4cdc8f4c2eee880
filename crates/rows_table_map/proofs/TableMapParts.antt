-- A table map's fields in two groups: the second is read with the first as its context.
use Rattle.std.proofs.Common.{ℕ, List, length, ◌+◌, ◌/◌, ◌≡◌, ◌≤◌, refl, sym, ap, subst, ◌∙◌, inl, inr, true, arith, eq-eqb}
use Rattle.std.specs.Prelude.{nat_le, ◌&&◌, ◌==◌, Option}
use Rattle.std.proofs.lemmas.Bool.Decides.{eqb_tells, leb_tells}
use Rattle.wire_buf.specs.Encoding.{Alone, Both, IsBytes}
use Rattle.wire_buf.specs.Numbers.{IsLenencString}
use Rattle.wire_buf.specs.Writing.{WritesField, concat_some}
use Rattle.wire_fields.specs.ByteStrings.{IsAll}
use Rattle.rows_table_map.specs.TableMaps.{TableMap, plain_bytes, id_width}

abbrev pub Head : Type 0
Head = ℕ × (ℕ × (List ℕ × (Unit {0} × (List ℕ × (Unit {0} × ℕ)))))

abbrev pub Tail : Type 0
Tail = List ℕ × (List ℕ × (List ℕ × List ℕ))

abbrev pub head : TableMap → Head
head t = (t.table_id, (t.flags, (t.database, (tt, (t.table, (tt, length t.column_types))))))

abbrev pub tail : TableMap → Tail
tail t = (t.column_types, (t.metadata, (t.null_bitmask, t.optional_metadata)))

abbrev pub whole : Head → Tail → TableMap
whole (a, (b, (c, (u, (d, (v, n)))))) (e, (f, (g, h))) =
    record { table_id = a; flags = b; database = c; table = d; column_types = e; metadata = f; null_bitmask = g; optional_metadata = h }

abbrev pub second : Head → Tail → List ℕ → List ℕ → Type 0
second h = let n = h.1.1.1.1.1.1 in Both (plain_bytes n) (Both (Alone IsLenencString) (Both (plain_bytes ((n + 7) / 8)) IsAll))

pub width_other : (n : ℕ) → (n ≡ 6 → ⊥) → 6 ≡ id_width n
width_other n other = elim (eqb_tells n 6) [ inl t ↦ absurd (other t.1) | inr f ↦ rw f.0 refl ]

pub agree : (n m b : ℕ) → n ≤ 4294967295 → m ≡ b → (nat_le n 4294967295 && (m == b)) ≡ true
agree n m b h e = elim (leb_tells n 4294967295) [ inl t ↦ rw (t.0, eq-eqb m b e) refl | inr f ↦ absurd (omega (arith, f.1, h)) ]

-- bytes of a length have that length
pub bytes_length : {n : ℕ} {v bytes : List ℕ} → IsBytes n v bytes → length v ≡ n
bytes_length h = ap length h.bytes_are ∙ h.size

-- the same bytes if the encodings agree at this body
pub written_into : {A Q : Type 0} {encoded : A → Option (List ℕ)} {encoding : A → List ℕ → List ℕ → Type 0} {allows_rest : List ℕ → Type 0} {a : A} {old new : List ℕ}
    (print : Q → Option (List ℕ)) (body : Q → List ℕ → List ℕ → Type 0) (q : Q) → encoded a ≡ print q
    → ((bytes rest : List ℕ) → encoding a bytes rest → body q bytes rest) → ((bytes rest : List ℕ) → body q bytes rest → encoding a bytes rest)
    → WritesField encoded encoding allows_rest a old new → WritesField print body allows_rest q old new
written_into print body q e into from w = record {
  bytes = w.bytes;
  is = sym e ∙ w.is;
  appended = w.appended;
  encodes = λ rest s. into w.bytes rest (w.encodes rest s);
  least = λ other rest t are. w.least other rest (from other rest t) are;
}

-- an equal value
pub written_is : {A : Type 0} {encoded : A → Option (List ℕ)} {encoding : A → List ℕ → List ℕ → Type 0} {allows_rest : List ℕ → Type 0} {old new : List ℕ} (a b : A)
    → a ≡ b → WritesField encoded encoding allows_rest a old new → WritesField encoded encoding allows_rest b old new
written_is {encoded = encoded} {encoding = encoding} {allows_rest = allows_rest} {old = old} {new = new} a b e w = subst (λ y. WritesField encoded encoding allows_rest y old new) e w

-- two numbers first
pub encoding_is : (a b c d r s : Option (List ℕ)) → a ≡ c → b ≡ d → concat_some (concat_some a (concat_some b r)) s ≡ concat_some (concat_some c (concat_some d r)) s
encoding_is a b c d r s p q = rw (p, q) refl
