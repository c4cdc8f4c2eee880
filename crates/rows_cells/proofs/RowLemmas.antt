-- Images and rows that are read are what the bytes encode, and the other way round.
use Rattle.std.proofs.Common.{◌≡◌, ◌<◌, ℕ, suc, ◌+◌, ◌/◌, ◌%◌, Bool, true, false, eqb, List, [], ◌∷◌, ◌++◌, length, Option, Some, None, Ok, Err, refl, sym, ap, subst, ◌∙◌, append_assoc, inl, inr, ◌⊎◌, arith}
use Rattle.std.proofs.lemmas.Bool.{lt-ltb}
use Rattle.std.proofs.lemmas.Bool.Decides.{eqb_tells, leb_tells}
use Rattle.std.proofs.lemmas.List.{length-append, append-nil}
use Rattle.wire_buf.specs.Encoding.{Begins, Alone}
use Rattle.wire_buf.specs.Numbers.{IsLenenc}
use Rattle.wire_buf.specs.LenencSplit.{split_lenenc}
use Rattle.wire_buf.proofs.LenencLemmas.{split_lenenc-complete, split_lenenc-sound}
use Rattle.rows_errors.specs.Readings.{Reading}
use Rattle.rows_cells.specs.declared.image.ImageColumn.{ImageColumn}
use Rattle.rows_cells.specs.CellFields.{at_width}
use Rattle.rows_cells.specs.Images.{bit, format_in, IsField, field_at, ColumnValue, ImageShape, IsShared, nothing, whole, partial, AreCells, IsImage, cells_at, lenenc_error, lenenc_of, lenenc_at, bits_at, shared_at, image_at}
use Rattle.rows_cells.specs.EventRows.{AreImages, IsEventRow, images_at, takes_some, row_at}
use Rattle.rows_cells.proofs.FieldLemmas.{bind-ok, ok_pair, at_width-is, at_width-here}
use Rattle.rows_cells.proofs.CellLemmas.{cell-is, cell-here}
use Rattle.rows_cells.specs.declared.format.CellFormat.{CellFormat}
use Rattle.rows_cells.specs.CellValues.{CellValue, null}

field-is : (b : Bool) (format : CellFormat) (s : List ℕ) (x : CellValue × List ℕ) → field_at b format s ≡ Ok x → (bytes : List ℕ) × (s ≡ bytes ++ x.1) × IsField b format x.0 bytes
field-is true format s x h = let p = ok_pair null s x h in ([], p.1, (sym p.0, refl))
field-is false format s x h = cell-is format s x.0 x.1 h

field-here : (b : Bool) (format : CellFormat) (v : CellValue) (bytes r : List ℕ) → IsField b format v bytes → field_at b format (bytes ++ r) ≡ Ok (v, r)
field-here true format v bytes r h = rw (h.0, h.1) refl
field-here false format v bytes r h = cell-here format v bytes r h

cells-is : (bits nulls : List ℕ) (k : ℕ) (cs : List ImageColumn) (s : List ℕ) (x : List ColumnValue × List ℕ) → cells_at bits nulls k cs s ≡ Ok x → (bytes : List ℕ) × (s ≡ bytes ++ x.1) × AreCells bits nulls k cs x.0 bytes
unfolding cells_at
cells-is bits nulls k [] s x h = let p = ok_pair [] s x h in ([], p.1, subst (λ (vs : List ColumnValue). AreCells bits nulls k [] vs []) p.0 refl)
cells-is bits nulls k (c ∷ cs) s x h =
    let a = bind-ok _ _ _ h in
    let b = bind-ok _ _ _ a.2 in
    let p = ok_pair _ _ x b.2 in
    let first = field-is (bit nulls k) (format_in bits c) s a.0 a.1 in
    let more = cells-is bits nulls (k + 1) cs a.0.1 b.0 b.1 in (
      first.0 ++ more.0,
      first.1 ∙ ap (λ (r : List ℕ). first.0 ++ r) (more.1 ∙ ap (λ (r : List ℕ). more.0 ++ r) p.1) ∙ sym (append_assoc first.0 more.0 x.1),
      subst (λ (vs : List ColumnValue). AreCells bits nulls k (c ∷ cs) vs (first.0 ++ more.0)) p.0 (first.0, more.0, refl, refl, first.2, more.2),
    )

cells-here : (bits nulls : List ℕ) (k : ℕ) (cs : List ImageColumn) (vs : List ColumnValue) (bytes r : List ℕ) → AreCells bits nulls k cs vs bytes → cells_at bits nulls k cs (bytes ++ r) ≡ Ok (vs, r)
unfolding cells_at
cells-here bits nulls k [] [] bytes r h = rw h refl
cells-here bits nulls k [] (v ∷ vs) bytes r h = absurd h
cells-here bits nulls k (c ∷ cs) [] bytes r h = absurd h
cells-here bits nulls k (c ∷ cs) (v ∷ vs) bytes r h =
    rw (h.2, append_assoc h.0 h.1 r, field-here (bit nulls k) (format_in bits c) v.value h.0 (h.1 ++ r) h.4, cells-here bits nulls (k + 1) cs vs h.1 r h.5) (ap (λ (n : ℕ). Ok (record { column = n; value = v.value } ∷ vs, r)) (sym h.3))

-- ---- the part before the null bits

lenenc-here : (v : ℕ) (bytes r : List ℕ) → IsLenenc v bytes → lenenc_at (bytes ++ r) ≡ Ok (v, r)
unfolding lenenc_at
lenenc-here v bytes r h = rw (split_lenenc-complete v bytes r h) refl

pub lenenc-read : (x : List ℕ) (v : ℕ) (r : List ℕ) → Begins (Alone IsLenenc v) x r → lenenc_at x ≡ Ok (v, r)
lenenc-read x v r b = rw b.joined (lenenc-here v b.bytes r b.is)

of_prefix : (x : List ℕ) (o : Option (ℕ × List ℕ)) (v : ℕ × List ℕ) → lenenc_of x o ≡ Ok v → o ≡ Some v
of_prefix x None v h = absurd cc
of_prefix x (Some w) v h = let e : w ≡ v = cc in ap Some e

lenenc-is : (x : List ℕ) (v : ℕ × List ℕ) → lenenc_at x ≡ Ok v → Begins (Alone IsLenenc v.0) x v.1
unfolding lenenc_at
lenenc-is x v h = split_lenenc-sound v.0 x v.1 (of_prefix x (split_lenenc x) v h)

pub lenenc-failed : (x : List ℕ) → ((v : ℕ) (r : List ℕ) → Begins (Alone IsLenenc v) x r → ⊥) → lenenc_at x ≡ Err (lenenc_error x)
unfolding lenenc_at
lenenc-failed x lacks = none (split_lenenc x) refl
  where
    none : (o : Option (ℕ × List ℕ)) → o ≡ split_lenenc x → lenenc_of x o ≡ Err (lenenc_error x)
    none None e = refl
    none (Some v) e = absurd (lacks v.0 v.1 (split_lenenc-sound v.0 x v.1 (sym e)))

shared-here : (j : Option ℕ) (bits shared r : List ℕ) → IsShared j bits shared → shared_at j (shared ++ r) ≡ Ok (bits, r)
shared-here _ _ _ r nothing = refl
shared-here _ _ _ r (whole {options = o} {bytes = b} n even) = rw (lenenc-here o b r n, even) refl
shared-here _ _ _ r (partial {j = j} {options = o} {bytes = b} {bits = bits} n odd size) =
    rw (append_assoc b bits r, lenenc-here o b (bits ++ r) n, odd) (at_width-here ((j + 7) / 8) bits r size)

even_or_odd : (n : ℕ) → ((eqb (n % 2) 1 ≡ true) × (n % 2 ≡ 1)) ⊎ ((eqb (n % 2) 1 ≡ false) × (n % 2 ≡ 0))
even_or_odd n = elim (eqb_tells (n % 2) 1) [
  | inl t ↦ inl (t.0, t.1)
  | inr t ↦ inr (t.0, omega (arith, t.1))
]

bits-is : (j o : ℕ) (number x : List ℕ) (v : List ℕ × List ℕ) → IsLenenc o number → bits_at j (o, x) ≡ Ok v → (more : List ℕ) × (x ≡ more ++ v.1) × IsShared (Some j) v.0 (number ++ more)
bits-is j o number x v n h = elim (even_or_odd o) [
  | inl t ↦
      let found : at_width ((j + 7) / 8) x ≡ Ok v = rw t.0 at h in
      let f = at_width-is ((j + 7) / 8) x v found in
      (v.0, f.0, partial n t.1 f.1)
  | inr t ↦
      let found : (let there : Reading (List ℕ × List ℕ) = Ok ([], x) in there ≡ Ok v) = rw t.0 at h in
      let p = ok_pair [] x v found in
      ([], p.1, rw (← p.0) (subst (λ (b : List ℕ). IsShared (Some j) [] b) (sym (append-nil number)) (whole n t.1)))
]

shared-is : (j : Option ℕ) (s : List ℕ) (x : List ℕ × List ℕ) → shared_at j s ≡ Ok x → (shared : List ℕ) × (s ≡ shared ++ x.1) × IsShared j x.0 shared
shared-is None s x h = let p = ok_pair [] s x h in ([], p.1, subst (λ (b : List ℕ). IsShared None b []) p.0 nothing)
shared-is (Some j) s x h =
    let a = bind-ok _ _ _ h in
    let n = lenenc-is s a.0 a.1 in
    let b = bits-is j a.0.0 n.bytes a.0.1 x n.is a.2 in
    (n.bytes ++ b.0, n.joined ∙ ap (λ (t : List ℕ). n.bytes ++ t) b.1 ∙ sym (append_assoc n.bytes b.0 x.1), b.2)

-- ---- images

pub image-is : (shape : ImageShape) (s : List ℕ) (x : List ColumnValue × List ℕ) → image_at shape s ≡ Ok x → (bytes : List ℕ) × (s ≡ bytes ++ x.1) × IsImage shape x.0 bytes
unfolding image_at
image-is shape s x h =
    let a = bind-ok _ _ _ h in
    let b = bind-ok _ _ _ a.2 in
    let m = shared-is shape.json_columns s a.0 a.1 in
    let n = at_width-is ((length shape.columns + 7) / 8) a.0.1 b.0 b.1 in
    let c = cells-is a.0.0 b.0.0 0 shape.columns b.0.1 x b.2 in
    let nulls_and_cells : a.0.1 ≡ (b.0.0 ++ c.0) ++ x.1 = n.0 ∙ ap (λ (t : List ℕ). b.0.0 ++ t) c.1 ∙ sym (append_assoc b.0.0 c.0 x.1) in (
      m.0 ++ (b.0.0 ++ c.0),
      m.1 ∙ ap (λ (t : List ℕ). m.0 ++ t) nulls_and_cells ∙ sym (append_assoc m.0 (b.0.0 ++ c.0) x.1),
      record { bits = a.0.0; shared = m.0; nulls = b.0.0; cells = c.0; parts = refl; shared_is = m.2; nulls_are = n.1; cells_are = c.2 },
    )

pub image-here : (shape : ImageShape) (row : List ColumnValue) (bytes r : List ℕ) → IsImage shape row bytes → image_at shape (bytes ++ r) ≡ Ok (row, r)
unfolding image_at
image-here shape row bytes r h =
    rw (
      h.parts,
      append_assoc h.shared (h.nulls ++ h.cells) r,
      shared-here shape.json_columns h.bits h.shared ((h.nulls ++ h.cells) ++ r) h.shared_is,
      append_assoc h.nulls h.cells r,
      at_width-here ((length shape.columns + 7) / 8) h.nulls (h.cells ++ r) h.nulls_are,
    ) (cells-here h.bits h.nulls 0 shape.columns row h.cells r h.cells_are)

-- no encoding of an image is a proper prefix of another
pub one_image : (shape : ImageShape) (v w : List ColumnValue) (a b x y : List ℕ) → IsImage shape v a → IsImage shape w b → a ++ x ≡ b ++ y → (v ≡ w) × (x ≡ y)
one_image shape v w a b x y h i e = ok_pair v x (w, y) (sym (image-here shape v a x h) ∙ ap (image_at shape) e ∙ image-here shape w b y i)

-- ---- rows

abbrev pub Row : Type 0
Row = List (List ColumnValue)

images-is : (shapes : List ImageShape) (s : List ℕ) (x : Row × List ℕ) → images_at shapes s ≡ Ok x → (bytes : List ℕ) × (s ≡ bytes ++ x.1) × AreImages shapes x.0 bytes
unfolding images_at
images-is [] s x h = let p = ok_pair [] s x h in ([], p.1, subst (λ (r : Row). AreImages [] r []) p.0 refl)
images-is (shape ∷ shapes) s x h =
    let a = bind-ok _ _ _ h in
    let b = bind-ok _ _ _ a.2 in
    let p = ok_pair _ _ x b.2 in
    let first = image-is shape s a.0 a.1 in
    let more = images-is shapes a.0.1 b.0 b.1 in (
      first.0 ++ more.0,
      first.1 ∙ ap (λ (r : List ℕ). first.0 ++ r) (more.1 ∙ ap (λ (r : List ℕ). more.0 ++ r) p.1) ∙ sym (append_assoc first.0 more.0 x.1),
      subst (λ (row : Row). AreImages (shape ∷ shapes) row (first.0 ++ more.0)) p.0 (first.0, more.0, refl, first.2, more.2),
    )

images-here : (shapes : List ImageShape) (row : Row) (bytes r : List ℕ) → AreImages shapes row bytes → images_at shapes (bytes ++ r) ≡ Ok (row, r)
unfolding images_at
images-here [] [] bytes r h = rw h refl
images-here [] (image ∷ images) bytes r h = absurd h
images-here (shape ∷ shapes) [] bytes r h = absurd h
images-here (shape ∷ shapes) (image ∷ images) bytes r h =
    rw (h.2, append_assoc h.0 h.1 r, image-here shape image h.0 (h.1 ++ r) h.3, images-here shapes images h.1 r h.4) refl

taken-is : {A : Type 0} (n : ℕ) (v : A × List ℕ) (x : A × List ℕ) → takes_some n v ≡ Ok x → (v ≡ x) × (length v.1 < n)
taken-is n v x h = elim (leb_tells (suc (length v.1)) n) [
  | inl t ↦ let e = rw t.0 at h in (cc, t.1)
  | inr t ↦ let e = rw t.0 at h in absurd cc
]

pub row-is : (shapes : List ImageShape) (s : List ℕ) (row : Row) (r : List ℕ) → row_at shapes s ≡ Ok (row, r) → Begins (Alone (IsEventRow shapes) row) s r
unfolding row_at
row-is shapes s row r h =
    let a = bind-ok _ _ _ h in
    let t = taken-is (length s) a.0 (row, r) a.2 in
    let i = images-is shapes s (row, r) (a.1 ∙ ap (λ (x : Row × List ℕ). Ok x) t.0) in
    let rest : length a.0.1 ≡ length r = ap (λ (x : Row × List ℕ). length x.1) t.0 in
    record { bytes = i.0; joined = i.1; is = record { images_are = i.2; some = omega (arith, t.1, rest, ap length i.1, length-append i.0 r) } }

pub row-here : (shapes : List ImageShape) (row : Row) (bytes rest r : List ℕ) → IsEventRow shapes row bytes → row_at shapes (bytes ++ r) ≡ Ok (row, r)
unfolding row_at
row-here shapes row bytes rest r h =
    let less : length r < length (bytes ++ r) = omega (arith, h.some, length-append bytes r) in
    rw (images-here shapes row bytes r h.images_are, lt-ltb (length r) (length (bytes ++ r)) less) refl

pub row-shrinks : (shapes : List ImageShape) (s : List ℕ) (row : Row) (r : List ℕ) → row_at shapes s ≡ Ok (row, r) → length r < length s
row-shrinks shapes s row r h = let b = row-is shapes s row r h in omega (arith, b.is.some, ap length b.joined, length-append b.bytes r)
