-- Fields that are read are what the bytes encode, and the other way round.
use Rattle.std.proofs.Common.{◌≡◌, ℕ, ◌≤◌, Bool, true, false, cond, List, ◌++◌, length, take, drop, Ok, Err, refl, sym, ap, ◌∙◌, arith, leb, append_assoc}
use Rattle.std.proofs.lemmas.Bool.{le-leb, leb-true}
use Rattle.std.proofs.lemmas.List.{length-append, length-take-le, take-append-drop}
use Rattle.std.proofs.Math.Seq.{take-append_seam, drop-append_seam}
use Rattle.byteorder.specs.Endian.{little_number}
use Rattle.wire_buf.specs.Numbers.{IsLittle}
use Rattle.rows_errors.specs.declared.fault.RowsError.{RowsError}
use Rattle.rows_errors.specs.declared.fault.RowsError.TheVariants.{EndOfBody}
use Rattle.rows_errors.specs.Readings.{Reading, ◌>>=◌}
use Rattle.rows_cells.specs.CellFields.{at_width, counted_at}

-- a successful step of a reading
pub bind-ok : {A B : Type 0} (o : Reading A) (f : A → Reading B) (y : B) → (o >>= f) ≡ Ok y → (x : A) × (o ≡ Ok x) × (f x ≡ Ok y)
bind-ok (Err e) f y h = absurd cc
bind-ok (Ok x) f y h = (x, refl, h)

-- the components of the pair that was found
pub ok_pair : {A B : Type 0} (a : A) (b : B) (x : A × B) → (let found : Reading (A × B) = Ok (a, b) in found ≡ Ok x) → (a ≡ x.0) × (b ≡ x.1)
ok_pair a b x h = let e : (a, b) ≡ x = cc in (ap (λ p. p.0) e, ap (λ p. p.1) e)

-- a test that passed
if_ok : {A : Type 0} (t : Bool) (o : Reading A) (e : RowsError) (x : A) → cond t o (Err e) ≡ Ok x → (t ≡ true) × (o ≡ Ok x)
if_ok true o e x h = (refl, h)
if_ok false o e x h = absurd cc

pub at_width-is : (n : ℕ) (s : List ℕ) (x : List ℕ × List ℕ) → at_width n s ≡ Ok x → (s ≡ x.0 ++ x.1) × (length x.0 ≡ n)
at_width-is n s x h =
    let t = if_ok (leb n (length s)) (Ok (take n s, drop n s)) EndOfBody x h in
    let p = ok_pair (take n s) (drop n s) x t.1 in
    (sym (take-append-drop n s) ∙ ap (λ (a : List ℕ). a ++ drop n s) p.0 ∙ ap (λ (b : List ℕ). x.0 ++ b) p.1, ap length (sym p.0) ∙ length-take-le n s (leb-true n (length s) t.0))

pub at_width-here : (n : ℕ) (a r : List ℕ) → length a ≡ n → at_width n (a ++ r) ≡ Ok (a, r)
at_width-here n a r e =
    let long : length a ≤ length (a ++ r) = omega (arith, length-append a r) in
    ap (λ (k : ℕ). at_width k (a ++ r)) (sym e) ∙ rw (le-leb (length a) (length (a ++ r)) long, take-append_seam, drop-append_seam) refl

pub counted_at-is : (w : ℕ) (s : List ℕ) (x : List ℕ × List ℕ) → counted_at w s ≡ Ok x → (size : List ℕ) × (s ≡ (size ++ x.0) ++ x.1) × IsLittle w (length x.0) size
counted_at-is w s x h =
    let a = bind-ok _ _ _ h in
    let n = at_width-is w s a.0 a.1 in
    let f = at_width-is (little_number w a.0.0) a.0.1 x a.2 in
    (a.0.0, n.0 ∙ ap (λ (r : List ℕ). a.0.0 ++ r) f.0 ∙ sym (append_assoc a.0.0 x.0 x.1), record { size = n.1; value_is = f.1 })

pub counted_at-here : (w : ℕ) (size content r : List ℕ) → IsLittle w (length content) size → counted_at w ((size ++ content) ++ r) ≡ Ok (content, r)
counted_at-here w size content r h =
    let value : length content ≡ little_number w size = h.value_is in
    rw (append_assoc size content r, at_width-here w size (content ++ r) h.size) (at_width-here (little_number w size) content r value)
