-- Entries that are read are what the bytes encode, and the other way round.
use Rattle.std.proofs.Common.{◌≡◌, ℕ, zero, suc, ◌≤◌, Bool, true, false, cond, List, [], ◌++◌, length, take, drop, Option, Some, None, Ok, Err, refl, sym, ap, ◌∙◌, arith, leb, length-append}
use Rattle.std.proofs.lemmas.Bool.{le-leb, leb-true}
use Rattle.std.proofs.lemmas.List.{length-take-le, take-append-drop}
use Rattle.std.proofs.Math.Seq.{take-append_seam, drop-append_seam}
use Rattle.wire_buf.specs.Encoding.{Begins, Reads, Lacks, Alone}
use Rattle.wire_buf.specs.Numbers.{IsLenenc, one, two, three, eight}
use Rattle.wire_buf.specs.LenencSplit.{split_lenenc}
use Rattle.wire_buf.proofs.LenencLemmas.{split_lenenc-complete, split_lenenc-sound}
use Rattle.wire_fields.specs.IntFaults.{lenenc_fault}
use Rattle.rows_errors.specs.ConvertedFaults.{rows_error}
use Rattle.rows_errors.specs.declared.fault.RowsError.{RowsError}
use Rattle.rows_errors.specs.declared.fault.RowsError.TheVariants.{EndOfBody}
use Rattle.rows_errors.specs.Readings.{Reading, ◌>>=◌}
use Rattle.rows_table_map.specs.Entries.{found, split_at, lenenc_at, string_at, pair_at}
use Rattle.rows_table_map.specs.MetadataFields.{tagged_at}
use Rattle.rows_table_map.specs.Members.{strings_in, members_at}
use Rattle.rows_table_map.specs.Lists.{TakesBytes}

-- a successful step of a reading
pub bind-ok : {A B : Type 0} (o : Reading A) (f : A → Reading B) (y : B) → (o >>= f) ≡ Ok y → (x : A) × (o ≡ Ok x) × (f x ≡ Ok y)
bind-ok (Err e) f y h = absurd cc
bind-ok (Ok x) f y h = (x, refl, h)

-- the components of the pair that was found
pub ok_pair : {A B : Type 0} (a : A) (b : B) (x : A × B) → (let found : Reading (A × B) = Ok (a, b) in found ≡ Ok x) → (a ≡ x.0) × (b ≡ x.1)
ok_pair a b x h = let e : (a, b) ≡ x = cc in (ap (λ p. p.0) e, ap (λ p. p.1) e)

-- a test that passed
if_ok : {A : Type 0} (t : Bool) (o : Reading A) (e : RowsError) (x : A) → cond t o (Err e) ≡ Ok x → (t ≡ true) × (o ≡ Ok x)
if_ok true o e x h = (refl, h)
if_ok false o e x h = absurd cc

pub split_at-is : (n : ℕ) (s : List ℕ) (x : List ℕ × List ℕ) → split_at n s ≡ Ok x → (s ≡ x.0 ++ x.1) × (length x.0 ≡ n)
split_at-is n s x h =
    let t = if_ok (leb n (length s)) (Ok (take n s, drop n s)) EndOfBody x h in
    let p = ok_pair (take n s) (drop n s) x t.1 in
    (sym (take-append-drop n s) ∙ ap (λ (a : List ℕ). a ++ drop n s) p.0 ∙ ap (λ (b : List ℕ). x.0 ++ b) p.1, ap length (sym p.0) ∙ length-take-le n s (leb-true n (length s) t.0))

pub split_at-here : (n : ℕ) (a r : List ℕ) → length a ≡ n → split_at n (a ++ r) ≡ Ok (a, r)
split_at-here n a r e =
    let long : length a ≤ length (a ++ r) = omega (arith, length-append a r) in
    ap (λ (k : ℕ). split_at k (a ++ r)) (sym e) ∙ rw (le-leb (length a) (length (a ++ r)) long, take-append_seam, drop-append_seam) refl

-- ---- numbers

pub number_found : (v : ℕ) (x r : List ℕ) → Reads (Alone IsLenenc) v x r → lenenc_at x ≡ Ok (v, r)
number_found v x r h = ap (found (rows_error (lenenc_fault x))) (ap split_lenenc h.begins.joined ∙ split_lenenc-complete v h.begins.bytes r h.begins.is)

none-split_at : (x : List ℕ) (o : Option (ℕ × List ℕ)) → Lacks (Alone IsLenenc) x → split_lenenc x ≡ o → o ≡ None
none-split_at x None h e = refl
none-split_at x (Some p) h e = absurd (h p.0 p.1 (split_lenenc-sound p.0 x p.1 e))

pub number_missing : (x : List ℕ) → Lacks (Alone IsLenenc) x → lenenc_at x ≡ Err (rows_error (lenenc_fault x))
number_missing x h = ap (found (rows_error (lenenc_fault x))) (none-split_at x (split_lenenc x) h refl)

found-is : (x : List ℕ) (e : RowsError) (o : Option (ℕ × List ℕ)) (y : ℕ × List ℕ) → split_lenenc x ≡ o → found e o ≡ Ok y → split_lenenc x ≡ Some (y.0, y.1)
found-is x e None y is h = absurd cc
found-is x e (Some p) y is h = let q = ok_pair p.0 p.1 y h in is ∙ rw (q.0, q.1) refl

pub number-is : (x : List ℕ) (y : ℕ × List ℕ) → lenenc_at x ≡ Ok y → Begins (Alone IsLenenc y.0) x y.1
number-is x y h = split_lenenc-sound y.0 x y.1 (found-is x (rows_error (lenenc_fault x)) (split_lenenc x) y refl h)

pub number-here : (v : ℕ) (x r : List ℕ) → Begins (Alone IsLenenc v) x r → lenenc_at x ≡ Ok (v, r)
number-here v x r h = ap (found (rows_error (lenenc_fault x))) (ap split_lenenc h.joined ∙ split_lenenc-complete v h.bytes r h.is)

-- a number takes at least one byte
lenenc_some : (v : ℕ) (bytes : List ℕ) → IsLenenc v bytes → 1 ≤ length bytes
lenenc_some v bytes (one h) = omega arith
lenenc_some v bytes (two h) = omega arith
lenenc_some v bytes (three h) = omega arith
lenenc_some v bytes (eight h) = omega arith

pub number-takes : TakesBytes lenenc_at
number-takes x y h =
    let b = number-is x y h in
    omega (arith, lenenc_some y.0 b.bytes b.is, ap length b.joined, length-append b.bytes y.1)

pub string-takes : TakesBytes string_at
string-takes x y h =
    let n = bind-ok (lenenc_at x) _ y h in
    let f = split_at-is n.0.0 n.0.1 y n.2 in
    omega (arith, number-takes x n.0 n.1, ap length f.0, length-append y.0 y.1)

pub pair-takes : TakesBytes pair_at
pair-takes x y h =
    let a = bind-ok (lenenc_at x) _ y h in
    let b = bind-ok (lenenc_at a.0.1) _ y a.2 in
    let p = ok_pair (a.0.0, b.0.0) b.0.1 y b.2 in
    omega (arith, number-takes x a.0 a.1, number-takes a.0.1 b.0 b.1, ap length p.1)

pub tagged-takes : TakesBytes tagged_at
tagged-takes x y h =
    let a = bind-ok (split_at 1 x) _ y h in
    let b = bind-ok (string_at a.0.1) _ y a.2 in
    let p = ok_pair _ b.0.1 y b.2 in
    let f = split_at-is 1 x a.0 a.1 in
    omega (arith, string-takes a.0.1 b.0 b.1, ap length f.0, length-append a.0.0 a.0.1, f.1, ap length p.1)

strings-take : (n : ℕ) (x : List ℕ) (y : List (List ℕ) × List ℕ) → strings_in n x ≡ Ok y → length y.1 ≤ length x
unfolding strings_in
strings-take zero x y h = let p = ok_pair [] x y h in omega (arith, ap length p.1)
strings-take (suc n) x y h =
    let a = bind-ok (string_at x) _ y h in
    let b = bind-ok (strings_in n a.0.1) _ y a.2 in
    let p = ok_pair _ b.0.1 y b.2 in
    omega (arith, string-takes x a.0 a.1, strings-take n a.0.1 b.0 b.1, ap length p.1)

pub members-takes : TakesBytes members_at
members-takes x y h =
    let a = bind-ok (lenenc_at x) _ y h in
    omega (arith, number-takes x a.0 a.1, strings-take a.0.0 a.0.1 y a.2)
