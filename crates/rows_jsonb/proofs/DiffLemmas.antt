-- JSON diffs that are read are what the bytes encode, and the other way round.
use Rattle.std.proofs.Common.{◌≡◌, ◌≤◌, ◌<◌, ◌++◌, ℕ, List, [], ◌∷◌, length, take, drop, Bool, true, false, cond, leb, append_assoc, Option, Some, None, refl, sym, ap, subst, ◌∙◌, arith, inl, inr, ◌⊎◌}
use Rattle.std.proofs.lemmas.Bool.{le-leb, leb-true}
use Rattle.std.proofs.lemmas.Bool.Decides.{eqb_tells}
use Rattle.std.proofs.lemmas.List.{length-append, length-take-le, take-append-drop}
use Rattle.std.proofs.Math.Seq.{take-append_seam, drop-append_seam}
use Rattle.std.specs.declared.result.Result.TheVariants.{Ok, Err}
use Rattle.wire_buf.specs.Encoding.{Begins, Reads, Lacks, Alone}
use Rattle.wire_buf.specs.Numbers.{IsLenenc, IsLenencString}
use Rattle.wire_buf.specs.LenencSplit.{split_lenenc}
use Rattle.wire_buf.proofs.LenencLemmas.{split_lenenc-complete, split_lenenc-sound}
use Rattle.rows_errors.specs.declared.fault.RowsError.{RowsError}
use Rattle.rows_jsonb.specs.JsonbValues.{JsonbValue, malformed}
use Rattle.rows_errors.specs.Readings.{Reading, ◌>>=◌}
use Rattle.rows_jsonb.specs.JsonDiffs.{IsJsonbFault, IsEmbedded, IsOperation, IsDiffValue, Diff, IsDiff, operation_at, text_of_length, text_at, embedded_at, diff_value_at, diff_at}
use Rattle.rows_jsonb.specs.Items.{WalkEndsAt, items_at}
use Rattle.rows_jsonb.proofs.ItemLemmas.{items-found}
use Rattle.rows_jsonb.proofs.SoundLemmas.{document_fault}
use Rattle.rows_jsonb.specs.declared.diff.JsonDiffOperation.{JsonDiffOperation}
use Rattle.rows_jsonb.specs.declared.diff.JsonDiffOperation.TheVariants.{REPLACE, INSERT, REMOVE}

-- a successful step of a reading
pub bind-ok : {A B : Type 0} (o : Reading A) (f : A → Reading B) (y : B) → (o >>= f) ≡ Ok y → (x : A) × (o ≡ Ok x) × (f x ≡ Ok y)
bind-ok (Err e) f y h = absurd cc
bind-ok (Ok x) f y h = (x, refl, h)

-- the components of the pair that was found
pub ok_pair : {A B : Type 0} (a : A) (b : B) (x : A × B) → (let found : Reading (A × B) = Ok (a, b) in found ≡ Ok x) → (a ≡ x.0) × (b ≡ x.1)
ok_pair a b x h = let e : (a, b) ≡ x = cc in (ap (λ p. p.0) e, ap (λ p. p.1) e)

-- ---- texts after their length

text-complete : (v bytes r : List ℕ) → IsLenencString v bytes → text_at (bytes ++ r) ≡ Ok (v, r)
unfolding text_at
text-complete v bytes r h =
    let long : length v ≤ length (v ++ r) = omega (arith, length-append v r) in
    rw (h.joined, append_assoc h.prefix v r, split_lenenc-complete (length v) h.prefix (v ++ r) h.prefix_is, le-leb (length v) (length (v ++ r)) long, take-append_seam, drop-append_seam) refl

of_length-sound : (x : List ℕ) (o : Option (ℕ × List ℕ)) (v r : List ℕ) → split_lenenc x ≡ o → text_of_length o ≡ Ok (v, r) → Begins (Alone IsLenencString v) x r
of_length-sound x None v r e h = absurd cc
of_length-sound x (Some n) v r e h = counted_string (leb n.0 (length n.1)) refl h
  where
    counted_string : (t : Bool) → t ≡ leb n.0 (length n.1) → cond {A = Reading (List ℕ × List ℕ)} t (Ok (take n.0 n.1, drop n.0 n.1)) (Err malformed) ≡ Ok (v, r) → Begins (Alone IsLenencString v) x r
    counted_string false f g = absurd cc
    counted_string true f g =
        let p = ok_pair (take n.0 n.1) (drop n.0 n.1) (v, r) g in
        let size : length v ≡ n.0 = ap length (sym p.0) ∙ length-take-le n.0 n.1 (leb-true n.0 (length n.1) (sym f)) in
        let number = split_lenenc-sound n.0 x n.1 e in
        let whole : n.1 ≡ v ++ r = rw (← p.0, ← p.1) (sym (take-append-drop n.0 n.1)) in
        record {
          bytes = number.bytes ++ v;
          joined = number.joined ∙ ap (λ (t : List ℕ). number.bytes ++ t) whole ∙ sym (append_assoc number.bytes v r);
          is = record { prefix = number.bytes; prefix_is = subst (λ (k : ℕ). IsLenenc k number.bytes) (sym size) number.is; joined = refl };
        }

text-sound : (x v r : List ℕ) → text_at x ≡ Ok (v, r) → Begins (Alone IsLenencString v) x r
unfolding text_at
text-sound x v r h = of_length-sound x (split_lenenc x) v r refl h

-- a text that is encoded is read
pub text_read : (x v r : List ℕ) → Begins (Alone IsLenencString v) x r → text_at x ≡ Ok (v, r)
text_read x v r b = rw b.joined (text-complete v b.bytes r b.is)

-- no text is encoded, so none is read
pub text_fails : (x : List ℕ) → Lacks (Alone IsLenencString) x → text_at x ≡ Err malformed
unfolding text_at
text_fails x lacks = none (split_lenenc x) refl
  where
    none : (o : Option (ℕ × List ℕ)) → o ≡ split_lenenc x → text_of_length o ≡ Err malformed
    none None e = refl
    none (Some n) e = some (leb n.0 (length n.1)) refl
      where
        some : (t : Bool) → t ≡ leb n.0 (length n.1) → cond {A = Reading (List ℕ × List ℕ)} t (Ok (take n.0 n.1, drop n.0 n.1)) (Err malformed) ≡ Err malformed
        some false f = refl
        some true f = absurd (lacks (take n.0 n.1) (drop n.0 n.1) (of_length-sound x (Some n) (take n.0 n.1) (drop n.0 n.1) (sym e) (rw (← f) refl)))

-- ---- a JSON diff

operation-complete : (op : JsonDiffOperation) (bytes rest r : List ℕ) → IsOperation op bytes rest → operation_at (bytes ++ r) ≡ Ok (op, r)
operation-complete REPLACE bytes rest r h = rw h refl
operation-complete INSERT bytes rest r h = rw h refl
operation-complete REMOVE bytes rest r h = rw h refl

operation-sound : (x : List ℕ) (op : JsonDiffOperation) (r : List ℕ) → operation_at x ≡ Ok (op, r) → Begins (IsOperation op) x r
operation-sound [] op r h = absurd cc
operation-sound (n ∷ x) op r h = elim (eqb_tells n 0) [
  | inl t ↦ let p = ok_pair REPLACE x (op, r) (rw t.0 at h) in record { bytes = n ∷ []; joined = ap (λ (s : List ℕ). n ∷ s) p.1; is = rw (← p.0, t.1) refl }
  | inr t ↦ let g = rw t.0 at h in elim (eqb_tells n 1) [
    | inl u ↦ let p = ok_pair INSERT x (op, r) (rw u.0 at g) in record { bytes = n ∷ []; joined = ap (λ (s : List ℕ). n ∷ s) p.1; is = rw (← p.0, u.1) refl }
    | inr u ↦ let k = rw u.0 at g in elim (eqb_tells n 2) [
      | inl w ↦ let p = ok_pair REMOVE x (op, r) (rw w.0 at k) in record { bytes = n ∷ []; joined = ap (λ (s : List ℕ). n ∷ s) p.1; is = rw (← p.0, w.1) refl }
      | inr w ↦ let m = rw w.0 at k in absurd cc
    ]
  ]
]

-- an encoded document, after its length, is read
embedded-complete : (s : JsonbValue) (bytes r : List ℕ) → IsEmbedded s bytes → embedded_at (bytes ++ r) ≡ Ok (Some s, r)
embedded-complete s bytes r h = rw (text-complete h.content bytes r h.content_is, h.value_is) refl

value-complete : (op : JsonDiffOperation) (o : Option JsonbValue) (bytes rest r : List ℕ) → IsDiffValue op o bytes rest → diff_value_at op (bytes ++ r) ≡ Ok (o, r)
value-complete REMOVE None bytes rest r h = rw h refl
value-complete REMOVE (Some s) bytes rest r h = absurd h
value-complete REPLACE None bytes rest r h = absurd h
value-complete REPLACE (Some s) bytes rest r h = embedded-complete s bytes r h
value-complete INSERT None bytes rest r h = absurd h
value-complete INSERT (Some s) bytes rest r h = embedded-complete s bytes r h

embedded-sound : (x : List ℕ) (o : Option JsonbValue) (r : List ℕ) → embedded_at x ≡ Ok (o, r)
    → (s : JsonbValue) × (bytes : List ℕ) × (o ≡ Some s) × (x ≡ bytes ++ r) × IsEmbedded s bytes
embedded-sound x o r h =
    let a = bind-ok _ _ _ h in
    let b = bind-ok _ _ _ a.2 in
    let p = ok_pair _ _ (o, r) b.2 in
    let t = text-sound x a.0.0 a.0.1 a.1 in
    (b.0, t.bytes, sym p.0, t.joined ∙ ap (λ (s : List ℕ). t.bytes ++ s) p.1, record { content = a.0.0; content_is = t.is; value_is = b.1 })

replaced : (s : JsonbValue) (o : Option JsonbValue) (bytes r : List ℕ) → o ≡ Some s → IsEmbedded s bytes → IsDiffValue REPLACE o bytes r
replaced s o bytes r e h = rw e h

inserted : (s : JsonbValue) (o : Option JsonbValue) (bytes r : List ℕ) → o ≡ Some s → IsEmbedded s bytes → IsDiffValue INSERT o bytes r
inserted s o bytes r e h = rw e h

value-sound : (op : JsonDiffOperation) (x : List ℕ) (o : Option JsonbValue) (r : List ℕ) → diff_value_at op x ≡ Ok (o, r) → Begins (IsDiffValue op o) x r
value-sound REMOVE x o r h = let p = ok_pair None x (o, r) h in record { bytes = []; joined = p.1; is = rw (← p.0) refl }
value-sound REPLACE x o r h = let e = embedded-sound x o r h in record { bytes = e.1; joined = e.3; is = replaced e.0 o e.1 r e.2 e.4 }
value-sound INSERT x o r h = let e = embedded-sound x o r h in record { bytes = e.1; joined = e.3; is = inserted e.0 o e.1 r e.2 e.4 }

pub diff-complete : (d : Diff) (bytes rest r : List ℕ) → IsDiff d bytes rest → diff_at (bytes ++ r) ≡ Ok (d, r)
unfolding diff_at
diff-complete d bytes rest r h =
    let tail = h.second_is in
    rw (
      h.joined,
      append_assoc h.prefix h.suffix r,
      operation-complete d.0 h.prefix (h.suffix ++ rest) (h.suffix ++ r) h.first_is,
      tail.joined,
      append_assoc tail.prefix tail.suffix r,
      text-complete d.1.0 tail.prefix (tail.suffix ++ r) tail.first_is,
      value-complete d.0 d.1.1 tail.suffix rest r tail.second_is,
    ) refl

same_diff : (d w : Diff) (x r s : List ℕ) → d ≡ w → r ≡ s → Begins (IsDiff d) x r → Begins (IsDiff w) x s
same_diff d w x r s e f b = rw (← e, ← f) b

pub diff-sound : (x : List ℕ) (d : Diff) (r : List ℕ) → diff_at x ≡ Ok (d, r) → Begins (IsDiff d) x r
unfolding diff_at
diff-sound x d r h =
    let a = bind-ok _ _ _ h in
    let b = bind-ok _ _ _ a.2 in
    let c = bind-ok _ _ _ b.2 in
    let p = ok_pair _ _ (d, r) c.2 in
    let op = operation-sound x a.0.0 a.0.1 a.1 in
    let path = text-sound a.0.1 b.0.0 b.0.1 b.1 in
    let value = value-sound a.0.0 b.0.1 c.0.0 c.0.1 c.1 in
    let after : x ≡ (op.bytes ++ (path.bytes ++ value.bytes)) ++ c.0.1 =
    op.joined ∙ ap (λ (s : List ℕ). op.bytes ++ s) (path.joined ∙ ap (λ (s : List ℕ). path.bytes ++ s) value.joined ∙ sym (append_assoc path.bytes value.bytes c.0.1)) ∙ sym (append_assoc op.bytes (path.bytes ++ value.bytes) c.0.1)
    in
    same_diff (a.0.0, (b.0.0, c.0.0)) d x c.0.1 r p.0 p.1 (record {
      bytes = op.bytes ++ (path.bytes ++ value.bytes);
      joined = after;
      is = record {
        prefix = op.bytes;
        suffix = path.bytes ++ value.bytes;
        joined = refl;
        first_is = op.is;
        second_is = record { prefix = path.bytes; suffix = value.bytes; joined = refl; first_is = path.is; second_is = value.is };
      };
    })

-- the diff that is read is the only one
pub diff_read : (x : List ℕ) (d : Diff) (r : List ℕ) → diff_at x ≡ Ok (d, r) → Reads IsDiff d x r
diff_read x d r h = record {
  begins = diff-sound x d r h;
  only = λ w s b.
      let e = sym h ∙ rw b.joined (diff-complete w b.bytes s s b.is) in
      let p = ok_pair d r (w, s) e in
      (sym p.1, p.0);
}

pub diff_failed : (x : List ℕ) (e : RowsError) → diff_at x ≡ Err e → Lacks IsDiff x
diff_failed x e h w s b = let f : ◌≡◌ {A = Reading (Diff × List ℕ)} (Err e) (Ok (w, s)) = sym h ∙ rw b.joined (diff-complete w b.bytes s s b.is) in absurd cc

-- a diff takes at least one byte
begins-shrinks : (d : Diff) (x r : List ℕ) → Begins (IsDiff d) x r → length r < length x
begins-shrinks d x r b =
    let one : length b.is.prefix ≡ 1 = ap length b.is.first_is in
    omega (arith, one, ap length b.joined, length-append b.bytes r, ap length b.is.joined, length-append b.is.prefix b.is.suffix)

pub diff-shrinks : (x : List ℕ) (d : Diff) (r : List ℕ) → diff_at x ≡ Ok (d, r) → length r < length x
diff-shrinks x d r h = begins-shrinks d x r (diff-sound x d r h)

-- ---- why there is no diff

-- an error of a step, or of the next one
bind-err : {A B : Type 0} (o : Reading A) (f : A → Reading B) (e : RowsError) → (o >>= f) ≡ Err e → (o ≡ Err e) ⊎ ((x : A) × (o ≡ Ok x) × (f x ≡ Err e))
bind-err (Err k) f e h = inl cc
bind-err (Ok x) f e h = inr (x, refl, h)

only_bad : (e : RowsError) → malformed ≡ e → IsJsonbFault e
only_bad e h = subst IsJsonbFault h tt

operation_fault : (x : List ℕ) (e : RowsError) → operation_at x ≡ Err e → IsJsonbFault e
operation_fault [] e h = only_bad e cc
operation_fault (n ∷ x) e h = elim (eqb_tells n 0) [
  | inl t ↦ let g = rw t.0 at h in absurd cc
  | inr t ↦ let g = rw t.0 at h in elim (eqb_tells n 1) [
    | inl u ↦ let k = rw u.0 at g in absurd cc
    | inr u ↦ let k = rw u.0 at g in elim (eqb_tells n 2) [
      | inl w ↦ let m = rw w.0 at k in absurd cc
      | inr w ↦ let m = rw w.0 at k in only_bad e cc
    ]
  ]
]

text_fault : (x : List ℕ) (e : RowsError) → text_at x ≡ Err e → IsJsonbFault e
unfolding text_at
text_fault x e h = of_length (split_lenenc x) h
  where
    of_length : (o : Option (ℕ × List ℕ)) → text_of_length o ≡ Err e → IsJsonbFault e
    of_length None g = only_bad e cc
    of_length (Some n) g = cut (leb n.0 (length n.1)) g
      where
        cut : (t : Bool) → cond {A = Reading (List ℕ × List ℕ)} t (Ok (take n.0 n.1, drop n.0 n.1)) (Err malformed) ≡ Err e → IsJsonbFault e
        cut true k = absurd cc
        cut false k = only_bad e cc

embedded_fault : (x : List ℕ) (e : RowsError) → embedded_at x ≡ Err e → IsJsonbFault e
embedded_fault x e h = elim (bind-err _ _ e h) [
  | inl t ↦ text_fault x e t
  | inr t ↦ elim (bind-err _ _ e t.2) [
    | inl d ↦ document_fault t.0.0 e d
    | inr d ↦ absurd cc
  ]
]

value_fault : (op : JsonDiffOperation) (x : List ℕ) (e : RowsError) → diff_value_at op x ≡ Err e → IsJsonbFault e
value_fault REMOVE x e h = absurd cc
value_fault REPLACE x e h = embedded_fault x e h
value_fault INSERT x e h = embedded_fault x e h

pub diff_fault : (x : List ℕ) (e : RowsError) → diff_at x ≡ Err e → IsJsonbFault e
unfolding diff_at
diff_fault x e h = elim (bind-err _ _ e h) [
  | inl t ↦ operation_fault x e t
  | inr t ↦ elim (bind-err _ _ e t.2) [
    | inl u ↦ text_fault t.0.1 e u
    | inr u ↦ elim (bind-err _ _ e u.2) [
      | inl w ↦ value_fault t.0.0 u.0.1 e w
      | inr w ↦ absurd cc
    ]
  ]
]

-- an error that ends the diffs is one of `Jsonb`
pub diffs_fault : (x : List ℕ) (e : RowsError) → (items_at diff_at x).fault ≡ Some e → IsJsonbFault e
diffs_fault x e h =
    let found = items-found IsDiff diff_at diff-complete diff-sound diff-shrinks x in
    diff_fault found.rest e (subst (λ (f : Option RowsError). WalkEndsAt diff_at f found.rest) h found.stops).1
