-- A payload's chunks, one more or one less.
use Rattle.std.proofs.Common.{◌≡◌, ℕ, zero, suc, ◌+◌, ◌*◌, ◌/◌, ◌%◌, ◌≤◌, min, List, [], ◌∷◌, ◌++◌, length, take, drop, refl, sym, ap, subst, ◌∙◌, append_assoc, arith, add-one, length-drop}
use Rattle.std.specs.List.{flat_map, range_with_len}
use Rattle.std.proofs.lemmas.List.{take-append-le, drop-append-le, drop-drop, append-nil, take_all, drop_all, take_min, drop_min}
use Rattle.wire_packets.specs.Framing.{chunk, slice_of, chunks, framing, framings, sequence_id_after, next_sequence_id}

flat_map_snoc : (f : ℕ → List ℕ) (a m : ℕ) → flat_map f (range_with_len a (suc m)) ≡ flat_map f (range_with_len a m) ++ f (a + m)
flat_map_snoc f a zero =
    let e : a + 0 ≡ a = omega arith in
    rw e (append-nil (f a))
flat_map_snoc f a (suc m) =
    let e : a + 1 + m ≡ a + suc m = omega arith in
    let h : flat_map f (range_with_len (a + 1) (suc m)) ≡ flat_map f (range_with_len (a + 1) m) ++ f (a + suc m) = subst (λ (i : ℕ). flat_map f (range_with_len (a + 1) (suc m)) ≡ flat_map f (range_with_len (a + 1) m) ++ f i) e (flat_map_snoc f (a + 1) m) in
    ap (λ (t : List ℕ). f a ++ t) h ∙ sym (append_assoc (f a) (flat_map f (range_with_len (a + 1) m)) (f (a + suc m)))

pub chunks_none : (w k : ℕ) (p : List ℕ) → chunks w k 0 p ≡ []
unfolding chunks
chunks_none w k p = refl

-- one more chunk
pub chunks_more : (w k m : ℕ) (p : List ℕ) → chunks w k (m + 1) p ≡ chunks w k m p ++ chunk (k + m) (slice_of w p m)
unfolding chunks
chunks_more w k m p =
    let f : ℕ → List ℕ = λ i. chunk (k + i) (slice_of w p i) in
    let e : 0 + m ≡ m = omega arith in
    let h : flat_map f (range_with_len 0 (suc m)) ≡ flat_map f (range_with_len 0 m) ++ f m = subst (λ (i : ℕ). flat_map f (range_with_len 0 (suc m)) ≡ flat_map f (range_with_len 0 m) ++ f i) e (flat_map_snoc f 0 m) in
    subst (λ (i : ℕ). flat_map f (range_with_len 0 i) ≡ flat_map f (range_with_len 0 m) ++ f m) (sym (add-one m)) h

slice_kept : (w m : ℕ) (p q : List ℕ) → m * w + w ≤ length p → slice_of w (p ++ q) m ≡ slice_of w p m
unfolding slice_of
slice_kept w m p q h =
    rw (drop-append-le (m * w) p q (omega arith)) (take-append-le w (drop (m * w) p) q (omega (arith, length-drop (m * w) p)))

slice_last : (w m : ℕ) (g c : List ℕ) → m * w ≡ length g → length c ≤ w → slice_of w (g ++ c) m ≡ c
unfolding slice_of
slice_last w m g c even short =
    rw (drop-append-le (m * w) g c (omega arith), drop_all (m * w) g (omega arith)) (take_all w c short)

-- the bytes after m slices don't change them
pub chunks_kept : (w k m : ℕ) (p q : List ℕ) → m * w ≤ length p → chunks w k m (p ++ q) ≡ chunks w k m p
chunks_kept w k zero p q h = chunks_none w k (p ++ q) ∙ sym (chunks_none w k p)
chunks_kept w k (suc m) p q h =
    let le : m * w + w ≤ length p = omega arith in
    let c : chunks w k m (p ++ q) ≡ chunks w k m p = chunks_kept w k m p q (omega arith) in
    let d : slice_of w (p ++ q) m ≡ slice_of w p m = slice_kept w m p q le in
    let e : chunks w k (m + 1) (p ++ q) ≡ chunks w k (m + 1) p = rw (chunks_more w k m (p ++ q), chunks_more w k m p, c, d) refl in
    subst (λ (i : ℕ). chunks w k i (p ++ q) ≡ chunks w k i p) (add-one m) e

-- one more chunk after full ones
pub chunks_snoc : (w k m : ℕ) (g c : List ℕ) → m * w ≡ length g → length c ≤ w → chunks w k (m + 1) (g ++ c) ≡ chunks w k m g ++ chunk (k + m) c
chunks_snoc w k m g c even short =
    rw (chunks_more w k m (g ++ c), chunks_kept w k m g c (omega arith), slice_last w m g c even short) refl

-- the next slice, and the bytes after it
pub next_slice : (w i : ℕ) (p rest : List ℕ) → rest ≡ drop (i * w) p → take (min w (length rest)) rest ≡ slice_of w p i
unfolding slice_of
next_slice w i p rest is = take_min w rest ∙ ap (λ (t : List ℕ). take w t) is

pub after_slice : (w i : ℕ) (p rest : List ℕ) → rest ≡ drop (i * w) p → drop (min w (length rest)) rest ≡ drop ((i + 1) * w) p
after_slice w i p rest is =
    let e : i * w + w ≡ (i + 1) * w = omega arith in
    drop_min w rest ∙ ap (λ (t : List ℕ). drop w t) is ∙ drop-drop w (i * w) p ∙ ap (λ (n : ℕ). drop n p) e

-- a sequence id counts modulo 256
pub same_chunk : (a n : ℕ) (bytes : List ℕ) → a ≡ n % 256 → chunk a bytes ≡ chunk n bytes
same_chunk a n bytes e =
    let m : a % 256 ≡ n % 256 = omega arith in
    ap (λ (i : ℕ). length bytes % 256 ∷ (length bytes / 256) % 256 ∷ length bytes / 65536 ∷ i ∷ bytes) m

-- one more payload
pub framings_snoc : (k : ℕ) (ps : List (List ℕ)) (p : List ℕ) → framings k (ps ++ p ∷ []) ≡ framings k ps ++ framing (sequence_id_after k ps) p
unfolding framings sequence_id_after
framings_snoc k [] p = append-nil (framing k p)
framings_snoc k (q ∷ ps) p =
    ap (λ (t : List ℕ). framing k q ++ t) (framings_snoc (next_sequence_id k q) ps p) ∙ sym (append_assoc (framing k q) (framings (next_sequence_id k q) ps) (framing (sequence_id_after (next_sequence_id k q) ps) p))

pub number_snoc : (k : ℕ) (ps : List (List ℕ)) (p : List ℕ) → sequence_id_after k (ps ++ p ∷ []) ≡ next_sequence_id (sequence_id_after k ps) p
unfolding sequence_id_after
number_snoc k [] p = refl
number_snoc k (q ∷ ps) p = number_snoc (next_sequence_id k q) ps p
