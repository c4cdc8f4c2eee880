-- Every stream of bytes has a split into packets and the bytes where they end.
use Rattle.std.proofs.Common.{◌≡◌, inl, inr, ℕ, zero, suc, ◌+◌, ◌<◌, ◌≤◌, ◌++◌, false, List, [], ◌∷◌, length, refl, arith, length-drop}
use Rattle.std.proofs.lemmas.List.{get_or-drop}
use Rattle.std.proofs.lemmas.Bool.{cases_Bool}
use Rattle.byteorder.specs.Numbers.{little_from-lt}
use Rattle.wire_buf.specs.Encoding.{AreBytes}
use Rattle.wire_packets.specs.Framing.{max_chunk_len}
use Rattle.wire_packets.specs.Reading.{payload_len_at, has_chunk_of, chunk_fault, chunk_payload, after_chunk, IsHeader}
use Rattle.wire_packets.specs.CodecState.{SplitsInto, sequence_id_after_chunks}
use Rattle.wire_packets.specs.PacketLaws.{HasSplit}
use Rattle.wire_packets.proofs.PacketLemmas.{order}
use Rattle.wire_packets.proofs.ReadingLemmas.{Taken, taken_parts}
use Rattle.wire_packets.proofs.CodecStateLemmas.{splits_none, splits_middle, splits_last}

-- the bytes after a chunk
AreBytes-after_chunk : (u : List ℕ) → AreBytes u → AreBytes (after_chunk u)
AreBytes-after_chunk u h i = rw (get_or-drop (4 + payload_len_at u) u i 0) (h ((4 + payload_len_at u) + i))

-- one more chunk of a split is taken, and fewer bytes remain
more_split : (m limit k : ℕ) (s : List ℕ) (ps : List (List ℕ)) (g u : List ℕ) → length u ≤ suc m → AreBytes u → SplitsInto limit k s ps g u → Taken (sequence_id_after_chunks k ps g) limit (length g) u
    → ((qs : List (List ℕ)) (b v : List ℕ) → length v ≤ m → AreBytes v → SplitsInto limit k s qs b v → HasSplit limit k s) → HasSplit limit k s
more_split m limit k s ps g u few are r t go_on =
    let whole = t.whole in
    let header : IsHeader u = record { first = are 0; second = are 1; third = are 2 } in
    let fewer : length (after_chunk u) ≤ m = omega (arith, few, whole, length-drop (4 + payload_len_at u) u) in
    let short : payload_len_at u < 16777216 = little_from-lt 0 3 u are in
    elim (order (payload_len_at u) max_chunk_len) [
      | inl less ↦ go_on (ps ++ (g ++ chunk_payload u) ∷ []) [] (after_chunk u) fewer (AreBytes-after_chunk u are) (splits_last limit k s ps g u r t header less)
      | inr more ↦ go_on ps (g ++ chunk_payload u) (after_chunk u) fewer (AreBytes-after_chunk u are) (splits_middle limit k s ps g u r t header (omega (arith, short, more)))
    ]

-- no further chunk is taken
ended_split : (limit k : ℕ) (s : List ℕ) (ps : List (List ℕ)) (g u : List ℕ) → SplitsInto limit k s ps g u → has_chunk_of (sequence_id_after_chunks k ps g) limit (length g) u ≡ false → HasSplit limit k s
ended_split limit k s ps g u r f = record { packets = ps; gathered = g; left = u; fault = chunk_fault limit (length g) u; splits = r; halts = record { nothing = f; why = refl } }

none_taken : (limit k g : ℕ) (u : List ℕ) → length u ≤ 0 → Taken k limit g u → ⊥
none_taken limit k g u none t = let whole = t.whole in omega (arith, none, whole)

split_from : (n limit k : ℕ) (s : List ℕ) (ps : List (List ℕ)) (g u : List ℕ) → length u ≤ n → AreBytes u → SplitsInto limit k s ps g u → HasSplit limit k s
split_from zero limit k s ps g u few are r = elim (cases_Bool (has_chunk_of (sequence_id_after_chunks k ps g) limit (length g) u)) [
  | inl t ↦ absurd (none_taken limit (sequence_id_after_chunks k ps g) (length g) u few (taken_parts (sequence_id_after_chunks k ps g) limit (length g) u t))
  | inr f ↦ ended_split limit k s ps g u r f
]
split_from (suc m) limit k s ps g u few are r = elim (cases_Bool (has_chunk_of (sequence_id_after_chunks k ps g) limit (length g) u)) [
  | inl t ↦ more_split m limit k s ps g u few are r (taken_parts (sequence_id_after_chunks k ps g) limit (length g) u t) (λ qs b v h i j. split_from m limit k s qs b v h i j)
  | inr f ↦ ended_split limit k s ps g u r f
]

pub has_split : (limit k : ℕ) (s : List ℕ) → AreBytes s → HasSplit limit k s
has_split limit k s are = split_from (length s) limit k s [] [] s (omega arith) are (splits_none limit k s)
