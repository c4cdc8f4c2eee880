-- The entries of the tables.
use Rattle.std.proofs.Common.{◌≡◌, ℕ, suc, ◌+◌, ◌/◌, ◌%◌, ◌^◌, ◌<◌, ◌≤◌, List, [], map, bit_and, bit_xor, get_or, refl, sym, ap, ◌∙◌, arith}
use Rattle.std.proofs.lemmas.List.FromFn.{get_or-map-range_with_len}
use Rattle.std.proofs.lemmas.Nat.{shr-shr, and_mask}
use Rattle.std.specs.List.{range_with_len}
use lib.Bits.{xor_assoc, xor_zero_r, xor_shr}
use Rattle.crc32.specs.declared.tables.TheConstants.{TABLES}
use Rattle.crc32.proofs.ZerosLemmas.{step, steps, zeros, zeros-peel, zeros-zero}

-- one table: what the registers below 256 are after k + 1 bytes that are 0
abbrev table : ℕ → List ℕ
table k = map (zeros (suc k)) (range_with_len 0 256)

-- by computing each entry
all_tables : TABLES ≡ map table (range_with_len 0 16)
unfolding zeros steps step
all_tables = refl

-- the entry of the lowest byte of n
looked_up : (k n : ℕ) → k < 16 → get_or (get_or TABLES k []) (bit_and n 255) 0 ≡ zeros (suc k) (n % 256)
looked_up k n h =
    ap (λ (i : ℕ). get_or (get_or TABLES k []) i 0) (and_mask n 8)
    ∙ ap (λ t. get_or (get_or t k []) (n % 256) 0) all_tables
    ∙ ap (λ t. get_or t (n % 256) 0) (get_or-map-range_with_len table 0 16 k k [] h (omega arith))
    ∙ get_or-map-range_with_len (zeros (suc k)) 0 256 (n % 256) (n % 256) 0 (omega arith) (omega arith)

-- a byte is looked up, and the bits above it move down
pub byte_passed : (c b : ℕ) → b < 256 → bit_xor (get_or (get_or TABLES 0 []) (bit_and (bit_xor c b) 255) 0) (c / 2 ^ 8) ≡ zeros 1 (bit_xor c b)
unfolding zeros
byte_passed c b h =
    let x : ℕ = bit_xor c b in
    let none : b / 2 ^ 8 ≡ 0 = omega arith in
    sym (zeros-peel 0 x
    ∙ ap (bit_xor (zeros 1 (x % 256))) (xor_shr c b 8 ∙ ap (bit_xor (c / 2 ^ 8)) none ∙ xor_zero_r (c / 2 ^ 8))
    ∙ ap (λ (y : ℕ). bit_xor y (c / 2 ^ 8)) (sym (looked_up 0 x (omega arith))))

-- the byte of w from bit j on is looked up, and the higher bytes are left
peel : (k m j i w : ℕ) → k < 16 → suc k ≡ m → j + 8 ≡ i
    → zeros m (w / 2 ^ j) ≡ bit_xor (get_or (get_or TABLES k []) (bit_and (w / 2 ^ j) 255) 0) (zeros k (w / 2 ^ i))
peel k m j i w h more e =
    ap (λ (n : ℕ). zeros n (w / 2 ^ j)) (sym more) ∙ zeros-peel k (w / 2 ^ j)
    ∙ ap (λ (y : ℕ). bit_xor (zeros (suc k) (w / 2 ^ j % 256)) (zeros k y)) (shr-shr w j 8 ∙ ap (λ (n : ℕ). w / 2 ^ n) e)
    ∙ ap (λ (y : ℕ). bit_xor y (zeros k (w / 2 ^ i))) (sym (looked_up k (w / 2 ^ j) h))

-- four look-ups in sequence, combined in pairs
in_pairs : (a b c d z1 z2 z3 z4 z : ℕ) → z ≡ bit_xor a z1 → z1 ≡ bit_xor b z2 → z2 ≡ bit_xor c z3 → z3 ≡ bit_xor d z4 → z4 ≡ 0
    → bit_xor (bit_xor a b) (bit_xor c d) ≡ z
in_pairs a b c d z1 z2 z3 z4 z e0 e1 e2 e3 end =
    sym (e0 ∙ ap (bit_xor a) (e1 ∙ ap (bit_xor b) (e2 ∙ ap (bit_xor c) (e3 ∙ ap (bit_xor d) end ∙ xor_zero_r d)))
    ∙ sym (xor_assoc a b (bit_xor c d)))

-- the entry for the byte of w from bit j on
abbrev entry : ℕ → ℕ → ℕ → ℕ
entry k w j = get_or (get_or TABLES k []) (bit_and (w / 2 ^ j) 255) 0

-- the four bytes of a word, with k zeros after them
pub word_passed : (k w : ℕ) → k ≤ 12 → w < 2 ^ 32
    → bit_xor (bit_xor (get_or (get_or TABLES (k + 3) []) (bit_and w 255) 0) (entry (k + 2) w 8)) (bit_xor (entry (k + 1) w 16) (entry k w 24)) ≡ zeros (k + 4) w
word_passed k w h l =
    let past : w / 2 ^ 32 ≡ 0 = omega arith in
    let end : zeros k (w / 2 ^ 32) ≡ 0 = ap (zeros k) past ∙ zeros-zero k in
    let whole : w / 2 ^ 0 ≡ w = omega arith in
    let lowest : ℕ → ℕ = λ y. get_or (get_or TABLES (k + 3) []) (bit_and y 255) 0 in
    in_pairs
    (lowest w) (entry (k + 2) w 8) (entry (k + 1) w 16) (entry k w 24)
    (zeros (k + 3) (w / 2 ^ 8)) (zeros (k + 2) (w / 2 ^ 16)) (zeros (k + 1) (w / 2 ^ 24)) (zeros k (w / 2 ^ 32)) (zeros (k + 4) w)
    (ap (zeros (k + 4)) (sym whole) ∙ peel (k + 3) (k + 4) 0 8 w (omega arith) (omega arith) refl ∙ ap (λ (y : ℕ). bit_xor (lowest y) (zeros (k + 3) (w / 2 ^ 8))) whole)
    (peel (k + 2) (k + 3) 8 16 w (omega arith) (omega arith) refl)
    (peel (k + 1) (k + 2) 16 24 w (omega arith) (omega arith) refl)
    (peel k (k + 1) 24 32 w (omega arith) (omega arith) refl)
    end

-- the two low bytes of w are looked up, and the bits above them move down
pub two_passed : (w : ℕ) → bit_xor (bit_xor (get_or (get_or TABLES 1 []) (bit_and w 255) 0) (entry 0 w 8)) (w / 2 ^ 16) ≡ zeros 2 w
unfolding zeros
two_passed w =
    let whole : w / 2 ^ 0 ≡ w = omega arith in
    let lowest : ℕ → ℕ = λ y. get_or (get_or TABLES 1 []) (bit_and y 255) 0 in
    xor_assoc (lowest w) (entry 0 w 8) (w / 2 ^ 16)
    ∙ ap (bit_xor (lowest w)) (sym (peel 0 1 8 16 w (omega arith) refl refl))
    ∙ sym (ap (zeros 2) (sym whole) ∙ peel 1 2 0 8 w (omega arith) refl refl ∙ ap (λ (y : ℕ). bit_xor (lowest y) (zeros 1 (w / 2 ^ 8))) whole)
