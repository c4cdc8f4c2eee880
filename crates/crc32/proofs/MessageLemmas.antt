-- A message enters the register as one number, which zeros shift through.
use Rattle.std.proofs.Common.{◌≡◌, ℕ, zero, suc, ◌+◌, ◌-◌, ◌*◌, ◌/◌, ◌%◌, ◌<◌, ◌≤◌, ◌==◌, List, [], ◌∷◌, ◌++◌, bit_xor, fold, flat_map, length, replicate, get_or, take, drop, if◌then◌else◌, refl, sym, subst, ap, ◌∙◌, arith}
use Rattle.std.proofs.lemmas.List.Sums.{fold-append}
use Rattle.std.proofs.lemmas.Grind.{flat_map-append}
use Rattle.std.proofs.lemmas.List.{take-append-drop, length-take, length-drop, get_or-drop, drop-drop, take_rest}
use lib.Bits.{xor_assoc, xor_comm, xor_shr, xor_mod, xor_zero_r}
use Rattle.byteorder.specs.Endian.{little_from, little_number}
use Rattle.crc32.specs.Checksums.{polynomial, after_bit, byte_bits, after_bytes}
use Rattle.crc32.specs.Division.{message_number}
use Rattle.crc32.proofs.ZerosLemmas.{step, steps, zeros, xor_split, step-xor, steps-xor, zeros-xor, step-even, steps-shifted}

-- ---- bits

both_bits : (q d x : ℕ) → d < 2 → x < 2 → (if d == x then q else bit_xor q polynomial) ≡ bit_xor q (bit_xor d x * polynomial)
both_bits q zero zero h k = sym (xor_zero_r q)
both_bits q zero (suc zero) h k = refl
both_bits q (suc zero) zero h k = refl
both_bits q (suc zero) (suc zero) h k = sym (xor_zero_r q)
both_bits q zero (suc (suc x)) h k = absurd (omega arith)
both_bits q (suc zero) (suc (suc x)) h k = absurd (omega arith)
both_bits q (suc (suc d)) x h k = absurd (omega arith)

-- a bit of the message is added to the register, and a zero bit shifts it
after_bit_is : (c x : ℕ) → x < 2 → after_bit c x ≡ step (bit_xor c x)
unfolding after_bit step
after_bit_is c x h =
    let half : x / 2 ≡ 0 = omega arith in
    let low : x % 2 ≡ x = omega arith in
    both_bits (c / 2) (c % 2) x (omega arith) h
    ∙ sym (ap (λ (y : ℕ). bit_xor y (bit_xor c x % 2 * polynomial)) (xor_shr c x 1 ∙ ap (bit_xor (c / 2)) half ∙ xor_zero_r (c / 2))
    ∙ ap (λ (y : ℕ). bit_xor (c / 2) (y * polynomial)) (xor_mod c x 1 ∙ ap (bit_xor (c % 2)) low))

abbrev AreBits : List ℕ → Type 0
AreBits [] = Unit {0}
AreBits (x ∷ xs) = (x < 2) × AreBits xs

-- the bits as one number, the first of them lowest
abbrev bits_number : List ℕ → ℕ
bits_number [] = 0
bits_number (x ∷ xs) = x + bits_number xs * 2

after_bits : (xs : List ℕ) (c : ℕ) → AreBits xs → fold after_bit c xs ≡ steps (length xs) (bit_xor c (bits_number xs))
unfolding steps
after_bits [] c h = sym (xor_zero_r c)
after_bits (x ∷ xs) c h =
    let n : ℕ = bits_number xs in
    after_bits xs (after_bit c x) h.1
    ∙ ap (steps (length xs))
    (ap (λ (y : ℕ). bit_xor y n) (after_bit_is c x h.0) ∙ ap (bit_xor (step (bit_xor c x))) (sym (step-even n))
    ∙ sym (step-xor (bit_xor c x) (n * 2))
    ∙ ap step (xor_assoc c x (n * 2) ∙ ap (bit_xor c) (xor_split 1 n x h.0)))

-- ---- bytes

byte_is : (b : ℕ) → b < 256 → bits_number (byte_bits b) ≡ b
unfolding byte_bits
byte_is b h = omega arith

are_bits : (b : ℕ) → AreBits (byte_bits b)
unfolding byte_bits
are_bits b = (omega arith, (omega arith, (omega arith, (omega arith, (omega arith, (omega arith, (omega arith, (omega arith, tt))))))))

after_byte : (c b : ℕ) → b < 256 → fold after_bit c (byte_bits b) ≡ steps 8 (bit_xor c b)
unfolding byte_bits
after_byte c b h = after_bits (byte_bits b) c (are_bits b) ∙ ap (λ (y : ℕ). steps 8 (bit_xor c y)) (byte_is b h)

pub after_nothing : (c : ℕ) → after_bytes c [] ≡ c
unfolding after_bytes
after_nothing c = refl

pub after_more : (c : ℕ) (xs ys : List ℕ) → after_bytes c (xs ++ ys) ≡ after_bytes (after_bytes c xs) ys
unfolding after_bytes
after_more c xs ys = ap (fold after_bit c) (flat_map-append byte_bits xs ys) ∙ fold-append after_bit c (flat_map byte_bits xs) (flat_map byte_bits ys)

pub after_first : (c b : ℕ) (bs : List ℕ) → b < 256 → after_bytes c (b ∷ bs) ≡ after_bytes (zeros 1 (bit_xor c b)) bs
unfolding after_bytes zeros
after_first c b bs h = fold-append after_bit c (byte_bits b) (flat_map byte_bits bs) ∙ ap (λ (y : ℕ). fold after_bit y (flat_map byte_bits bs)) (after_byte c b h)

pub after_one : (c b : ℕ) → b < 256 → after_bytes c (b ∷ []) ≡ zeros 1 (bit_xor c b)
after_one c b h = after_first c b [] h ∙ after_nothing (zeros 1 (bit_xor c b))

-- zero bytes shift the register
pub after_zeros : (n x : ℕ) → after_bytes x (replicate n 0) ≡ zeros n x
unfolding zeros
after_zeros zero x = after_nothing x
after_zeros (suc n) x =
    after_first x 0 (replicate n 0) (omega arith) ∙ after_zeros n (steps 8 (bit_xor x 0))
    ∙ ap (λ (y : ℕ). zeros n (steps 8 y)) (xor_zero_r x)

-- the whole message at once
pub after_all : (bs : List ℕ) (c : ℕ) → ((i : ℕ) → get_or bs i 0 < 256) → after_bytes c bs ≡ zeros (length bs) (bit_xor c (message_number bs))
unfolding zeros message_number
after_all [] c h = after_nothing c ∙ sym (xor_zero_r c)
after_all (b ∷ bs) c h =
    let n : ℕ = message_number bs in
    let k : b < 256 = h 0 in
    after_first c b bs k ∙ after_all bs (steps 8 (bit_xor c b)) (λ i. h (suc i))
    ∙ ap (zeros (length bs))
    (ap (bit_xor (steps 8 (bit_xor c b))) (sym (steps-shifted 8 n))
    ∙ sym (steps-xor 8 (bit_xor c b) (n * 256))
    ∙ ap (steps 8) (xor_assoc c b (n * 256) ∙ ap (bit_xor c) (xor_split 8 n b k)))

-- ---- blocks

later : (n i x : ℕ) (xs : List ℕ) → little_from (suc i) n (x ∷ xs) ≡ little_from i n xs
later zero i x xs = refl
later (suc n) i x xs = ap (λ (y : ℕ). get_or xs i 0 + 256 * y) (later n (suc i) x xs)

pub number_is : (n : ℕ) (xs : List ℕ) → n ≤ length xs → little_from 0 n xs ≡ message_number (take n xs)
unfolding message_number
number_is zero xs h = refl
number_is (suc n) [] h = absurd (omega arith)
number_is (suc n) (x ∷ xs) h =
    let k : n ≤ length xs = omega arith in
    let e : little_from 1 n (x ∷ xs) ≡ message_number (take n xs) = later n 0 x xs ∙ number_is n xs k in
    omega arith

pub small_prefix : (n : ℕ) (xs : List ℕ) → ((i : ℕ) → get_or xs i 0 < 256) → (i : ℕ) → get_or (take n xs) i 0 < 256
small_prefix zero xs h i = omega arith
small_prefix (suc n) [] h i = omega arith
small_prefix (suc n) (x ∷ xs) h zero = h 0
small_prefix (suc n) (x ∷ xs) h (suc i) = small_prefix n xs (λ j. h (suc j)) i

pub small_rest : (n : ℕ) (xs : List ℕ) → ((i : ℕ) → get_or xs i 0 < 256) → (i : ℕ) → get_or (drop n xs) i 0 < 256
small_rest n xs h i = let P : ℕ → Type 0 = λ y. y < 256 in subst P (sym (get_or-drop n xs i 0)) (h (n + i))

-- the first n bytes as one number
pub after_block : (n c : ℕ) (xs : List ℕ) → n ≤ length xs → ((i : ℕ) → get_or xs i 0 < 256)
    → after_bytes c xs ≡ after_bytes (zeros n (bit_xor c (little_number n xs))) (drop n xs)
after_block n c xs h k =
    let prefix : List ℕ = take n xs in
    let l : length prefix ≡ n = omega (arith, length-take n xs) in
    let small : (i : ℕ) → get_or prefix i 0 < 256 = small_prefix n xs k in
    ap (after_bytes c) (sym (take-append-drop n xs)) ∙ after_more c prefix (drop n xs)
    ∙ ap (λ (y : ℕ). after_bytes y (drop n xs)) (after_all prefix c small ∙ ap (λ (m : ℕ). zeros m (bit_xor c (message_number prefix))) l
    ∙ ap (λ (y : ℕ). zeros n (bit_xor c y)) (sym (number_is n xs h)))

first_last : (x b c d : ℕ) → bit_xor (bit_xor (bit_xor x b) c) d ≡ bit_xor (bit_xor (bit_xor b c) d) x
first_last x b c d =
    ap (λ (y : ℕ). bit_xor y d) (xor_assoc x b c) ∙ xor_assoc x (bit_xor b c) d ∙ xor_comm x (bit_xor (bit_xor b c) d)

-- words in sequence, separated: what each leaves in the register at the end
two_words : (x b : ℕ) → zeros 4 (bit_xor (zeros 4 x) b) ≡ bit_xor (zeros 8 x) (zeros 4 b)
unfolding zeros
two_words x b = zeros-xor 4 (zeros 4 x) b

three_words : (x b c : ℕ) → zeros 4 (bit_xor (zeros 4 (bit_xor (zeros 4 x) b)) c) ≡ bit_xor (bit_xor (zeros 12 x) (zeros 8 b)) (zeros 4 c)
unfolding zeros
three_words x b c =
    zeros-xor 4 (zeros 4 (bit_xor (zeros 4 x) b)) c
    ∙ ap (λ (y : ℕ). bit_xor y (zeros 4 c)) (ap (zeros 4) (two_words x b) ∙ zeros-xor 4 (zeros 8 x) (zeros 4 b))

four_words : (x b c d : ℕ) → zeros 4 (bit_xor (zeros 4 (bit_xor (zeros 4 (bit_xor (zeros 4 x) b)) c)) d)
    ≡ bit_xor (bit_xor (bit_xor (zeros 12 b) (zeros 8 c)) (zeros 4 d)) (zeros 16 x)
unfolding zeros
four_words x b c d =
    zeros-xor 4 (zeros 4 (bit_xor (zeros 4 (bit_xor (zeros 4 x) b)) c)) d
    ∙ ap (λ (y : ℕ). bit_xor y (zeros 4 d))
    (ap (zeros 4) (three_words x b c) ∙ zeros-xor 4 (bit_xor (zeros 12 x) (zeros 8 b)) (zeros 4 c)
    ∙ ap (λ (y : ℕ). bit_xor y (zeros 8 c)) (zeros-xor 4 (zeros 12 x) (zeros 8 b)))
    ∙ first_last (zeros 16 x) (zeros 12 b) (zeros 8 c) (zeros 4 d)

-- ---- the iterations of the loops

-- a word is read
word_more : (xs : List ℕ) (i j c word : ℕ) → i + 4 ≤ length xs → ((i : ℕ) → get_or xs i 0 < 256) → i + 4 ≡ j
    → word ≡ little_number 4 (take (length xs - i) (drop i xs))
    → after_bytes c (drop i xs) ≡ after_bytes (zeros 4 (bit_xor c word)) (drop j xs)
word_more xs i j c word h k e f =
    let rest : List ℕ = drop i xs in
    let long : 4 ≤ length rest = omega (arith, length-drop i xs) in
    let same : little_number 4 rest ≡ word = ap (little_number 4) (sym (take_rest xs i)) ∙ sym f in
    after_block 4 c rest long (small_rest i xs k)
    ∙ ap (λ (y : ℕ). after_bytes (zeros 4 (bit_xor c y)) (drop 4 rest)) same
    ∙ ap (after_bytes (zeros 4 (bit_xor c word))) (drop-drop 4 i xs ∙ ap (λ (y : ℕ). drop y xs) e)

-- four words are read, and the contribution of each is looked up separately
pub sixteen_more : (xs : List ℕ) (i c first second third fourth a b d e : ℕ) → 16 ≤ length xs - i → ((i : ℕ) → get_or xs i 0 < 256)
    → first ≡ little_number 4 (take (length xs - i) (drop i xs))
    → second ≡ little_number 4 (take (length xs - (i + 4)) (drop (i + 4) xs))
    → third ≡ little_number 4 (take (length xs - (i + 8)) (drop (i + 8) xs))
    → fourth ≡ little_number 4 (take (length xs - (i + 12)) (drop (i + 12) xs))
    → a ≡ after_bytes second (replicate 12 0) → b ≡ after_bytes third (replicate 8 0)
    → d ≡ after_bytes fourth (replicate 4 0) → e ≡ after_bytes (bit_xor first c) (replicate 16 0)
    → after_bytes (bit_xor (bit_xor (bit_xor a b) d) e) (drop (i + 16) xs) ≡ after_bytes c (drop i xs)
sixteen_more xs i c first second third fourth a b d e h k e0 e1 e2 e3 l0 l1 l2 l3 =
    let x : ℕ = bit_xor c first in
    let y1 : ℕ = zeros 4 x in
    let y2 : ℕ = zeros 4 (bit_xor y1 second) in
    let y3 : ℕ = zeros 4 (bit_xor y2 third) in
    let after : ℕ → ℕ = λ y. after_bytes y (drop (i + 16) xs) in
    ap (λ (y : ℕ). after (bit_xor (bit_xor (bit_xor y b) d) e)) (l0 ∙ after_zeros 12 second)
    ∙ ap (λ (y : ℕ). after (bit_xor (bit_xor (bit_xor (zeros 12 second) y) d) e)) (l1 ∙ after_zeros 8 third)
    ∙ ap (λ (y : ℕ). after (bit_xor (bit_xor (bit_xor (zeros 12 second) (zeros 8 third)) y) e)) (l2 ∙ after_zeros 4 fourth)
    ∙ ap (λ (y : ℕ). after (bit_xor (bit_xor (bit_xor (zeros 12 second) (zeros 8 third)) (zeros 4 fourth)) y)) (l3 ∙ after_zeros 16 (bit_xor first c) ∙ ap (zeros 16) (xor_comm first c))
    ∙ ap after (sym (four_words x second third fourth))
    ∙ sym (word_more xs i (i + 4) c first (omega arith) k refl e0
    ∙ word_more xs (i + 4) (i + 8) y1 second (omega arith) k (omega arith) e1
    ∙ word_more xs (i + 8) (i + 12) y2 third (omega arith) k (omega arith) e2
    ∙ word_more xs (i + 12) (i + 16) y3 fourth (omega arith) k (omega arith) e3)

-- ---- the last bytes

-- two words are read, and the contribution of each is looked up separately
pub eight_last : (xs : List ℕ) (c first second a b : ℕ) → 8 ≤ length xs → ((i : ℕ) → get_or xs i 0 < 256)
    → first ≡ little_number 4 xs → second ≡ little_number 4 (take (length xs - 4) (drop 4 xs))
    → a ≡ after_bytes second (replicate 4 0) → b ≡ after_bytes (bit_xor first c) (replicate 8 0)
    → after_bytes (bit_xor a b) (take (length xs - 8) (drop 8 xs)) ≡ after_bytes c xs
eight_last xs c first second a b h k e0 e1 l0 l1 =
    let x : ℕ = bit_xor c first in
    let sum : bit_xor a b ≡ zeros 4 (bit_xor (zeros 4 x) second) =
    xor_comm a b ∙ ap (λ (y : ℕ). bit_xor y a) (l1 ∙ after_zeros 8 (bit_xor first c) ∙ ap (zeros 8) (xor_comm first c))
    ∙ ap (bit_xor (zeros 8 x)) (l0 ∙ after_zeros 4 second) ∙ sym (two_words x second) in
    ap (after_bytes (bit_xor a b)) (take_rest xs 8)
    ∙ ap (λ (y : ℕ). after_bytes y (drop 8 xs)) sum
    ∙ sym (after_block 4 c xs (omega arith) k
    ∙ ap (λ (y : ℕ). after_bytes (zeros 4 (bit_xor c y)) (drop 4 xs)) (sym e0)
    ∙ word_more xs 4 8 (zeros 4 x) second (omega arith) k refl e1)

-- a word is read, and its contribution is looked up
pub four_last : (xs : List ℕ) (c word a : ℕ) → 4 ≤ length xs → ((i : ℕ) → get_or xs i 0 < 256)
    → word ≡ little_number 4 xs → a ≡ after_bytes (bit_xor word c) (replicate 4 0)
    → after_bytes a (take (length xs - 4) (drop 4 xs)) ≡ after_bytes c xs
four_last xs c word a h k e l =
    ap (after_bytes a) (take_rest xs 4)
    ∙ ap (λ (y : ℕ). after_bytes y (drop 4 xs)) (l ∙ after_zeros 4 (bit_xor word c) ∙ ap (zeros 4) (xor_comm word c))
    ∙ sym (after_block 4 c xs h k ∙ ap (λ (y : ℕ). after_bytes (zeros 4 (bit_xor c y)) (drop 4 xs)) (sym e))

-- two bytes are read
pub two_last : (xs : List ℕ) (c both a : ℕ) → 2 ≤ length xs → ((i : ℕ) → get_or xs i 0 < 256)
    → both ≡ bit_xor (little_number 2 xs) c → a ≡ zeros 2 both
    → after_bytes a (take (length xs - 2) (drop 2 xs)) ≡ after_bytes c xs
two_last xs c both a h k e l =
    ap (after_bytes a) (take_rest xs 2)
    ∙ ap (λ (y : ℕ). after_bytes y (drop 2 xs)) (l ∙ ap (zeros 2) (e ∙ xor_comm (little_number 2 xs) c))
    ∙ sym (after_block 2 c xs h k)

-- no byte is read
pub none_last : (xs ys : List ℕ) (c e : ℕ) → length ys ≤ 0 → after_bytes e ys ≡ after_bytes c xs → e ≡ after_bytes c xs
none_last xs [] c e h same = sym (after_nothing e) ∙ same
none_last xs (y ∷ ys) c e h same = absurd (omega arith)
