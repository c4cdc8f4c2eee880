-- Reads of numbers of n bytes, as `ParseBuf`'s calls return them.
use Rattle.std.proofs.Common.{◌≡◌, ◌≤◌, ℕ, ℤ, List, length, drop, slice_index, add-zero, ap, sym, ◌∙◌}
use Rattle.byteorder.specs.Endian.{little_number, big_number, twos_complement}
use Rattle.byteorder.specs.Numbers.{little_from-append, big_from-append}
use Rattle.wire_buf.specs.Encoding.{Reads, Alone}
use Rattle.wire_buf.specs.Numbers.{IsLittle, IsBig, IsSignedLittle, IsSignedBig, little_signed, big_signed}
use Rattle.wire_buf.proofs.EncodingLemmas.{Reads-fixed}

pub little_reads : (n v : ℕ) (x y : List ℕ) → n ≤ length x → v ≡ little_number n x → y ≡ drop n x → Reads (Alone (IsLittle n)) v x y
little_reads n v x y = Reads-fixed (little_number n) n v x y (little_from-append n)

pub big_reads : (n v : ℕ) (x y : List ℕ) → n ≤ length x → v ≡ big_number n x → y ≡ drop n x → Reads (Alone (IsBig n)) v x y
big_reads n v x y = Reads-fixed (big_number n) n v x y (big_from-append n)

pub signed_little_reads : (n : ℕ) (v : ℤ) (x y : List ℕ) → n ≤ length x → v ≡ little_signed n x → y ≡ drop n x → Reads (Alone (IsSignedLittle n)) v x y
signed_little_reads n v x y = Reads-fixed (little_signed n) n v x y (λ a b h. ap (twos_complement n) (little_from-append n a b h))

pub signed_big_reads : (n : ℕ) (v : ℤ) (x y : List ℕ) → n ≤ length x → v ≡ big_signed n x → y ≡ drop n x → Reads (Alone (IsSignedBig n)) v x y
signed_big_reads n v x y = Reads-fixed (big_signed n) n v x y (λ a b h. ap (twos_complement n) (big_from-append n a b h))

-- a byte is a number of one byte
pub byte_reads : (v : ℕ) (x y : List ℕ) → 1 ≤ length x → v ≡ slice_index x 0 → y ≡ drop 1 x → Reads (Alone (IsLittle 1)) v x y
byte_reads v x y room is rest = little_reads 1 v x y room (is ∙ sym (add-zero (slice_index x 0))) rest
