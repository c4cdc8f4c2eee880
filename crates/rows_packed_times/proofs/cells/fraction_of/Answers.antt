use Rattle.std.proofs.Common.{rules, ◌≡◌, ◌+◌, ◌<◌, ◌*◌, ◌*ℤ◌, ◌∙◌, ap, sym, arith, pos, ℕ, ℤ, to_z}
use Rattle.std.proofs.lemmas.Int.{to_z-of_z, ints}
use Rattle.std.specs.Int.{w8, w16, w32}
use Rattle.byteorder.specs.Endian.{twos_complement}
use Rattle.rows_packed_times.specs.PackedTimes.{fraction}
use Rattle.rows_packed_times.proofs.PackedLemmas.{big_number_fits}
use Rattle.rows_packed_times.proofs.cells.fraction_of.Goals as goal

one_byte : (n : ℕ) → n < 256 → to_z w8 n ≡ twos_complement 1 (n * 1 + 0)
one_byte n h = grind (arith, ints)

two_bytes : (n : ℕ) → n < 65536 → to_z w16 n ≡ twos_complement 2 n
two_bytes n h = grind (arith, ints)

times_one : (z : ℤ) → z *ℤ pos 1 ≡ z
times_one z = omega (arith, ints)

pub returns-in-1 : goal.returns-in-1
returns-in-1 c =
    to_z-of_z w32 _ (search rules)
    ∙ ap (λ v. v *ℤ pos 10000) (to_z-of_z w32 _ (record { sfits = c.from.type_inv }) ∙ c.from.ensures
    ∙ to_z-of_z w8 _ (record { sfits = c.cast_signed.type_inv }) ∙ c.cast_signed.ensures ∙ one_byte _ (search rules))
    ∙ ap (λ n. fraction n c.args.bytes.now) (sym c.in-1.is)

pub returns-in-2 : goal.returns-in-2
returns-in-2 c =
    to_z-of_z w32 _ (search rules)
    ∙ ap (λ v. v *ℤ pos 100) (to_z-of_z w32 _ (record { sfits = c.from-in-2.type_inv }) ∙ c.from-in-2.ensures
    ∙ to_z-of_z w16 _ (record { sfits = c.read_i16.type_inv }) ∙ c.read_i16.ensures
    ∙ two_bytes _ (big_number_fits 2 c.args.bytes.now (λ k. search rules)))
    ∙ ap (λ n. fraction n c.args.bytes.now) (sym c.in-2.is)

pub returns-in-3 : goal.returns-in-3
returns-in-3 c =
    to_z-of_z w32 _ (record { sfits = c.read_i24.type_inv }) ∙ c.read_i24.ensures ∙ sym (times_one _)
    ∙ ap (λ n. fraction n c.args.bytes.now) (sym c.in-3.is)
