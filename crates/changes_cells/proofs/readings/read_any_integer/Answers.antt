use Rattle.std.proofs.Common.{drop, ap, ◌∙◌, arith, rules}
use Rattle.std.proofs.lemmas.Int.{to_z-of_z}
use mir.Syntax.{w64}
use Rattle.changes_cells.proofs.WordLemmas.{signed_cell, unsigned_cell, large_number, other_format}
use Rattle.changes_cells.proofs.readings.read_any_integer.Goals as goal

pub split_at-requires : goal.split_at-requires
split_at-requires c = omega (arith, c.if-bytes-lt8.false, c.bytes.ensures.high)

pub signed_of_eight-requires : goal.signed_of_eight-requires
signed_of_eight-requires c = c.if-bytes-lt8.false

pub split_at-requires-in-Unsigned : goal.split_at-requires-in-Unsigned
split_at-requires-in-Unsigned c = omega (arith, c.if-bytes-lt8.false, c.bytes-in-Unsigned.ensures.high)

pub unsigned_of_eight-requires : goal.unsigned_of_eight-requires
unsigned_of_eight-requires c = c.if-bytes-lt8.false

pub returns-in-Signed-clause-some : goal.returns-in-Signed-clause-some
returns-in-Signed-clause-some c =
    let size = c.bytes.ensures in
    signed_cell c.args.format c.in-Signed.width c.args.bytes.now _ _ c.in-Signed.is (omega (arith, c.if-bytes-lt8.false, size.high, size.value))
    (to_z-of_z w64 c.signed_of_eight.result (search rules) ∙ c.signed_of_eight.ensures)
    (c.split_at.ensures.back ∙ ap (λ n. drop n c.args.bytes.now) size.value)

pub returns-in-Ok-clause-some : goal.returns-in-Ok-clause-some
returns-in-Ok-clause-some c =
    let size = c.bytes-in-Unsigned.ensures in
    unsigned_cell c.args.format c.in-Unsigned.width c.args.bytes.now _ c.unsigned_of_eight.result _ c.in-Unsigned.is (omega (arith, c.if-bytes-lt8.false, size.high, size.value))
    c.unsigned_of_eight.ensures
    (to_z-of_z w64 c.in-Ok.number (search rules) ∙ c.in-Ok.ensures.1)
    (c.split_at-in-Unsigned.ensures.back ∙ ap (λ n. drop n c.args.bytes.now) size.value)

pub returns-in_default-clause-none : goal.returns-in_default-clause-none
returns-in_default-clause-none c = other_format c.args.format c.args.bytes.now c.in_default.not-Signed c.in_default.not-Unsigned

pub returns-in-Err-clause-none : goal.returns-in-Err-clause-none
returns-in-Err-clause-none c =
    let size = c.bytes-in-Unsigned.ensures in
    large_number c.args.format c.in-Unsigned.width c.args.bytes.now c.unsigned_of_eight.result c.in-Unsigned.is (omega (arith, c.if-bytes-lt8.false, size.high, size.value))
    c.unsigned_of_eight.ensures
    (λ h. c.in-Err.ensures (omega (arith, h)))
