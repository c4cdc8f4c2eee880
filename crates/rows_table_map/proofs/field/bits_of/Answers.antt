use Rattle.std.proofs.Common.{◌+◌, ◌/◌, ◌<◌, ◌≤◌, length, refl, arith}
use Rattle.std.proofs.lemmas.Bool.{lt-ltb, le-ltb}
use Rattle.rows_table_map.proofs.field.bits_of.Goals as goal

pub returns-then-value-size : goal.returns-then-value-size
returns-then-value-size c =
    let few : length c.args.value.now < (c.args.len + 7) / 8 = omega arith in
    rw (lt-ltb _ _ few) refl

pub returns-then-value-size-2 : goal.returns-then-value-size-2
returns-then-value-size-2 c =
    let enough : (c.args.len + 7) / 8 ≤ length c.args.value.now = omega arith in
    let more : (c.args.len + 7) / 8 < length c.args.value.now = omega arith in
    rw (le-ltb _ _ enough, lt-ltb _ _ more) refl

pub highest-requires : goal.highest-requires
highest-requires c = omega arith
