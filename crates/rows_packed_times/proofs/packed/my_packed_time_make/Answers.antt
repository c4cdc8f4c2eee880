use Rattle.std.proofs.Common.{pos, ◌+ℤ◌, ◌*ℤ◌, ◌∙◌, ap, rules}
use Rattle.std.proofs.lemmas.Int.{wrapping_add_is, int_wrap-add_left, to_z-of_z}
use Rattle.std.specs.Int.{w64, int_wrap}
use Rattle.rows_packed_times.proofs.packed.my_packed_time_make.Goals as goal

pub returns : goal.returns
returns c =
    wrapping_add_is w64 c.my_packed_time_make_int.result c.args.f (search rules) c.ranges.f
    ∙ ap (λ z. int_wrap w64 (z +ℤ c.args.f)) c.my_packed_time_make_int.ensures
    ∙ int_wrap-add_left w64 _ c.args.f
    ∙ ap (λ z. int_wrap w64 ((z *ℤ pos 16777216) +ℤ c.args.f)) (to_z-of_z w64 c.args.i c.ranges.i)
