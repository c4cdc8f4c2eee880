use Rattle.std.proofs.Common.{arith}
use Rattle.std.proofs.lemmas.List.{length-drop}
use Rattle.std.proofs.lemmas.Result.{IfOk-from_err}
use Rattle.rows_jsonb.proofs.complex.ComplexValue.read.Goals as goal

pub eat_offset-element_count-requires : goal.eat_offset-element_count-requires
eat_offset-element_count-requires g c = omega (arith, g.met.T.StorageFormat.offset_sized)

pub eat_offset-size-requires : goal.eat_offset-size-requires
eat_offset-size-requires g c = rw (c.eat_offset-element_count.ensures.rest, length-drop) (omega (arith, g.met.T.StorageFormat.offset_sized))

pub eat-requires : goal.eat-requires
eat-requires g c = omega (arith, c.in_ok-check_place.ensures.end)

pub returns-in_err-check_place-clause-rest : goal.returns-in_err-check_place-clause-rest
returns-in_err-check_place-clause-rest g c = IfOk-from_err c.from_residual.result _ c.from_residual.ensures.0
