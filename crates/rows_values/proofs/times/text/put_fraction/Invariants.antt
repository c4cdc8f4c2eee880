use Rattle.std.proofs.Common.{take, ◌/◌, ◌%◌}
use Rattle.std.specs.List.{flat_map}
use Rattle.std.specs.Fmt.{decimal, HasWrittenStyled, IsFlush}
use Rattle.rows_values.proofs.times.text.put_fraction.Given as goal

-- the digits so far
abbrev pub invariant-loop-power : goal.invariant-loop-power
invariant-loop-power g l =
    IsFlush l.initial.f → HasWrittenStyled g.W.Write.write_str_gives l.initial.f (flat_map (λ power. decimal (l.micros / power % 10)) (take l.power-index l.power-items)) l.f
