use Rattle.std.proofs.Common.{length}
use Rattle.std.specs.Fmt.{IsFlush}
use Rattle.rows_values.specs.Digits.{AreDigits}
use Rattle.rows_values.proofs.DisplayLemmas.{Shows}
use Rattle.rows_values.proofs.display.put_glyphs.Given as goal

-- the characters of all digits but the rest were written
abbrev pub invariant-loop-rest : goal.invariant-loop-rest
invariant-loop-rest g l = AreDigits l.rest × (IsFlush l.initial.f → Shows g.W.Write.write_str_gives l.initial.f l.digits l.rest l.f)

abbrev pub decreases-loop-rest : goal.decreases-loop-rest
decreases-loop-rest g l = length l.rest
