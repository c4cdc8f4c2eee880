use Rattle.std.proofs.Common.{◌≡◌, length, take}
use Rattle.rows_values.specs.PrintedDecimals.{glyphs}
use Rattle.rows_values.proofs.display.write_glyphs.Given as goal

-- the characters so far
abbrev pub invariant-loop-i : goal.invariant-loop-i
invariant-loop-i l = (length l.text ≡ length l.digits) × (take l.i l.text ≡ glyphs (take l.i l.digits))
