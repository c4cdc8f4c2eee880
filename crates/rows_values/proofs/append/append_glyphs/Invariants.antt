use Rattle.std.proofs.Common.{◌≡◌, ◌++◌, length, take}
use Rattle.rows_values.specs.PrintedDecimals.{glyphs}
use Rattle.rows_values.proofs.append.append_glyphs.Given as goal

-- the characters so far
abbrev pub invariant-loop-digit : goal.invariant-loop-digit
invariant-loop-digit g l = record {
  text : l.out.items ≡ l.initial.out.items ++ glyphs (take l.digit-index l.digits);
  normalized : take (length l.initial.out.items) l.out.items ≡ l.initial.out.items;
}
