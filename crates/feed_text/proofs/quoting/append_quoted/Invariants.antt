use Rattle.std.proofs.Common.{◌≡◌, ◌++◌, ◌∷◌, [], length, take}
use Rattle.std.specs.List.{flat_map}
use Rattle.feed_writers.specs.Quoting.{quoted_byte}
use Rattle.feed_text.proofs.quoting.append_quoted.Given as goal

-- the text so far and the remaining bytes give the whole text, and the text before is unchanged
abbrev pub invariant-loop-rest : goal.invariant-loop-rest
invariant-loop-rest g l = record {
  written : l.out.items ++ flat_map quoted_byte l.rest ≡ (l.fn.out.items ++ 39 ∷ []) ++ flat_map quoted_byte l.bytes;
  kept : take (length l.fn.out.items) l.out.items ≡ l.fn.out.items;
}

abbrev pub decreases-loop-rest : goal.decreases-loop-rest
decreases-loop-rest g l = length l.rest
