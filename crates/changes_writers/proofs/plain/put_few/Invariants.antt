use Rattle.std.proofs.Common.{◌≡◌, ◌+◌, ◌++◌, take}
use Rattle.std.specs.List.{AllPass}
use Rattle.changes_writers.specs.PlainText.{is_plain}
use Rattle.changes_writers.proofs.plain.put_few.Given as goal

-- the bytes copied so far
abbrev pub invariant-loop-byte : goal.invariant-loop-byte
invariant-loop-byte l = record {
  end : l.end ≡ l.at + l.byte-index;
  plain : AllPass is_plain (take l.byte-index l.bytes);
  written : take l.end l.text ≡ take l.at l.fn.text ++ take l.byte-index l.bytes;
}
