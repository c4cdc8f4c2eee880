use Rattle.std.proofs.Common.{◌≡◌, ◌++◌, length, take}
use Rattle.std.specs.List.{flat_map}
use Rattle.feed_writers.specs.Quoting.{quoted_byte}
use Rattle.feed_text.specs.Buffers.{text_in}
use Rattle.feed_text.proofs.buffer.TextBuffer.put_many.Given as goal

-- the text so far and the remaining bytes give the whole text, and the text before is unchanged
abbrev pub invariant-loop-rest : goal.invariant-loop-rest
invariant-loop-rest g l = record {
  written : text_in l.self ++ flat_map quoted_byte l.rest ≡ text_in l.fn.self ++ flat_map quoted_byte l.bytes;
  kept : take (length (text_in l.fn.self)) (text_in l.self) ≡ text_in l.fn.self;
}

abbrev pub decreases-loop-rest : goal.decreases-loop-rest
decreases-loop-rest g l = length l.rest
