use Rattle.std.proofs.Common.{◌≡◌, ◌++◌, take}
use Rattle.std.specs.List.{flat_map}
use Rattle.feed_text.specs.Buffers.{text_in}
use Rattle.changes_formats.specs.EnvelopeTexts.{replaced_byte}
use Rattle.changes_formats.proofs.texts.put_replaced.Given as goal

abbrev pub invariant-loop-byte : goal.invariant-loop-byte
invariant-loop-byte l = text_in l.out ≡ text_in l.initial.out ++ flat_map replaced_byte (take l.byte-index l.bytes)
