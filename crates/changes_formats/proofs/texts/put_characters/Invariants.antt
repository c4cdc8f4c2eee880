use Rattle.std.proofs.Common.{◌≡◌, take}
use Rattle.std.specs.List.{flat_map}
use Rattle.changes_formats.specs.EnvelopeTexts.{character}
use Rattle.changes_formats.proofs.texts.put_characters.Given as goal

abbrev pub invariant-loop-byte : goal.invariant-loop-byte
invariant-loop-byte l = l.decoded.items ≡ flat_map character (take l.byte-index l.bytes)
