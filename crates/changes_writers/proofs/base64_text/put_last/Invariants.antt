use Rattle.std.proofs.Common.{◌≡◌, ◌+◌, ◌++◌, take, length}
use Rattle.base64.specs.Engines.{standard}
use Rattle.base64.specs.GeneralPurpose.{encode_of}
use Rattle.changes_writers.specs.Base64Texts.{base64_len}
use Rattle.changes_writers.proofs.base64_text.put_last.Given as goal

-- the digits written so far and those of the remaining bytes are those of all
abbrev pub invariant-loop-rest : goal.invariant-loop-rest
invariant-loop-rest l = record {
  end : l.end + base64_len (length l.rest) ≡ l.at + base64_len (length l.bytes);
  text : take l.end l.text ++ encode_of standard l.rest ≡ take l.at l.fn.text ++ encode_of standard l.bytes;
}

abbrev pub decreases-loop-rest : goal.decreases-loop-rest
decreases-loop-rest l = length l.rest
