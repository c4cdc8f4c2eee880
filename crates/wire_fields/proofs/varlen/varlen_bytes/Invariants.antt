use Rattle.std.proofs.Common.{◌≡◌, ◌≤◌, ◌<◌, ◌-◌, ◌^◌, ◌++◌, length, take}
use Rattle.wire_fields.specs.Sevens.{sevens_encoded}
use Rattle.wire_fields.proofs.varlen.varlen_bytes.Given as goal

-- the bytes in the array are followed by the encoding of the rest
abbrev pub invariant-loop-rest : goal.invariant-loop-rest
invariant-loop-rest l = record {
  size : length l.bytes ≡ 5;
  room : l.len ≤ 4;
  fits : l.rest < 128 ^ (5 - l.len);
  encoding_is : take l.len l.bytes ++ sevens_encoded (5 - l.len) l.rest ≡ sevens_encoded 5 l.fn.val;
}

abbrev pub decreases-loop-rest : goal.decreases-loop-rest
decreases-loop-rest l = l.rest
