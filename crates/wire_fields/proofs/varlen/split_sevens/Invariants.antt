use Rattle.std.proofs.Common.{◌≡◌, ◌<◌, ◌-◌, ◌^◌}
use Rattle.wire_fields.proofs.SevenLemmas.{LeavesSevens}
use Rattle.wire_fields.proofs.varlen.split_sevens.Given as goal

-- the bytes read so far, and their value
abbrev pub invariant-bytes : goal.invariant-bytes
invariant-bytes l = record {
  scale_is : l.scale ≡ 128 ^ l.i;
  below : l.value < l.scale;
  leaves : LeavesSevens l.value l.scale (5 - l.i) l.initial.rest.0.now l.rest.0.now;
}
