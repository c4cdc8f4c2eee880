use Rattle.std.proofs.Common.{◌≡◌, ◌*◌, map}
use Rattle.std.specs.List.{range_with_len}
use Rattle.table_schemas.specs.WrittenFields.{packed_byte}
use Rattle.table_schemas.proofs.fields.packed.Given as goal

abbrev pub invariant-loop-index : goal.invariant-loop-index
invariant-loop-index l = l.bytes.items ≡ map (λ i. packed_byte l.bits (8 * i)) (range_with_len 0 l.index)
