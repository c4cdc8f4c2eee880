use Rattle.std.proofs.Common.{◌*◌, ℕ}
use Rattle.table_schemas.specs.WrittenFields.{packed_byte}
use Rattle.table_schemas.proofs.PackedLemmas.{mapped_more}
use Rattle.table_schemas.proofs.fields.packed.Goals as goal

pub loop-index-preserved : goal.loop-index-preserved
loop-index-preserved c =
    mapped_more (λ (i : ℕ). packed_byte c.args.bits.now (8 * i)) c.loop-index.bytes.items c.push.new.self.items c.loop-index.index c.byte_at.result c.loop-index.invariant c.byte_at.ensures c.in_ok-push.ensures.items
