use Rattle.std.proofs.Common.{◌≡◌, length, take}
use Rattle.wire_buf.specs.Encoding.{IsSequence, Reads}
use Rattle.changes_origins.specs.TaggedGtids.{IsByte}
use Rattle.changes_origins.proofs.tagged_gtid.uuid_field.Given as goal

abbrev pub invariant-loop-own : goal.invariant-loop-own
invariant-loop-own l = (length l.own-items ≡ 16) × Reads (IsSequence l.own-index IsByte) (take l.own-index l.own-items) l.initial.buf.0.now l.buf.0.now
