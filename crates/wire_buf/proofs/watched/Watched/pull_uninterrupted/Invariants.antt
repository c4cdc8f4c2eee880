use Rattle.std.proofs.Common.{◌≡◌, ◌≤◌, ◌<◌, ◌-◌}
use Rattle.std.specs.Io.KnownBytes.{Keeps}
use Rattle.wire_buf.specs.Watched.{inner_of, reads_of, has_failed}
use Rattle.wire_buf.proofs.watched.Watched.pull_uninterrupted.Given as goal

-- no read gave anything so far
abbrev pub invariant-reads : goal.invariant-reads
invariant-reads g l = record {
  kept : Keeps (g.R.Read.remaining (inner_of l.initial.self)) (g.R.Read.remaining (inner_of l.self));
  flag : has_failed l.self ≡ has_failed l.initial.self;
  more : reads_of l.initial.self ≤ reads_of l.self;
  at_most : reads_of l.initial.self < 9223372036854775807 → reads_of l.self ≤ 9223372036854775807;
  spent : 9223372036854775807 ≤ reads_of l.initial.self → (inner_of l.self ≡ inner_of l.initial.self) × (reads_of l.self ≡ reads_of l.initial.self);
}

abbrev pub decreases-reads : goal.decreases-reads
decreases-reads g l = 9223372036854775807 - reads_of l.self
