use Rattle.std.proofs.Common.{◌≡◌}
use Rattle.std.specs.Io.KnownBytes.{Keeps}
use Rattle.wire_buf.specs.Watched.{inner_of, reads_of, has_failed}
use Rattle.wire_buf.proofs.watched.Watched.push_uninterrupted.Given as goal

-- no write took anything so far
abbrev pub invariant-writes : goal.invariant-writes
invariant-writes g l = record {
  kept : Keeps (g.W.Write.contents (inner_of l.initial.self)) (g.W.Write.contents (inner_of l.self));
  flag : has_failed l.self ≡ has_failed l.initial.self;
  reads : reads_of l.self ≡ reads_of l.initial.self;
}
