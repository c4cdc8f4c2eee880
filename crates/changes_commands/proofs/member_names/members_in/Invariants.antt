use Rattle.std.proofs.Common.{length, take}
use Rattle.std.specs.Prelude.{◌==◌}
use Rattle.std.specs.List.{slice_split}
use Rattle.changes_commands.proofs.MemberNameLemmas.{SoFar}
use Rattle.changes_commands.proofs.member_names.members_in.Given as goal

abbrev pub invariant-loop-name : goal.invariant-loop-name
invariant-loop-name l = SoFar (take (length l.yielded) (slice_split (λ b. b == 44) l.names)) l.added
