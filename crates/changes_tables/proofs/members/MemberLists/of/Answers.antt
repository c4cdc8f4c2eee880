use Rattle.std.proofs.Common.{sym}
use Rattle.changes_tables.proofs.MemberLemmas.{no_members}
use Rattle.changes_tables.proofs.members.MemberLists.of.Goals as goal

pub returns-in-None : goal.returns-in-None
returns-in-None c = rw c.in-None.is (sym no_members)
