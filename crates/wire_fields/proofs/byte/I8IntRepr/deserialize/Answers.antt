use Rattle.std.proofs.Common.{rules}
use Rattle.wire_buf.proofs.NumberLemmas.{signed_little_reads}
use Rattle.wire_fields.proofs.byte.I8IntRepr.deserialize.Goals as goal

pub returns-clause-ok : goal.returns-clause-ok
returns-clause-ok c = search (rules, signed_little_reads)
