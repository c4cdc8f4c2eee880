use Rattle.std.proofs.Common.{arith}
use Rattle.table_schemas.specs.CompletedMaps.{tables_of}
use Rattle.table_schemas.proofs.StartLemmas.{begun_set}
use Rattle.table_schemas.proofs.schemas.Schemas.begin.Goals as goal

pub returns-then-index-len : goal.returns-then-index-len
returns-then-index-len c = begun_set (tables_of c.args.self.now) c.args.index c.args.start c.index_mut.result.now (omega (arith, c.if-index-len.true, c.len.ensures)) c.index_mut.ensures.value
