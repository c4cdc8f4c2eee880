use Rattle.table_schemas.specs.NamedTables.{named_in, names_of as names_bytes}
use Rattle.table_schemas.proofs.TableLemmas.{added_by}
use Rattle.table_schemas.proofs.schema.Schema.add.Goals as goal

pub returns-in-Ok-clause-added : goal.returns-in-Ok-clause-added
returns-in-Ok-clause-added c =
    added_by c.in_ok-names.names (names_bytes c.args.database.now c.args.table.now) c.args.columns (named_in c.args.self.now) c.insert.new.self.entries c.in_ok-names.ensures c.in-Ok.ensures.updates.1 c.in-Ok.ensures.updates.2
