use Rattle.table_schemas.proofs.EmptyLemmas.{all_same}
use Rattle.table_schemas.proofs.laws.empty_schema_changes_nothing.Goals as goal

pub returns : goal.returns
returns c = λ has_checksum own b h. all_same h
