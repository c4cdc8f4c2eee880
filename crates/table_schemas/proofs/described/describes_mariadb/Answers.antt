use Rattle.std.proofs.Common.{List, ℕ, ap, take, ◌∙◌}
use Rattle.std.specs.Prelude.{codes, is_some}
use Rattle.memchr.specs.Find.{first_of, matches}
use Rattle.table_schemas.proofs.MapLemmas.{word_found}
use Rattle.table_schemas.proofs.described.describes_mariadb.Goals as goal

pub returns : goal.returns
returns c =
    c.is_some.ensures
    ∙ word_found c.version_in-version.result.now c.find.result c.find.ensures
    ∙ ap (λ (v : List ℕ). is_some (first_of (matches v (codes "MariaDB") 0))) (c.version_in-version.ensures ∙ ap (take 50) c.from_version.ensures)
