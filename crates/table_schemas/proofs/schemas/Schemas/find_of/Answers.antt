use Rattle.std.proofs.Common.{ℕ, List, sym, ap, ◌∙◌}
use Rattle.std.specs.Option.{option_copied}
use Rattle.rows_table_map.specs.MapViews.{map_of}
use Rattle.table_schemas.specs.NamedTables.{table_named}
use Rattle.table_schemas.specs.CompletedMaps.{Tables, tables_of, tables_at, names_in as names_within}
use Rattle.table_schemas.specs.SchemaFits.{first_difference}
use Rattle.table_schemas.specs.declared.schema_column.SchemaColumn.{SchemaColumn}
use Rattle.table_schemas.proofs.TableLemmas.{added_fields}
use Rattle.table_schemas.proofs.schemas.Schemas.find_of.Goals as goal

pub returns-in-None-clause-fields : goal.returns-in-None-clause-fields
returns-in-None-clause-fields c =
    let m = map_of c.args.map.now in
    let tables = tables_at (tables_of c.args.self.now) c.args.event.now in
    added_fields c.put_missing.result m (table_named (names_within m c.args.body.now) tables) c.in-Some.table.now c.in-Some-of.logged c.args.self.now.fields.items c.put_missing.new.out.items
    (ap (λ (n : List ℕ). table_named n tables) (sym c.names_in-names.ensures) ∙ ap (λ (l : Tables). table_named c.names_in-names.result.now (tables_at l c.args.event.now)) (sym c.as_slice.ensures.value) ∙ sym c.table_at.ensures ∙ ap option_copied c.in-Some.is)
    (sym c.of.ensures ∙ c.in-Some-of.is)
    (ap (λ (cs : List SchemaColumn). first_difference cs m) (sym c.deref.ensures.value) ∙ sym c.first_difference.ensures ∙ c.in-None.is)
    c.requires.none c.put_missing.ensures
