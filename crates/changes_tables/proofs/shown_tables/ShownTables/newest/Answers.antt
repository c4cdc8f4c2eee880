use Rattle.std.proofs.Common.{List, ℕ, length, refl, ap, sym, ◌∙◌}
use Rattle.std.specs.Prelude.{option_map}
use Rattle.std.specs.List.{slice_get}
use Rattle.std.proofs.lemmas.Option.{slice_get_read, slice_get_past}
use Rattle.changes_tables.specs.declared.shown_tables.KeptTable.{KeptTable}
use Rattle.changes_tables.proofs.KeptTableLemmas.{newest_shown, none_shown}
use Rattle.changes_tables.proofs.shown_tables.ShownTables.newest.Goals as goal

pub returns-in-Some-clause-shown : goal.returns-in-Some-clause-shown
returns-in-Some-clause-shown c = λ reads bytes m keeps read newest.
    let t = c.args.self.now in
    newest_shown t.options reads t.tables.items t.newest c.in-Some.kept.now bytes m
    (ap (λ (ks : List KeptTable). slice_get ks t.newest) (sym c.deref.ensures.value) ∙ slice_get_read c.deref.result.now (length c.deref.result.now) t.newest c.in-Some.kept.now refl c.in-Some.ensures.lookup.3.0 c.in-Some.ensures.lookup.1) keeps read newest

pub returns-in-None-clause-table : goal.returns-in-None-clause-table
returns-in-None-clause-table c =
    let t = c.args.self.now in
    sym (ap (option_map (λ (k : KeptTable). k.table)) (ap (λ (ks : List KeptTable). slice_get ks t.newest) (sym c.deref.ensures.value) ∙ slice_get_past c.deref.result.now t.newest c.in-None.ensures.lookup.3))

pub returns-in-None-clause-shown : goal.returns-in-None-clause-shown
returns-in-None-clause-shown c = λ reads bytes m keeps read newest.
    let t = c.args.self.now in
    none_shown t.tables.items t.newest bytes (ap (λ (ks : List KeptTable). slice_get ks t.newest) (sym c.deref.ensures.value) ∙ slice_get_past c.deref.result.now t.newest c.in-None.ensures.lookup.3) newest
