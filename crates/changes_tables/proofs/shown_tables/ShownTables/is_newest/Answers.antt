use Rattle.std.proofs.Common.{List, ℕ, length, refl, ap, sym, ◌∙◌}
use Rattle.std.specs.List.{slice_get}
use Rattle.std.specs.Str.{bytes_eq}
use Rattle.std.proofs.lemmas.Option.{slice_get_read, slice_get_past}
use Rattle.changes_tables.specs.declared.shown_tables.KeptTable.{KeptTable}
use Rattle.changes_tables.proofs.KeptTableLemmas.{newest_iff, no_newest}
use Rattle.changes_tables.proofs.shown_tables.ShownTables.is_newest.Goals as goal

pub returns-in-Some : goal.returns-in-Some
returns-in-Some c =
    let t = c.args.self.now in
    newest_iff (slice_get t.tables.items t.newest) c.in-Some.kept.now c.eq.result c.args.map.now
    (ap (λ (ks : List KeptTable). slice_get ks t.newest) (sym c.deref.ensures.value) ∙ slice_get_read c.deref.result.now (length c.deref.result.now) t.newest c.in-Some.kept.now refl c.in-Some.ensures.lookup.3.0 c.in-Some.ensures.lookup.1)
    (c.eq.ensures ∙ ap (λ (b : List ℕ). bytes_eq b c.args.map.now) c.as_slice.ensures.value)

pub returns-in-None : goal.returns-in-None
returns-in-None c =
    let t = c.args.self.now in
    no_newest (slice_get t.tables.items t.newest) c.args.map.now (ap (λ (ks : List KeptTable). slice_get ks t.newest) (sym c.deref.ensures.value) ∙ slice_get_past c.deref.result.now t.newest c.in-None.ensures.lookup.3)
