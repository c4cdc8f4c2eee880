use Rattle.std.proofs.Common.{◌≡◌, Bool, List, ℕ, ap, drop, sym, subst, ◌∙◌}
use Rattle.std.specs.Prelude.{IfOk, if◌then◌else◌}
use Rattle.table_schemas.specs.YearSigns.{year_signs}
use Rattle.table_schemas.specs.YearSignViews.{signs_of}
use Rattle.table_schemas.proofs.MapLemmas.{map_is}
use Rattle.table_schemas.proofs.mysql_maps.MysqlMaps.put_mariadb.Goals as goal

pub returns : goal.returns
returns c =
    let event = c.args.event.now in
    subst (λ (m : List ℕ). IfOk c.put_by.result (λ (is_made : Bool). (if is_made then c.put_by.new.self.event.items else event) ≡ m))
    (sym (map_is c.args.has_checksum event c.in-Some-checked.bytes.now (signs_of c.in-Some.signs)
    (ap year_signs (sym (c.body_of.ensures ∙ ap (drop 19) c.unsummed.ensures)) ∙ sym c.in-Some.ensures)
    (sym c.in-Some-checked.ensures.bytes)))
    (c.put_by.ensures event)
