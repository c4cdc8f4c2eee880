use Rattle.std.proofs.Common.{ℕ, map, ap, ◌∙◌, rules}
use Rattle.std.specs.Global.{Vec}
use Rattle.changes_tables.specs.PrimaryKeys.{key_member}
use Rattle.changes_tables.proofs.KeyTextLemmas.{key_written}
use Rattle.changes_tables.proofs.key.key_member.Goals as goal

pub returns : goal.returns
returns c =
    let names = map (λ (n : Vec ℕ). n.items) c.args.names.now in
    key_written names c.in_ok-columns.columns.items c.in-Some.others.now c.in-Some.first.now c.name_at.result.now c.extend_from_slice.new.self.items c.append_string.new.out.items c.append_names.new.out.items c.push.new.self.items
    (search rules) (search rules) c.name_at.ensures c.in_ok-append_string.ensures c.in_ok-append_names.ensures c.in_ok-push.ensures.items
    ∙ ap (key_member names) c.in_ok-columns.ensures
