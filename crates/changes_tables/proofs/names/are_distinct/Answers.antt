use Rattle.std.proofs.Common.{List, ◌∷◌, ℕ, map, drop, ◌+◌, sym, ap, ◌∙◌, rules}
use Rattle.std.specs.Global.{Vec}
use Rattle.changes_tables.proofs.NameLemmas.{checked_more, checked_twice, items_from}
use Rattle.changes_tables.proofs.names.are_distinct.Goals as goal

pub loop-name-preserved : goal.loop-name-preserved
loop-name-preserved c =
    let rest = map (λ (n : Vec ℕ). n.items) (drop (c.loop-name.name-index + 1) c.args.names.now) in
    let left = items_from c.args.names.now c.loop-name.name-index c.name-item.result c.loop-name-test.true c.name-item.is in
    checked_more _ _ (map (λ (n : Vec ℕ). n.items) c.args.names.now) _ rest c.as_slice.result c.in_ok-insert.field-0 c.loop-name.invariant
    (left ∙ ap (λ (x : List ℕ). x ∷ rest) (sym c.as_slice.ensures.value)) c.in_ok-insert.ensures.added (search rules) c.in_ok-insert.ensures.updates.0

pub returns-then-not-branch : goal.returns-then-not-branch
returns-then-not-branch c =
    let rest = map (λ (n : Vec ℕ). n.items) (drop (c.loop-name.name-index + 1) c.args.names.now) in
    let left = items_from c.args.names.now c.loop-name.name-index c.name-item.result c.loop-name-test.true c.name-item.is in
    checked_twice _ (map (λ (n : Vec ℕ). n.items) c.args.names.now) _ rest c.as_slice.result c.in_ok-insert.field-0 c.loop-name.invariant
    (left ∙ ap (λ (x : List ℕ). x ∷ rest) (sym c.as_slice.ensures.value)) c.in_ok-insert.ensures.added (search rules)
