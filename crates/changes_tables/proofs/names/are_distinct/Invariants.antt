use Rattle.std.proofs.Common.{List, ℕ, map, drop}
use Rattle.std.specs.Global.{Vec}
use Rattle.std.specs.Borrow.{Bor}
use Rattle.std.specs.Ordering.{nat_cmp}
use Rattle.std.specs.Cmp.Lexicographic.{slice_cmp}
use Rattle.std.specs.BTreeSet.{contains}
use Rattle.changes_tables.proofs.NameLemmas.{Checked}
use Rattle.changes_tables.proofs.names.are_distinct.Given as goal

abbrev pub invariant-loop-name : goal.invariant-loop-name
invariant-loop-name l =
    Checked (contains (λ (x y : Bor (List ℕ)). slice_cmp nat_cmp x.now y.now) l.found) (map (λ (n : Vec ℕ). n.items) l.names) (map (λ (n : Vec ℕ). n.items) (drop l.name-index l.names))
