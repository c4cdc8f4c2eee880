-- Text that grew several times.
use Rattle.std.proofs.Common.{ℕ, List, ◌++◌, ap, ◌∙◌, append_assoc}
use Rattle.changes_commands.specs.GrowingTexts.{bytes_in, Grows, IsLonger}
use Rattle.changes_commands.specs.declared.text.Text.{Text}

pub longer_then : (a b c : Text) (x y : List ℕ) → IsLonger a b x → IsLonger b c y → IsLonger a c (x ++ y)
longer_then a b c x y first then whole =
    let k = then whole in
    let j = first k.0 in
    (j.0, k.1 ∙ ap (λ (l : List ℕ). l ++ y) j.1 ∙ append_assoc (bytes_in a) x y)

pub grows_then : (a b c : Text) → Grows a b → Grows b c → Grows a c
grows_then a b c first then = (first.0 ++ then.0, longer_then a b c first.0 then.0 first.1 then.1)

pub grows_by : (a b : Text) (x : List ℕ) → IsLonger a b x → Grows a b
grows_by a b x longer = (x, longer)
