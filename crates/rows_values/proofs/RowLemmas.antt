-- The values of a row that are copied one by one.
use Rattle.std.proofs.Common.{◌≡◌, ◌<◌, ◌+◌, ℕ, List, [], ◌∷◌, ◌++◌, Option, length, take, get_or, sym, subst}
use Rattle.std.proofs.lemmas.List.{take_more}
use Rattle.std.proofs.lemmas.List.Elements.{AllZip-push}
use Rattle.std.specs.List.{AllZip}
use Rattle.rows_values.specs.declared.rows.value.Value.{Value}
use Rattle.rows_values.specs.RowValues.{SameCell}

pub copies_more : (xs ys : List (Option Value)) (i : ℕ) (x y : Option Value) → i < length xs → x ≡ get_or xs i x → SameCell x y
    → AllZip SameCell (take i xs) ys → AllZip SameCell (take (i + 1) xs) (ys ++ y ∷ [])
copies_more xs ys i x y h is same prefix =
    let next = subst (λ v. SameCell v y) is same in
    subst (λ l. AllZip SameCell l (ys ++ y ∷ [])) (sym (take_more xs i x h)) (AllZip-push SameCell (take i xs) ys (get_or xs i x) y prefix next)
