-- What `==` decides of parts that may be absent.
use Rattle.std.proofs.Common.{◌≡◌, Bool, true, true≢false, Option, Some, None, refl, sym, ap}
use Rattle.std.specs.Prelude.{option_map}
use Rattle.std.specs.Option.{option_eq}
use Rattle.std.specs.Bool.{Decides}
use Rattle.std.proofs.lemmas.Bool.Decides.{Decides-like}

-- optional values are equal exactly if their images are, if `==` of values decides whether these are
pub maybe_decides : {A B : Type 0} (E : A → A → Bool) (f : A → B) → ((x y : A) → Decides (E x y) (f x ≡ f y)) → (o p : Option A) → Decides (option_eq E o p) (option_map f o ≡ option_map f p)
maybe_decides E f each None None = (λ e. refl, λ e. refl)
maybe_decides E f each None (Some y) = (λ e. absurd (true≢false (sym e)), λ e. cc)
maybe_decides E f each (Some x) None = (λ e. absurd (true≢false (sym e)), λ e. cc)
maybe_decides E f each (Some x) (Some y) = Decides-like _ (λ e. ap (λ v. Some v) e) (λ e. cc) (each x y)

-- the units after the field of a struct with one field are equal
pub true_decides : Decides true (Unit {0})
true_decides = (λ e. tt, λ e. refl)
