-- The value of a document, and how many bytes it takes.
use Rattle.std.proofs.Common.{◌≡◌, ◌≤◌, ◌+◌, ℕ, suc, List, [], ◌∷◌, length, drop, arith, refl, sym, ◌∙◌, Option, Some}
use Rattle.std.specs.Prelude.{slice_index}
use Rattle.rows_jsonb.specs.JsonbTypes.{jsonb_type_of}
use Rattle.rows_jsonb.specs.JsonbViews.{IsConsumed}
use Rattle.rows_jsonb.specs.JsonbValues.{document, document_size, of_type, value_size}
use Rattle.rows_jsonb.specs.declared.types.JsonbType.{JsonbType}

next_drop : (n b : ℕ) (r : List ℕ) → drop (1 + n) (b ∷ r) ≡ drop n r
next_drop n b r =
    let e : 1 + n ≡ suc n = omega arith in
    rw e refl

-- the type byte and the value are consumed
pub document_eaten : (x following after : List ℕ) (b : ℕ) (t : JsonbType) → 1 ≤ length x → b ≡ slice_index x 0 → following ≡ drop 1 x → jsonb_type_of b ≡ Some t → IsConsumed (value_size t following) following after → IsConsumed (document_size x) x after
document_eaten [] following after b t some first rest e eaten = absurd (omega arith)
document_eaten (a ∷ r) following after b t some first rest e eaten =
    let here : jsonb_type_of a ≡ Some t = rw first at e in
    let room = eaten.room in
    let left = eaten.rest in
    let all : document_size (a ∷ r) ≡ 1 + value_size t r = rw here refl in
    let same : following ≡ r = rest in
    record {
      room = rw all (let n : value_size t r ≤ length r = rw same at room in omega arith);
      rest = rw all (left ∙ rw same (sym (next_drop (value_size t r) a r)));
    }

-- the value is that of the type byte and the bytes after it
pub document_is : (x following : List ℕ) (b : ℕ) (o : Option JsonbType) → 1 ≤ length x → b ≡ slice_index x 0 → following ≡ drop 1 x → jsonb_type_of b ≡ o → of_type o following ≡ document x
document_is [] following b o some first rest e = absurd (omega arith)
document_is (a ∷ r) following b o some first rest e =
    let here : jsonb_type_of a ≡ o = rw first at e in
    let same : following ≡ r = rest in
    rw (here, same) refl
