-- The type and the literal of a number, found in a table.
use Rattle.std.proofs.Common.{◌≡◌, ℕ, List, [], ◌∷◌, refl, subst, inl, inr, Some, None}
use Rattle.std.specs.Prelude.{◌==◌, find}
use Rattle.std.proofs.lemmas.Bool.Decides.{eqb_tells}
use Rattle.rows_jsonb.specs.JsonbTypes.{jsonb_type_number, jsonb_types, jsonb_type_of, literal_type_number, literal_types, literal_of}
use Rattle.rows_jsonb.specs.declared.types.JsonbType.{JsonbType}
use Rattle.rows_jsonb.specs.declared.types.JsonbType.TheVariants.{JSONB_TYPE_SMALL_OBJECT, JSONB_TYPE_LARGE_OBJECT, JSONB_TYPE_SMALL_ARRAY, JSONB_TYPE_LARGE_ARRAY, JSONB_TYPE_LITERAL, JSONB_TYPE_INT16, JSONB_TYPE_UINT16, JSONB_TYPE_INT32, JSONB_TYPE_UINT32, JSONB_TYPE_INT64, JSONB_TYPE_UINT64, JSONB_TYPE_DOUBLE, JSONB_TYPE_STRING, JSONB_TYPE_OPAQUE}
use Rattle.rows_jsonb.specs.declared.types.LiteralType.{LiteralType}
use Rattle.rows_jsonb.specs.declared.types.LiteralType.TheVariants.{JSONB_NULL_LITERAL, JSONB_TRUE_LITERAL, JSONB_FALSE_LITERAL}

found : (t : JsonbType) → jsonb_type_of (jsonb_type_number t) ≡ Some t
found JSONB_TYPE_SMALL_OBJECT = refl
found JSONB_TYPE_LARGE_OBJECT = refl
found JSONB_TYPE_SMALL_ARRAY = refl
found JSONB_TYPE_LARGE_ARRAY = refl
found JSONB_TYPE_LITERAL = refl
found JSONB_TYPE_INT16 = refl
found JSONB_TYPE_UINT16 = refl
found JSONB_TYPE_INT32 = refl
found JSONB_TYPE_UINT32 = refl
found JSONB_TYPE_INT64 = refl
found JSONB_TYPE_UINT64 = refl
found JSONB_TYPE_DOUBLE = refl
found JSONB_TYPE_STRING = refl
found JSONB_TYPE_OPAQUE = refl

pub type_found : (t : JsonbType) (n : ℕ) → jsonb_type_number t ≡ n → jsonb_type_of n ≡ Some t
type_found t n e = subst (λ (m : ℕ). jsonb_type_of m ≡ Some t) e (found t)

none_in : {A : Type 0} (number : A → ℕ) (n : ℕ) (ts : List A) → ((t : A) → number t ≡ n → ⊥) → find (λ t. number t == n) ts ≡ None
none_in number n [] h = refl
none_in number n (t ∷ ts) h = elim (eqb_tells (number t) n) [
  | inl e ↦ absurd (h t e.1)
  | inr e ↦ rw e.0 (none_in number n ts h)
]

pub type_missing : (n : ℕ) → ((t : JsonbType) → jsonb_type_number t ≡ n → ⊥) → jsonb_type_of n ≡ None
type_missing n h = none_in jsonb_type_number n jsonb_types h

literal_is : (t : LiteralType) → literal_of (literal_type_number t) ≡ Some t
literal_is JSONB_NULL_LITERAL = refl
literal_is JSONB_TRUE_LITERAL = refl
literal_is JSONB_FALSE_LITERAL = refl

pub literal_found : (t : LiteralType) (n : ℕ) → literal_type_number t ≡ n → literal_of n ≡ Some t
literal_found t n e = subst (λ (m : ℕ). literal_of m ≡ Some t) e (literal_is t)

pub literal_missing : (n : ℕ) → ((t : LiteralType) → literal_type_number t ≡ n → ⊥) → literal_of n ≡ None
literal_missing n h = none_in literal_type_number n literal_types h
