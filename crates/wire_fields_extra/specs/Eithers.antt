-- A field that has one of two formats; its context says which.
use Rattle.std.specs.Prelude.{ℕ, List, Option, ⊤}
use Rattle.wire_buf.specs.Encoding.{Encoding}
use Rattle.wire_fields_extra.specs.declared.either.Either.{Either}
use Rattle.wire_fields_extra.specs.declared.either.Either.TheVariants.{Left, Right}

-- the value is on the side that the context names, and is encoded in the format of that side
abbrev pub IsEither : {C D A B : Type 0} → (C → Encoding A) → (D → Encoding B) → Either C D → Encoding (Either A B)
IsEither first second (Left c) (Left v) bytes rest = first c v bytes rest
IsEither first second (Right d) (Right w) bytes rest = second d w bytes rest
IsEither first second ctx v bytes rest = ⊥

-- the same without a context
abbrev pub IsSide : {A B : Type 0} → Encoding A → Encoding B → Encoding (Either A B)
IsSide first second (Left v) = first v
IsSide first second (Right w) = second w

-- the view of the side that is there
abbrev pub either_view : {A B C D : Type 0} → (A → C) → (B → D) → Either A B → Either C D
either_view first second (Left v) = Left (first v)
either_view first second (Right w) = Right (second w)

-- the error of reading the side that the context names
abbrev pub EitherFails : {C D E : Type 0} → (C → List ℕ → E → Type 0) → (D → List ℕ → E → Type 0) → Either C D → List ℕ → E → Type 0
EitherFails first second (Left c) x fault = first c x fault
EitherFails first second (Right d) x fault = second d x fault

-- the bytes that are written for either side
abbrev pub either_encoded : {A B : Type 0} → (A → Option (List ℕ)) → (B → Option (List ℕ)) → Either A B → Option (List ℕ)
either_encoded first second (Left v) = first v
either_encoded first second (Right w) = second w

abbrev pub IsLeft : {A B : Type 0} → Either A B → Type 0
IsLeft (Left v) = ⊤
IsLeft (Right w) = ⊥

abbrev pub IsRight : {A B : Type 0} → Either A B → Type 0
IsRight (Left v) = ⊥
IsRight (Right w) = ⊤
