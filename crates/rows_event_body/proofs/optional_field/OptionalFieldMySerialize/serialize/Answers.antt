use Rattle.std.proofs.Common.{ℕ, List, Option, Some}
use Rattle.std.proofs.lemmas.Result.{on_ok_weaker}
use Rattle.wire_buf.specs.Writing.{WritesField}
use Rattle.rows_event_body.specs.RowsEventFields.{IsOptionalPart, optional_encoded}
use Rattle.rows_event_body.proofs.optional_field.OptionalFieldMySerialize.serialize.Goals as goal

some_written : {A : Type 0} (encoded : A → Option (List ℕ)) (encoding : A → List ℕ → List ℕ → Type 0) (allows any : List ℕ → Type 0) (v : A) (old new : List ℕ) → ((rest : List ℕ) → allows rest) → WritesField encoded encoding allows v old new
    → WritesField (optional_encoded encoded) (IsOptionalPart encoding) any (Some v) old new
some_written encoded encoding allows any v old new all h = record { bytes = h.bytes; is = h.is; appended = h.appended; encodes = λ rest _. h.encodes rest (all rest); least = h.least }

pub returns-in-Some-clause-ok : goal.returns-in-Some-clause-ok
returns-in-Some-clause-ok g c =
    rw c.in-Some.is (on_ok_weaker c.serialize.result (some_written g.T.MySerialize.encoded g.T.MySerialize.encoding g.T.MySerialize.allows_rest _ _ c.args.buf.now.items c.serialize.new.buf.items g.met.T.Inner.before_any) c.serialize.ensures.ok)
