use Rattle.std.proofs.lemmas.Result.{on_ok_weaker, IfErr-weaker}
use Rattle.rows_jsonb.proofs.fields.JsonbStringMySerialize.serialize.Goals as goal

pub returns-clause-ok : goal.returns-clause-ok
returns-clause-ok g c =
    on_ok_weaker c.serialize.result (λ h. record { bytes = h.bytes; is = h.is; appended = h.appended; encodes = h.encodes; least = h.least }) c.serialize.ensures.ok

pub returns-clause-err : goal.returns-clause-err
returns-clause-err g c =
    IfErr-weaker c.serialize.result _ _ (λ e h. record { unchanged = h.unchanged; why = h.why }) c.serialize.ensures.err
