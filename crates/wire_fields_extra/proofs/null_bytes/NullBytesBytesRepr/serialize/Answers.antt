use Rattle.std.proofs.Common.{◌++◌, ◌∙◌, ap}
use Rattle.wire_fields_extra.proofs.NullLemmas.{null_writes}
use Rattle.wire_fields_extra.proofs.null_bytes.NullBytesBytesRepr.serialize.Goals as goal

pub returns-clause-ok : goal.returns-clause-ok
returns-clause-ok g c =
    null_writes c.args.text.now _ _ _ _ c.before_first_zero-text.ensures
    (c.in_ok-extend_from_slice.ensures.items ∙ ap (λ l. l ++ c.before_first_zero-text.result.now) c.in_ok-reserve.ensures.items) c.in_ok-push.ensures.items
