use Rattle.std.proofs.Common.{◌≢◌, sym, ◌∙◌}
use Rattle.wire_buf.specs.Encoding.{IsBytes}
use Rattle.wire_buf.specs.declared.fault.WireFault.TheVariants.{Eof}
use Rattle.wire_fields.proofs.FieldLemmas.{bytes_read}
use Rattle.wire_fields_extra.proofs.ConstLemmas.{unknown_begins}
use Rattle.wire_fields_extra.proofs.const_bytes.ConstBytesMyDeserialize.deserialize.Goals as goal

pub returns-then-not-are_equal-clause-why : goal.returns-then-not-are_equal-clause-why
returns-then-not-are_equal-clause-why g c =
    unknown_begins (λ bytes. bytes ≢ g.T.ConstBytesValue.bytes) (IsBytes g.row.LEN) (λ x. Eof) c.eat.result.now _ _
    (bytes_read _ _ _ _ c.requires c.eat.ensures.value c.eat.ensures.rest)
    (λ same. let equal = c.are_equal.ensures.1 (same ∙ sym c.value.ensures.value) in absurd (cc (equal, c.if-not-are_equal.true)))
