use Rattle.std.proofs.Common.{◌≢◌, inr, sym, ◌∙◌}
use Rattle.wire_buf.specs.Encoding.{Alone}
use Rattle.wire_buf.specs.Numbers.{IsLittle}
use Rattle.wire_buf.proofs.NumberLemmas.{byte_reads}
use Rattle.wire_buf.specs.declared.fault.WireFault.TheVariants.{Eof}
use Rattle.wire_fields_extra.proofs.ConstLemmas.{unknown_begins, constant_reads, constant_lacks}
use Rattle.wire_fields_extra.proofs.const_bytes.ConstU8MyDeserialize.deserialize.Goals as goal

pub returns-clause-ok : goal.returns-clause-ok
returns-clause-ok g c =
    constant_reads (Alone (IsLittle 1)) g.row.VALUE _ _ _ c.if-eat_u8.false
    (byte_reads _ _ _ c.requires c.eat_u8.ensures.value c.eat_u8.ensures.rest)

pub returns-then-eat_u8-clause-err : goal.returns-then-eat_u8-clause-err
returns-then-eat_u8-clause-err g c =
    inr (constant_lacks (Alone (IsLittle 1)) g.row.VALUE _ _ _ c.if-eat_u8.true
    (byte_reads _ _ _ c.requires c.eat_u8.ensures.value c.eat_u8.ensures.rest))

pub returns-then-eat_u8-clause-why : goal.returns-then-eat_u8-clause-why
returns-then-eat_u8-clause-why g c =
    unknown_begins (λ n. n ≢ g.row.VALUE) (IsLittle 1) (λ x. Eof) c.eat_u8.result _ _
    (byte_reads _ _ _ c.requires c.eat_u8.ensures.value c.eat_u8.ensures.rest) c.if-eat_u8.true
