use Rattle.std.proofs.Common.{◌≢◌, inr, sym, ◌∙◌}
use Rattle.wire_buf.specs.Encoding.{Alone}
use Rattle.wire_buf.specs.Numbers.{IsLittle}
use Rattle.wire_buf.proofs.NumberLemmas.{little_reads}
use Rattle.wire_buf.specs.declared.fault.WireFault.TheVariants.{Eof}
use Rattle.wire_fields_extra.proofs.ConstLemmas.{unknown_begins, constant_reads, constant_lacks}
use Rattle.wire_fields_extra.proofs.const_bytes.ConstU32MyDeserialize.deserialize.Goals as goal

pub returns-clause-ok : goal.returns-clause-ok
returns-clause-ok g c =
    constant_reads (Alone (IsLittle 4)) g.row.VALUE _ _ _ c.if-eat_u32_le.false
    (little_reads 4 _ _ _ c.requires c.eat_u32_le.ensures.value c.eat_u32_le.ensures.rest)

pub returns-then-eat_u32_le-clause-err : goal.returns-then-eat_u32_le-clause-err
returns-then-eat_u32_le-clause-err g c =
    inr (constant_lacks (Alone (IsLittle 4)) g.row.VALUE _ _ _ c.if-eat_u32_le.true
    (little_reads 4 _ _ _ c.requires c.eat_u32_le.ensures.value c.eat_u32_le.ensures.rest))

pub returns-then-eat_u32_le-clause-why : goal.returns-then-eat_u32_le-clause-why
returns-then-eat_u32_le-clause-why g c =
    unknown_begins (λ n. n ≢ g.row.VALUE) (IsLittle 4) (λ x. Eof) c.eat_u32_le.result _ _
    (little_reads 4 _ _ _ c.requires c.eat_u32_le.ensures.value c.eat_u32_le.ensures.rest) c.if-eat_u32_le.true
