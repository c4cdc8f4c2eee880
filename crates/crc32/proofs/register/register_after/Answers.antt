use Rattle.std.proofs.Common.{ap, ◌∙◌, arith}
use Rattle.std.proofs.lemmas.List.{take_rest}
use Rattle.crc32.specs.Checksums.{after_bytes}
use Rattle.crc32.proofs.MessageLemmas.{sixteen_more}
use Rattle.crc32.proofs.register.register_after.Goals as goal

pub loop-at-preserved : goal.loop-at-preserved
loop-at-preserved c = record {
  in_range = omega arith;
  same =
      sixteen_more
      c.args.bytes.now c.loop-at.at c.loop-at.register
      c.read_u32-first.result c.read_u32-second.result c.read_u32-third.result c.read_u32-fourth.result
      _ _ _ _
      c.loop-at-test.true (λ i. omega (arith, c.type_inv.bytes i))
      c.read_u32-first.ensures c.read_u32-second.ensures c.read_u32-third.ensures c.read_u32-fourth.ensures
      c.register_after_zeros.ensures c.register_after_zeros-in-loop-at.ensures c.register_after_zeros-in-loop-at-2.ensures c.register_after_zeros-in-loop-at-3.ensures
      ∙ c.loop-at.invariant.same;
}

pub returns : goal.returns
returns c = c.register_after_few.ensures ∙ ap (after_bytes c.loop-at.register) (take_rest c.args.bytes.now c.loop-at.at) ∙ c.loop-at.invariant.same
